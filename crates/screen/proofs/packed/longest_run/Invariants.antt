-- `longest_run` meets its contract. The invariant: what is counted of the longest run, with the longest row that is left, is as much as
-- when the loop began. Assumes nothing.
use mathlib.Core.Path.{◌≡◌}
use Prim.Native.Nat.{◌+◌}
use Rattle.screen.specs.Loops.{chunks_number, Flags, longest_row}
use Rattle.screen.proofs.packed.longest_run.Given as goal

abbrev pub invariant-loop-longest : goal.invariant-loop-longest
invariant-loop-longest l =
    Flags 320 (chunks_number l.matches)
    × (l.longest + longest_row 320 (chunks_number l.matches) ≡ 1 + longest_row 320 (chunks_number l.initial.matches))

abbrev pub decreases-loop-longest : goal.decreases-loop-longest
decreases-loop-longest l = longest_row 320 (chunks_number l.matches)
