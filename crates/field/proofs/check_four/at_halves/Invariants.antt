-- `at_halves` meets its contract: the entries of the half bytes below k. Assumes nothing.
use Rattle.std.proofs.Common.{◌≡◌}
use Rattle.field.specs.Loops.{at_halves}
use Rattle.field.proofs.check_four.at_halves.Given as goal

abbrev pub invariant-loop-k : goal.invariant-loop-k
invariant-loop-k l = l.sum ≡ at_halves l.k l.table l.x
