-- `write_letters` meets its contract. The invariant: what is written, and the letters of what is left, are the word's letters.
-- Assumes nothing.
use mathlib.Core.Path.{◌≡◌}
use mathlib.Core.List.{◌++◌}
use Prim.Native.Nat.{◌*◌}
use lib.ListN.{take, drop}
use Rattle.screen.specs.Letters.{word_letters}
use Rattle.screen.proofs.letters.write_letters.Given as goal

abbrev pub invariant-loop-i : goal.invariant-loop-i
invariant-loop-i l = take (4 * l.i) l.out ++ word_letters (drop l.i l.word) ≡ word_letters l.word
