-- `value_at` meets its contract: what is left of the word takes the value to the word's. Assumes nothing.
use Rattle.std.proofs.Common.{◌≡◌, drop}
use Rattle.field.specs.CheckBytes.{horner, value_at}
use Rattle.field.proofs.check_bytes.value_at.Given as goal

abbrev pub invariant-loop-b : goal.invariant-loop-b
invariant-loop-b g l = horner g.row.I l.value (drop l.b-index l.word) ≡ value_at g.row.I l.word
