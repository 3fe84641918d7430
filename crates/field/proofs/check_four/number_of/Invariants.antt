-- `number_of` meets its contract: the number has 8 bits for each byte passed, so it fits, and what is left of the word takes its
-- values to the word's. Assumes nothing.
use Rattle.std.proofs.Common.{◌*◌, ◌^◌, ◌<◌, drop}
use Rattle.field.proofs.Remainders.{Goes}
use Rattle.field.proofs.check_four.number_of.Given as goal

abbrev pub invariant-loop-b : goal.invariant-loop-b
invariant-loop-b l = record { fits : l.r < 2 ^ (8 * l.b-index); goes : Goes l.word l.r (drop l.b-index l.word) }
