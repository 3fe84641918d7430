-- `mark_bytes` meets its contract. Assumes nothing.
use Rattle.std.proofs.Common.{arith}
use Rattle.marks.specs.Marks.{mark_bytes}
use Rattle.marks.proofs.bits.mark_bytes.Goals as goal

pub returns : goal.returns
unfolding mark_bytes
returns c = omega (arith, c.div_ceil.ensures)
