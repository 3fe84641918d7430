-- `number_at` meets its contract: the four bytes are those of the list. Assumes nothing.
use Rattle.std.proofs.Common.{◌∙◌, arith}
use Rattle.field.proofs.BigEndian.{from_be-big_endian}
use Rattle.field.proofs.bytes.number_at.Goals as goal

pub returns : goal.returns
returns c = c.from_be_bytes.ensures ∙ from_be-big_endian c.args.bytes.now c.args.at (omega arith)
