-- `put_count` meets its contract: four bytes are written over the part behind the state. Assumes nothing.
use Rattle.std.proofs.Common.{◌∙◌, arith}
use Rattle.field.proofs.BigEndian.{to_be-big_endian}
use Rattle.decoder.specs.Store.{record_bytes}
use Rattle.decoder.proofs.BufferParts.{part-written}
use Rattle.decoder.proofs.records.put_count.Goals as goal

pub returns : goal.returns
unfolding record_bytes
returns c = let four = c.to_be_bytes.ensures ∙ to_be-big_endian c.args.count in part-written _ _ _ _ (omega arith) (rw four at c.copy.ensures)
