-- `replace_evidence` meets its contract: payload and state are written over the part behind the seed. Assumes nothing.
use Rattle.std.proofs.Common.{arith}
use Rattle.decoder.specs.Store.{record_bytes}
use Rattle.decoder.proofs.BufferParts.{part-written}
use Rattle.decoder.proofs.RecordBytes.{evidence-length}
use Rattle.decoder.proofs.records.replace_evidence.Goals as goal

pub returns : goal.returns
unfolding record_bytes
returns c = part-written _ _ _ _ (omega arith) (rw (evidence-length c.args.payload.now c.args.clean) c.put_evidence.ensures)
