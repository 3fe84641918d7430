-- `list_reads` meets its contract: it starts with nothing read, goes through what came, and ends the input. Assumes nothing.
use Rattle.listing.proofs.LineInHand.{begins, came-whole}
use Rattle.listing.proofs.input.list_reads.Goals as goal

pub returns : goal.returns
returns g c = came-whole _ _ _ _ _ _ _ _ _ _ (begins _ c.default.ensures _ _ c.requires) c.read_all-t.ensures c.end_input.ensures
