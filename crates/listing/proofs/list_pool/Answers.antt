-- `list_pool` meets its contract: the records that the lines left are within the store. Assumes nothing.
use Rattle.listing.proofs.BehindRecords.{lists-within}
use Rattle.listing.proofs.list_pool.Goals as goal

pub total_behind-total-requires : goal.total_behind-total-requires
total_behind-total-requires g c = rw c.from.ensures (lists-within _ _ _ _ _ c.requires c.list_reads-t.ensures)
