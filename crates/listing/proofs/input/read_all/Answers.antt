-- `read_all` meets its contract: what comes in a turn comes behind what came so far. Assumes nothing.
use Rattle.listing.proofs.LineInHand.{came-read}
use Rattle.listing.proofs.input.read_all.Goals as goal

pub loop-preserved : goal.loop-preserved
loop-preserved g c = let h = came-read _ _ _ _ _ _ _ _ _ _ _ _ _ c.loop.invariant c.take_read.ensures in rw c.in-Some.is at h
