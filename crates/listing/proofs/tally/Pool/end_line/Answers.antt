-- `end_line` meets its contract: the call is offered the line, or a front of it that is answered as the line. Assumes nothing.
use Rattle.listing.proofs.LineInHand.{line-ended}
use Rattle.listing.proofs.tally.Pool.end_line.Goals as goal

pub returns : goal.returns
returns c = line-ended _ _ _ _ _ _ _ _ c.store_read-answer.ensures c.add_answer.ensures
