-- `end_input` meets its contract: a line in hand is the last one, and after a newline there is none. Assumes nothing.
use Rattle.std.proofs.Common.{arith}
use Rattle.listing.specs.Loops.{after_newline, after_end}
use Rattle.listing.proofs.InputLines.{last_none, last_one}
use Rattle.listing.proofs.tally.Pool.end_input.Goals as goal

pub returns-then-t-eq0 : goal.returns-then-t-eq0
unfolding after_end
returns-then-t-eq0 c = λ p h. rw (last_none _ _ p.listed p.line (omega (arith, c.if-t-eq0.true, h.hand.size, h.hand.wide))) h.lines

pub returns : goal.returns
unfolding after_end after_newline
returns c = λ p h. rw (last_one _ _ p.listed p.line (omega (arith, c.if-t-eq0.false, h.hand.size, h.hand.wide))) (c.end_line.ensures.holds p h).lines
