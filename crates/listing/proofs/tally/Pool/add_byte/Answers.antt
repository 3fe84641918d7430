-- `add_byte` meets its contract: a newline ends the line, any other byte is kept while the buffer has room. Assumes nothing.
use Rattle.std.proofs.Common.{arith, length-set, eq-eqb, ne_eqb}
use Rattle.listing.specs.Loops.{after_byte}
use Rattle.listing.proofs.LineInHand.{byte-kept, byte-dropped}
use Rattle.listing.proofs.tally.Pool.add_byte.Goals as goal

pub returns-then-b-eq10 : goal.returns-then-b-eq10
unfolding after_byte
returns-then-b-eq10 c = record {
  within = c.end_line.ensures.within;
  holds = λ p h. rw (eq-eqb _ _ c.if-b-eq10.true) (c.end_line.ensures.holds p h);
}

pub returns-then-n-line : goal.returns-then-n-line
unfolding after_byte
returns-then-n-line c = record {
  within = simp length-set (omega arith);
  holds = λ p h. rw (ne_eqb _ _ c.if-b-eq10.false) (record {
    lines = record {
      numbers = record {
        reads = h.lines.numbers.reads;
        accepted = h.lines.numbers.accepted;
        repeated = h.lines.numbers.repeated;
        refused = h.lines.numbers.refused;
        count = h.lines.numbers.count;
      };
      records = h.lines.records;
    };
    hand = byte-kept _ _ _ _ h.hand c.if-n-line.true;
  });
}

pub returns : goal.returns
unfolding after_byte
returns c = record {
  within = omega arith;
  holds = λ p h. rw (ne_eqb _ _ c.if-b-eq10.false) (record {
    lines = h.lines;
    hand = byte-dropped _ _ _ _ h.hand c.if-n-line.false;
  });
}
