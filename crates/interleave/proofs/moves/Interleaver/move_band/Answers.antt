-- `move_band` meets its contract. Assumes nothing.
use Rattle.interleave.proofs.moves.Interleaver.move_band.Goals as goal

pub move_line-requires : goal.move_line-requires
move_line-requires c = (rw c.if-lines-eq1.true at c.requires.0, c.requires.1)

pub returns-then-lines-eq1 : goal.returns-then-lines-eq1
returns-then-lines-eq1 c = rw c.if-lines-eq1.true c.move_line.ensures
