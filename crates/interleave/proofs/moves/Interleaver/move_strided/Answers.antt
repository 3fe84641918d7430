-- `move_strided` meets its contract. Assumes nothing.
use Rattle.interleave.proofs.moves.Interleaver.move_strided.Goals as goal

pub returns-then-self : goal.returns-then-self
returns-then-self c = simp c.if-self.true c.copy_strided.ensures

pub returns-else-self : goal.returns-else-self
returns-else-self c = simp c.if-self.false c.copy_strided-else-self.ensures
