-- `mark_at` meets its contract: the byte shifted down has the bit lowest. Assumes nothing.
use mathlib.Core.Path.{refl}
use Rattle.marks.specs.Marks.{mark_at}
use Rattle.marks.proofs.bits.mark_at.Goals as goal

pub returns : goal.returns
unfolding mark_at
returns c = refl
