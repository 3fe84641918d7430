-- `Draw::next` meets its contract. Assumes nothing.
use Rattle.std.proofs.Common.{refl}
use Rattle.field.specs.Generator.{after_draw, xorshift}
use Rattle.field.proofs.generator.Draw.next.Goals as goal

pub returns : goal.returns
unfolding after_draw xorshift
returns c = refl
