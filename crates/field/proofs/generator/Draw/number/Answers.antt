-- `Draw::number` meets its contract. Assumes nothing.
use Rattle.std.proofs.Common.{rules}
use Rattle.field.specs.Generator.{number_drawn}
use Rattle.field.proofs.generator.Draw.number.Goals as goal

pub returns : goal.returns
unfolding number_drawn
returns c = search rules
