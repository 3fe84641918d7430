-- `Draw::of_seed` meets its contract. Assumes nothing.
use Rattle.std.proofs.Common.{rules}
use Rattle.field.specs.Generator.{of_seed}
use Rattle.field.proofs.generator.Draw.of_seed.Goals as goal

pub returns : goal.returns
unfolding of_seed
returns c = search rules
