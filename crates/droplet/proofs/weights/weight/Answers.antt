-- `weight` meets its contract: it is the number in four bytes. Assumes nothing.
use Rattle.droplet.specs.PoolCard.{number_at, weight_at}
use Rattle.droplet.proofs.weights.weight.Goals as goal

pub returns : goal.returns
unfolding weight_at number_at
returns c = c.number_at.ensures
