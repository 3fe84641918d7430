-- `sum_weights` meets its contract: few weights are summed one by one from none on. Assumes nothing.
use Rattle.droplet.specs.PoolCard.{first_weights}
use borrow.Author.Rules.{rules}
use Rattle.droplet.proofs.weights.sum_weights.Goals as goal

pub sum_rest-requires-clause-first_value : goal.sum_rest-requires-clause-first_value
unfolding first_weights
sum_rest-requires-clause-first_value c = search rules
