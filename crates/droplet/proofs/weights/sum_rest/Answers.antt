-- `sum_rest` meets its contract: a turn adds one more weight. Assumes nothing.
use mathlib.Core.Path.{ap, ◌∙◌}
use native.Mathlib.Numerals.{add-one}
use native.Mathlib.Omega.{arith}
use Rattle.droplet.specs.PoolCard.{first_weights}
use Rattle.droplet.proofs.weights.sum_rest.Goals as goal

pub loop-i-preserved : goal.loop-i-preserved
unfolding first_weights
loop-i-preserved c = simp add-one (omega arith)

pub returns : goal.returns
returns c = c.loop-i.invariant.0 ∙ ap (first_weights _) (omega arith)
