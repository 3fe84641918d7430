-- `degree_for` meets its contract: the weights do not run out, as they sum to more than `r`. Assumes nothing.
use mathlib.Core.Path.{sym, ◌∙◌}
use native.Mathlib.Nat.{sub-zero}
use native.Mathlib.Numerals.{add-one}
use native.Mathlib.Omega.{arith}
use Rattle.droplet.specs.PoolCard.{first_weights}
use Rattle.droplet.specs.Droplet.{degree}
use Rattle.droplet.proofs.Degree.{degree-found, degree-next}
use Rattle.droplet.proofs.droplet.degree_for.Goals as goal

pub loop-i-init : goal.loop-i-init
unfolding first_weights degree
loop-i-init c = record { taken = omega arith; goes_on = rw sub-zero }

pub returns-then-left-next : goal.returns-then-left-next
unfolding first_weights
returns-then-left-next c =
    let now = c.loop-i.invariant in
    sym (degree-found _ _ _ _ (simp add-one (omega (arith, now.taken, c.weight-next.ensures)))) ∙ degree-next _ _ _ _ c.loop-i-test.true (omega (arith, now.taken)) ∙ now.goes_on

pub loop-i-preserved : goal.loop-i-preserved
unfolding first_weights
loop-i-preserved c =
    let now = c.loop-i.invariant in
    record {
      taken = simp add-one (omega (arith, now.taken, c.weight-next.ensures));
      goes_on = degree-next _ _ _ _ c.loop-i-test.true (omega (arith, now.taken)) ∙ now.goes_on;
    }
