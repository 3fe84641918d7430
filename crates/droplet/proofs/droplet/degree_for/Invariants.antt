-- `degree_for` meets its contract. The invariant: the first `i` weights and what is left of `r` come to `r`, and what is left of the
-- search from there on finds the degree. Assumes nothing.
use mathlib.Core.Path.{◌≡◌}
use mathlib.Core.List.{List}
use Prim.Native.Nat.{ℕ, ◌+◌, ◌-◌}
use Rattle.droplet.specs.PoolCard.{weight_count, first_weights}
use Rattle.droplet.specs.Droplet.{degree_from, degree}
use Rattle.droplet.proofs.droplet.degree_for.Given as goal

pub record Passed (weights : List ℕ) (r i left : ℕ) : Type 0 where
  pub taken : first_weights weights i + left ≡ r
  pub goes_on : degree_from weights r (weight_count weights - i) i ≡ degree weights r

abbrev pub invariant-loop-i : goal.invariant-loop-i
invariant-loop-i l = Passed l.weights l.fn.r l.i l.left
