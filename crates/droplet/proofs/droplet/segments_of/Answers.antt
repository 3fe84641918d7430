-- `segments_of` meets its contract: the first draw gives the degree, the draws after it the set. Assumes nothing.
use mathlib.Core.Path.{◌≡◌}
use mathlib.Core.List.{List}
use Prim.Native.Nat.{ℕ, ◌%◌, ◌<◌, ◌≤◌}
use native.Mathlib.Nat.{mod-lt}
use native.Mathlib.Omega.{arith}
use Rattle.droplet.specs.PoolCard.{weight_count, weight_sum}
use Rattle.droplet.specs.Droplet.{degree, degree_of, segments_of}
use Rattle.droplet.proofs.Degree.{degree-is}
use borrow.Author.Rules.{rules}
use Rattle.droplet.proofs.droplet.segments_of.Goals as goal

-- a number drawn modulo the weights' sum is below it, and gives a degree that is at most D
module _ (ws : List ℕ) (sum number : ℕ) (summed : sum ≡ weight_sum ws) (positive : 1 ≤ weight_sum ws) where
  drawn : number % sum < weight_sum ws
  drawn = omega (arith, mod-lt number {m = sum} (omega arith))

  most : (d : ℕ) → d ≡ degree ws (number % sum) → d ≤ weight_count ws
  most d e = rw e (degree-is ws _ drawn).most

pub degree_for-d-requires : goal.degree_for-d-requires
degree_for-d-requires c = (search rules, drawn _ _ _ c.requires.summed c.requires.positive)

pub pick-requires : goal.pick-requires
pick-requires c =
    let few = most _ _ _ c.requires.summed c.requires.positive _ c.degree_for-d.ensures in
    (search rules, omega arith, omega arith)

pub returns : goal.returns
unfolding degree_of segments_of
returns c = record { degree = cc; placed = cc }
