-- `draw_record` meets its contract: the first draw gives the degree, the draws after it the set. Assumes nothing.
use mathlib.Core.Path.{◌≡◌}
use mathlib.Core.List.{[], List}
use Prim.Native.Nat.{ℕ, ◌-◌, ◌%◌, ◌<◌, ◌≤◌}
use native.Mathlib.Nat.{mod-lt}
use native.Mathlib.Omega.{arith}
use Rattle.droplet.specs.PoolCard.{weight_count, weight_sum}
use Rattle.droplet.specs.Droplet.{degree, degree_of, pick_from, segments_of}
use Rattle.droplet.proofs.Degree.{degree-is}
use Rattle.decoder.specs.Store.{record_seed}
use Rattle.decoder.specs.Loops.{Pickable}
use Rattle.decoder.proofs.restorer.Pool.draw_record.Goals as goal

-- a number by the sum of the weights lies below that sum, and its degree is one of the weights'
module _ (weights : List ℕ) (K sum L : ℕ) (right : Pickable weights K sum L) (v : ℕ) where
  drawn : v % sum < weight_sum weights
  drawn = omega (arith, right.summed, right.positive, mod-lt v {m = sum} (omega arith))

  most : (d : ℕ) → d ≡ degree weights (v % sum) → d ≤ weight_count weights
  most d e = rw e (degree-is _ _ drawn).most

pub degree_for-degree-requires : goal.degree_for-degree-requires
degree_for-degree-requires c =
    let right = c.args.self.now.pickable in
    (right.short, drawn _ _ _ _ right c.number.result)

pub draw_set-unmarked-requires : goal.draw_set-unmarked-requires
draw_set-unmarked-requires c =
    let right = c.args.self.now.pickable in
    let m = most _ _ _ _ right c.number.result _ c.degree_for-degree.ensures in
    (right.few, omega (arith, right.degrees), omega arith, c.requires.1)

pub returns : goal.returns
unfolding degree_of segments_of
returns c =
    let pool = c.args.self.now in
    let d = c.degree_for-degree.result in
    let first = c.next-first.result in
    let set : pick_from d first (pool.plan.segments - d) [] ≡ segments_of pool.weights.now pool.plan.segments (record_seed c.args.bytes.now) = cc in
    record { degree = cc; looked = rw set at c.draw_set-unmarked.ensures }
