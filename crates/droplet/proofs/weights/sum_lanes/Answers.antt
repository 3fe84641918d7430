-- `sum_lanes` meets its contract: a turn adds one more weight of the lanes. Assumes nothing.
use mathlib.Core.Path.{◌≡◌, ◌∙◌}
use Prim.Native.Nat.{◌-◌, ◌*◌}
use native.Mathlib.Omega.{arith}
use lib.ListN.{length, length-append, length-drop}
use Rattle.droplet.proofs.Lanes.{joined-none, joined_more}
use Rattle.droplet.proofs.weights.sum_lanes.Goals as goal

pub loop-four-init : goal.loop-four-init
loop-four-init c =
    let i = c.into_iter-four-iterator.ensures.into_iter_gives in
    let rest = c.chunks_exact-four-items.ensures.rest in
    let size = c.chunks_exact-four-items.ensures.size in
    rw i (omega arith, tt, size, rw rest (joined-none _))

pub loop-four-preserved : goal.loop-four-preserved
loop-four-preserved c =
    let s = c.in-Some.ensures.steps in
    let l = c.loop-four in
    let w = c.join_lanes-sum.ensures in
    let more = joined_more _ _ _ _ l.invariant.3 _ _ _ (s.1.1 ∙ l.invariant.2) s.1.0 w.0 w.1 in
    (omega arith, tt, omega arith, simp length-append more)

pub returns : goal.returns
returns c =
    let s = c.in-None.ensures.steps in
    let l = c.loop-four in
    let now = l.invariant.3 in
    let left : length l.four-iterator.rest.now ≡ length c.args.lanes.now - length l.yielded * 4 = rw now.left (length-drop _ _) in
    let e : length l.yielded ≡ 16 = omega arith in
    (now.summed ∙ rw e, omega arith)
