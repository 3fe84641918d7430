-- `sum_rows` meets its contract: a turn adds a row's 16 weights. Assumes nothing.
use mathlib.Core.Path.{◌≡◌, ◌∙◌}
use Prim.Native.Nat.{◌-◌, ◌/◌, ◌*◌}
use native.Mathlib.Omega.{arith}
use lib.ListN.{length, length-append, length-drop}
use Rattle.droplet.proofs.Lanes.{summed-none, summed_more}
use Rattle.droplet.proofs.weights.sum_rows.Goals as goal

pub loop-row-init : goal.loop-row-init
loop-row-init c =
    let i = c.into_iter-row-iterator.ensures.into_iter_gives in
    let rest = c.chunks_exact-row-items.ensures.rest in
    let size = c.chunks_exact-row-items.ensures.size in
    rw i (omega arith, tt, size, rw rest (summed-none _))

pub add_row-requires : goal.add_row-requires
add_row-requires c =
    let s = c.in-Some.ensures.steps in
    let now = c.loop-row.invariant.3 in
    let h = now.left in
    record { row_len = omega arith; by_index = λ k h. omega (arith, now.small k h) }

pub loop-row-preserved : goal.loop-row-preserved
loop-row-preserved c =
    let s = c.in-Some.ensures.steps in
    let l = c.loop-row in
    let more = summed_more _ _ _ _ l.invariant.3 (λ k. omega (arith, c.type_inv.weights k)) _ _ _ (s.1.1 ∙ l.invariant.2) s.1.0 c.type_inv.lanes c.add_row.ensures in
    (omega arith, tt, omega arith, simp length-append more)

pub returns : goal.returns
returns c =
    let s = c.in-None.ensures.steps in
    let now = c.loop-row.invariant.3 in
    let left : length c.loop-row.row-iterator.rest.now ≡ length c.args.weights.now - length c.loop-row.yielded * 64 = rw now.left (length-drop _ _) in
    let e : length c.loop-row.yielded ≡ length c.args.weights.now / 64 = omega arith in
    now.sum ∙ rw e
