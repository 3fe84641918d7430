-- `add_row` meets its contract: a turn adds to lane `i` its byte and leaves the others. Assumes nothing.
use mathlib.Core.Path.{◌≡◌, refl, ◌∙◌}
use mathlib.Core.List.{List}
use Prim.Native.Nat.{ℕ, ◌+◌, ◌<◌}
use native.Mathlib.Omega.{arith}
use lib.ListN.{get_or, set, length-set}
use lib.Seq.{get_or-set_same, get_or-set_other}
use borrow.Author.Count.{below_more}
use Rattle.droplet.proofs.weights.add_row.Invariants.{Grown}
use Rattle.droplet.proofs.weights.add_row.Goals as goal

module _ (xs row zs : List ℕ) (i : ℕ) (now : Grown xs row zs i) where
  next : (v : ℕ) → i < 64 → v ≡ get_or zs i 0 + get_or row i 0 → Grown xs row (set zs i v) (i + 1)
  next v h e =
      let same = get_or-set_same zs i v 0 (omega (arith, now.long)) in
      let before = now.kept i (omega arith) in
      record {
        long = simp length-set now.long;
        added = below_more _ i
            (λ k l. rw (get_or-set_other zs i k v 0 (λ e. omega arith)) (now.added k l))
            (omega arith);
        kept = λ k h. get_or-set_other zs i k v 0 (λ e. omega arith) ∙ now.kept k (omega arith);
      }

pub loop-i-init : goal.loop-i-init
loop-i-init c = record { long = c.told-lanes; added = λ k h. omega arith; kept = λ k h. refl }

pub overflow_add-lanes : goal.overflow_add-lanes
overflow_add-lanes c =
    let i = c.loop-i.i in
    omega (arith, c.type_inv.row i, c.requires.by_index i (omega arith), c.loop-i.invariant.kept i (omega arith))

pub loop-i-preserved : goal.loop-i-preserved
loop-i-preserved c =
    let l = c.loop-i in
    next c.args.lanes.now c.args.row.now l.lanes l.i l.invariant _ (omega arith) (omega arith)

pub returns : goal.returns
returns c = λ k h. c.loop-i.invariant.added k (omega arith)
