-- `thin`: a turn thins one number more, with the last flag of the one before it in front. Assumes nothing.
use mathlib.Core.Path.{◌≡◌, refl, ap, ◌∙◌}
use mathlib.Core.Bool.{Bool, not, true, false}
use mathlib.Core.List.{List}
use Prim.Native.Nat.{ℕ, ◌+◌, ◌*◌, ◌/◌, ◌%◌, ◌^◌, ◌<◌}
use native.Mathlib.Omega.{arith}
use lib.Bits.{bit_and, bit_or, and_le_l, and_le_r, or_add_and}
use borrow.Author.Rules.{rules}
use borrow.Author.Tests.{eqb-true, eqb-false}
use lib.Dec.{eqb}
use lib.ListN.{length, get_or, set, length-set}
use lib.Seq.{get_or-set_other, take_all}
use Rattle.screen.specs.Loops.{chunks_number, thinned}
use Rattle.screen.proofs.Chunks.{chunks-next, chunks-set}
use Rattle.screen.proofs.MatchRows.{thinned-block}
use Rattle.screen.proofs.packed.thin.Invariants.{Thins, first}
use Rattle.screen.proofs.packed.thin.Goals as goal

-- a turn of the loop
module _ (xs zs : List ℕ) (any before i : ℕ) (now : Thins xs zs any before i) (here : i < length xs) where
  -- the number that is read
  abbrev m : ℕ
  m = get_or zs i 0

  -- the first numbers with it
  grows : first xs (i + 1) ≡ first xs i * 2 ^ 64 + m
  grows = rw (now.kept i (omega arith)) (chunks-next xs i here)

  -- the invariant holds again
  next : (v : ℕ) → m < 2 ^ 64 → v ≡ bit_and m (before % 4 * 2 ^ 62 + m / 4) → Thins xs (set zs i v) (bit_or any m) m (i + 1)
  next v h e =
      let or = or_add_and any m in
      let l = and_le_l any m in
      let r = and_le_r any m in record {
        long = simp length-set now.long;
        kept = λ k j. get_or-set_other zs i k v 0 (λ q. omega arith) ∙ now.kept k (omega arith);
        thins = rw grows (omega (
          arith,
          chunks-set zs i v (omega (arith, now.long)),
          now.thins,
          thinned-block (first xs i) m h,
          rw now.last at e,
        ));
        last = rw grows (omega arith);
        none = λ q. rw grows (omega (arith, now.none (omega arith)));
        no-any = λ q. omega (arith, grows, now.no-any (omega (arith, grows)));
      }

-- the test at the end, of which `none` is the answer
tested : (none : Bool) (any n : ℕ) → eqb any 0 ≡ none → (any ≡ 0 → n ≡ 0) → (n ≡ 0 → any ≡ 0)
    → (not none ≡ false → n ≡ 0) × (not none ≡ true → 0 < n)
tested true any n t zero-any zero-n = (λ e. zero-any (eqb-true any 0 t), λ e. cc)
tested false any n f zero-any zero-n =
    let some : n ≡ 0 → ⊥ = λ z. eqb-false any 0 f (zero-n z) in
    (λ e. cc, λ e. omega (arith, some))

pub loop-chunk-init : goal.loop-chunk-init
unfolding chunks_number thinned
loop-chunk-init c = record {
  long = refl;
  kept = λ k h. refl;
  thins = refl;
  last = refl;
  none = λ e. refl;
  no-any = λ e. refl;
}

pub loop-chunk-preserved : goal.loop-chunk-preserved
loop-chunk-preserved c =
    let l = c.loop-chunk in
    let xs = c.args.matches.now in
    next xs l.matches l.any l.before l.chunk-index l.invariant (omega (arith, l.invariant.long)) _
    (search rules)
    (ap (bit_and (get_or l.matches l.chunk-index 0)) c.moved.ensures)

pub returns : goal.returns
returns c =
    let l = c.loop-chunk in
    let xs = c.args.matches.now in
    let all = take_all l.chunk-index xs (omega (arith, l.invariant.long)) in
    let all-now = take_all l.chunk-index l.matches (omega (arith, l.invariant.long)) in
    record {
      matches_after = rw (all, all-now) at l.invariant.thins;
      result_value = tested _ _ _ refl (rw all at l.invariant.none) (rw all at l.invariant.no-any);
    }
