-- The cases of a correction, each from what its searches found. Assumes nothing.
use mathlib.Core.Path.{◌≡◌, refl, sym, ap, ap₂, ◌∙◌}
use mathlib.Core.Bool.{true}
use mathlib.Core.List.{List}
use mathlib.Core.Logic.{⊎_elim}
use Rattle.std.proofs.Common.{Some, None}
use Prim.Native.Nat.{ℕ, ◌^◌, ◌<◌, ◌≤◌}
use native.Mathlib.Omega.{arith}
use borrow.Author.Tests.{eqb-true, ne_eqb}
use lib.Bits.{bit_xor}
use lib.Dec.{lit<}
use lib.ListN.{length}
use Rattle.field.specs.Bytes.{AllBytes}
use Rattle.field.specs.CheckBytes.{CheckCount, times_power, value_at, Vanishes, syndromes}
use Rattle.field.proofs.Horner.{horner-lt}
use Rattle.field.proofs.Syndromes.{checks-bounds, syndrome-value}
use Rattle.correction.specs.Correction.{all_zero, sums_zero, Corrected, codeword, none, corrected, word_after, Near, Corrects}
use Rattle.correction.specs.Locators.{at, Fits, without, square_of, square, single_error, changed, NoPlace, FirstPlace, NoTwoPlaces, FirstTwo, Damaged}
use Rattle.correction.proofs.Distances.{distance-same}
use Rattle.correction.proofs.Codewords.{sums-vanish, vanish-sums}
use Rattle.correction.proofs.ExactCorrection.{corrected-near, corrected-none}
use Rattle.correction.proofs.ErrorShapes.{fits-same}
use Rattle.correction.proofs.SquareTerm.{one-square}
use Rattle.correction.proofs.ErrorPlaces.{values, NearBy, one_right, one-missing, two-right, two-unfit, two-flat, two-missing}

-- ---- what was made, and what was left

made : (R : ℕ) (w word v : List ℕ) (k : ℕ) → word ≡ v → corrected R w ≡ codeword v k → Corrects R w (Some k) word
made R w word v k e f = record { says = ap (λ (x : List ℕ). codeword x k) e ∙ sym f; leaves = e ∙ ap (λ (x : Corrected). word_after x w) (sym f) }

left_alone : (R : ℕ) (w : List ℕ) → corrected R w ≡ none → Corrects R w None w
left_alone R w f = record { says = sym f; leaves = ap (λ (x : Corrected). word_after x w) (sym f) }

-- ---- syndromes all 0

module _ (R : ℕ) (w s : List ℕ) (count : CheckCount R) (size : length w ≤ 255) (hs : AllBytes w) (sums : s ≡ syndromes R w) where
  pub clean-word : all_zero s ≡ true → Corrects R w (Some 0) w
  unfolding sums_zero
  clean-word e =
      let vanishes = sums-vanish R w (checks-bounds count).1 (ap all_zero (sym sums) ∙ e) in
      let near : Near R w w = record { bytes = hs; size = refl; sums = vanishes; close = omega (arith, distance-same w) } in
      made R w w w 0 refl (corrected-near R w (checks-bounds count).1 size hs w near ∙ ap (codeword w) (distance-same w))

-- ---- syndromes not all 0

module _ (R : ℕ) (w s : List ℕ) (hs : AllBytes w) (d : Damaged R w s) where
  number : (i : ℕ) → i < R → at s i ≡ value_at i w
  number i h = ap (λ (l : List ℕ). at l i) d.sums ∙ syndrome-value R w (checks-bounds d.check_count).1 i h

  wrong : Vanishes R w → ⊥
  unfolding sums_zero
  wrong v =
      let e : all_zero s ≡ true = ap all_zero d.sums ∙ vanish-sums R w (checks-bounds d.check_count).1 v in
      let f = d.nonzero in
      let z : ◌≡◌ {A = ℕ} 0 1 = cc in omega arith

  found : (v : List ℕ) (k : ℕ) → NearBy R w v k → corrected R w ≡ codeword v k
  found v k n = corrected-near R w (checks-bounds d.check_count).1 d.size hs v n.0 ∙ ap (codeword v) n.1

  not_found : ((v : List ℕ) → Near R w v → ⊥) → corrected R w ≡ none
  not_found = corrected-none R w (checks-bounds d.check_count).1 d.size hs

  -- the square term of the numbers is that of the word's values
  flat : 3 ≤ R → square s ≡ square_of (values w)
  flat many = rw (number 0 (omega arith), number 1 (omega arith), number 2 (omega arith))

  -- ---- one place was searched for

  module _ (one : single_error R s ≡ true) where
    pub one-wrong : (p : ℕ) → FirstPlace R s (length w) p → (word : List ℕ) → word ≡ changed w p (at s 0) → Corrects R w (Some 1) word
    one-wrong p first word e =
        let count = (checks-bounds d.check_count).0 in
        made R w word _ 1 (e ∙ ap (changed w p) (number 0 (omega arith)))
        (found _ 1 (one_right R w hs wrong p count first.below (fits-same R p _ _ number first.here)))

    unfit : NoPlace R s (length w) → (k : ℕ) → k < length w → Fits R (values w) k → ⊥
    unfit nowhere k l f = nowhere k l (fits-same R k _ _ (λ i h. sym (number i h)) f)

    pub no_place : NoPlace R s (length w) → Corrects R w None w
    no_place nowhere =
        left_alone R w (not_found (λ v n. ⊎_elim
        (λ r. one-missing R w hs wrong (unfit nowhere) v n (omega (arith, r, n.close)))
        (λ r. let many : 3 ≤ R = omega arith in
        let zero : square s ≡ 0 = eqb-true (square s) 0 (rw (ne_eqb R 2 (λ e. omega arith)) at one) in
        two-missing R w hs wrong (unfit nowhere) (two-flat R w hs wrong (unfit nowhere) many d.size (sym (flat many) ∙ zero)) v n (omega (arith, r, n.close)))
        d.check_count))

-- ---- two places were searched for

module _ (w s : List ℕ) (hs : AllBytes w) (d : Damaged 4 w s) (curved : square s ≡ 0 → ⊥) where
  values-at : (i : ℕ) → i < 4 → at s i ≡ value_at i w
  values-at = number 4 w s hs d

  unfit-one : (k : ℕ) → k < length w → Fits 4 (values w) k → ⊥
  unfit-one k l f = curved (flat 4 w s hs d (omega arith) ∙ one-square 4 k (values w) (omega arith) (horner-lt 0 0 w (lit< tt) hs) f)

  without_at : (k i : ℕ) → i < 3 → without k (at s) i ≡ without k (values w) i
  unfolding without
  without_at k i l = ap₂ (λ (x y : ℕ). bit_xor x (times_power k y)) (values-at _ (omega arith)) (values-at i (omega arith))

  pub no-two-places : NoTwoPlaces s (length w) → Corrects 4 w None w
  no-two-places nowhere =
      left_alone 4 w (not_found 4 w s hs d (λ v n. two-missing 4 w hs (wrong 4 w s hs d) unfit-one
      (two-unfit 4 w hs (wrong 4 w s hs d) unfit-one
      (λ a b ha hb f. nowhere a ha b hb (fits-same 3 b _ _ (λ i h. sym (without_at a i h)) f)))
      v n (omega (arith, n.close))))

  module _ (p q rest : ℕ) (two : FirstTwo s (length w) p q rest) where
    pub both-wrong : (x : ℕ) → x < 2 ^ 8 → bit_xor (times_power p x) (times_power q x) ≡ rest
        → (word : List ℕ) → word ≡ changed (changed w p (bit_xor (at s 0) x)) q x → Corrects 4 w (Some 2) word
    both-wrong x hx value word e =
        made 4 w word _ 2 (e ∙ ap (λ (y : ℕ). changed (changed w p (bit_xor y x)) q x) (values-at 0 (omega arith)))
        (found 4 w s hs d _ 2 (two-right 4 w hs (wrong 4 w s hs d) unfit-one p q x (omega arith) two.below two.order hx (fits-same 3 q _ _ (without_at p) two.here)
        (value ∙ two.left ∙ without_at p 0 (omega arith))))
