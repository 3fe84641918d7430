-- All four answered sums are 0 just where the word vanishes at a^0 .. a^(R-1); they are bytes. Assumes nothing.
use Rattle.std.proofs.Common.{◌≡◌, ℕ, zero, suc, ◌^◌, ◌<◌, ◌≤◌, Bool, true, false, ltb, ◌↔◌, List, ◌∷◌, get_or, replicate, sym, refl, ap, ◌∙◌, ap₂, inl, inr, arith, lit<, le-ltb, lt-ltb}
use native.Mathlib.Decide.{dec_lt}
use lib.ListN.{get_or-replicate}
use Rattle.field.specs.Bytes.{AllBytes}
use Rattle.field.specs.CheckBytes.{CheckCount, value_at, Vanishes, or_zero, syndrome_at, syndromes}
use Rattle.field.proofs.Horner.{horner-lt}

pub checks-bounds : {R : ℕ} → CheckCount R → (2 ≤ R) × (R ≤ 4)
checks-bounds (inl e) = omega arith
checks-bounds (inr e) = omega arith

module _ (R : ℕ) (word : List ℕ) where
  inside : (i : ℕ) → i < R → syndrome_at R word i ≡ value_at i word
  inside i h = rw (lt-ltb i R h)

  zero-at : Vanishes R word → (i : ℕ) → syndrome_at R word i ≡ 0
  zero-at v i = elim (dec_lt i R) [ yes h ↦ inside i h ∙ v i h | no n ↦ let h : R ≤ i = omega arith in rw (le-ltb i R h) ]

  syndrome-at : (i : ℕ) → i < 4 → get_or (syndromes R word) i 0 ≡ syndrome_at R word i
  unfolding syndromes
  syndrome-at zero h = refl
  syndrome-at (suc zero) h = refl
  syndrome-at (suc (suc zero)) h = refl
  syndrome-at (suc (suc (suc zero))) h = refl
  syndrome-at (suc (suc (suc (suc i)))) h = omega arith

  pub syndrome-value : R ≤ 4 → (i : ℕ) → i < R → get_or (syndromes R word) i 0 ≡ value_at i word
  syndrome-value few i h = syndrome-at i (omega arith) ∙ inside i h

  pub syndromes-vanish : R ≤ 4 → (syndromes R word ≡ replicate 4 0) ↔ Vanishes R word
  unfolding syndromes
  syndromes-vanish h = (
    λ e i k. sym (inside i k) ∙ sym (syndrome-at i (omega arith)) ∙ ap (λ (l : List ℕ). get_or l i 0) e
        ∙ get_or-replicate 4 i 0 0 (omega arith),
    λ v. ap₂ ◌∷◌ (zero-at v 0) (ap₂ ◌∷◌ (zero-at v 1) (ap₂ ◌∷◌ (zero-at v 2) (ap₂ ◌∷◌ (zero-at v 3) refl))),
  )

-- ---- the sums of a word of bytes are bytes

zero-or-lt : (inside : Bool) (n : ℕ) → n < 2 ^ 8 → or_zero inside n < 2 ^ 8
zero-or-lt true n h = h
zero-or-lt false n h = lit< tt

pub syndromes-bytes : (R : ℕ) (word : List ℕ) → AllBytes word → AllBytes (syndromes R word)
unfolding syndromes
syndromes-bytes R word hs =
    let byte : (i : ℕ) → syndrome_at R word i < 2 ^ 8 = (λ i. zero-or-lt (ltb i R) (value_at i word) (horner-lt i 0 word (lit< tt) hs)) in
    (byte 0, (byte 1, (byte 2, (byte 3, tt))))
