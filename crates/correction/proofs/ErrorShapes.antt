-- The numbers that one wrong byte leaves in the syndromes, and two: from the numbers the places, and from the places the numbers.
-- Assumes nothing.
use mathlib.Core.Path.{◌≡◌, refl, sym, ap, ap₂, ◌∙◌}
use Prim.Native.Nat.{ℕ, zero, suc, ◌*◌, ◌-◌, ◌<◌}
use native.Mathlib.Omega.{arith}
use lib.Bits.{bit_xor}
use Rattle.field.specs.CheckBytes.{times_power}
use Rattle.field.proofs.Xor.{xors}
use Rattle.field.proofs.Powers.{power-xor, power-comm}
use Rattle.correction.specs.Locators.{Fits, without}
use Rattle.correction.proofs.AtMostOne.{power-next}

pub power-none : (p x : ℕ) → times_power (0 * p) x ≡ x
power-none p x = let e : 0 * p ≡ 0 = omega arith in rw e (unfold times_power in refl)

-- ---- one wrong byte, e at place p

module _ (R : ℕ) (s : ℕ → ℕ) where
  pub one-shape : (p : ℕ) → Fits R s p → (i : ℕ) → i < R → s i ≡ times_power (i * p) (s 0)
  one-shape p f zero h = sym (power-none p (s 0))
  one-shape p f (suc i) h = f i h ∙ ap (times_power p) (one-shape p f i (omega arith)) ∙ sym (power-next i p (s 0))

  pub shape_one : (p e : ℕ) → ((i : ℕ) → i < R → s i ≡ times_power (i * p) e) → Fits R s p
  shape_one p e f i h = f (suc i) h ∙ power-next i p e ∙ ap (times_power p) (sym (f i (omega arith)))

pub fits-same : (R p : ℕ) (s t : ℕ → ℕ) → ((i : ℕ) → i < R → s i ≡ t i) → Fits R s p → Fits R t p
fits-same R p s t e f i h = sym (e (suc i) h) ∙ f i h ∙ ap (times_power p) (e i (omega arith))

-- ---- two wrong bytes, e at place p and f at place q

without-turn : (i p q e f : ℕ)
    → bit_xor (bit_xor (times_power (suc i * p) e) (times_power (suc i * q) f)) (times_power p (bit_xor (times_power (i * p) e) (times_power (i * q) f)))
    ≡ times_power (i * q) (bit_xor (times_power p f) (times_power q f))
without-turn i p q e f =
    simp (power-next i p e, power-next i q f, power-xor, power-comm q (i * q) f, power-comm p (i * q) f, xors)

two-turn : (i p q e f : ℕ)
    → bit_xor (times_power (i * q) (bit_xor (times_power p f) (times_power q f))) (times_power p (bit_xor (times_power (i * p) e) (times_power (i * q) f)))
    ≡ bit_xor (times_power (suc i * p) e) (times_power (suc i * q) f)
two-turn i p q e f =
    simp (power-next i p e, power-next i q f, power-xor, power-comm q (i * q) f, power-comm p (i * q) f, xors)

split-first : (p q x f : ℕ) → bit_xor (times_power (0 * p) (bit_xor x f)) (times_power (0 * q) f) ≡ x
split-first p q x f = simp (power-none, xors)

without_back : (p : ℕ) (s : ℕ → ℕ) (i : ℕ) → s (suc i) ≡ bit_xor (without p s i) (times_power p (s i))
unfolding without
without_back p s i =
    let e : bit_xor (bit_xor (s (suc i)) (times_power p (s i))) (times_power p (s i)) ≡ s (suc i) = simp xors in sym e

module _ (R : ℕ) (s : ℕ → ℕ) (p q : ℕ) where
  -- with p taken out, what is left is as of one wrong byte at q
  pub shape_two : (e f : ℕ) → ((i : ℕ) → i < R → s i ≡ bit_xor (times_power (i * p) e) (times_power (i * q) f)) → Fits (R - 1) (without p s) q
  unfolding without
  shape_two e f g =
      shape_one (R - 1) (without p s) q (bit_xor (times_power p f) (times_power q f))
      (λ i h. ap₂ (λ (u v : ℕ). bit_xor u (times_power p v)) (g (suc i) (omega arith)) (g i (omega arith)) ∙ without-turn i p q e f)

  pub two-shape : (f : ℕ) → Fits (R - 1) (without p s) q → bit_xor (times_power p f) (times_power q f) ≡ without p s 0
      → (i : ℕ) → i < R → s i ≡ bit_xor (times_power (i * p) (bit_xor (s 0) f)) (times_power (i * q) f)
  two-shape f g d zero h = sym (split-first p q (s 0) f)
  two-shape f g d (suc i) h =
      without_back p s i
      ∙ ap₂ (λ (u v : ℕ). bit_xor u (times_power p v))
      (one-shape (R - 1) (without p s) q g i (omega arith) ∙ ap (times_power (i * q)) (sym d)) (two-shape f g d i (omega arith))
      ∙ two-turn i p q (bit_xor (s 0) f) f
