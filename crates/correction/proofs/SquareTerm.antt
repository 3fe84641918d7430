-- The square term of the error locator: 0 where one wrong byte leaves the syndromes, and not 0 where two do. Assumes nothing.
use mathlib.Core.Path.{◌≡◌, sym, ap, ap₂, ◌∙◌}
use mathlib.Core.Logic.{◌⊎◌}
use Prim.Native.Nat.{ℕ, ◌*◌, ◌^◌, ◌<◌, ◌≤◌}
use native.Mathlib.Omega.{arith}
use lib.Bits.{bit_xor, xor_lt, xor_self}
use Rattle.field.specs.CheckBytes.{times_power}
use Rattle.field.specs.Products.{field_product}
use Rattle.field.proofs.Xor.{xors, xor-zero-eq}
use Rattle.field.proofs.Powers.{power-xor, power-lt, power-comm}
use Rattle.field.proofs.FieldProducts.{product-xor, product-power, product-comm, product_lt, left-sum, left-power, geometric}
use Rattle.correction.specs.Locators.{Fits, square_of}
use Rattle.correction.proofs.RootPowers.{all-powers-differ, no-product}
use Rattle.correction.proofs.AtMostOne.{power-next}
use Rattle.correction.proofs.ErrorShapes.{power-none}

pub one-square : (R p : ℕ) (s : ℕ → ℕ) → 3 ≤ R → s 0 < 2 ^ 8 → Fits R s p → square_of s ≡ 0
one-square R p s many h f =
    ap (λ (x : ℕ). bit_xor x (field_product (s 1) (s 1))) (geometric (s 0) (s 1) (s 2) p h (f 0 (omega arith)) (f 1 (omega arith)))
    ∙ xor_self (field_product (s 1) (s 1))

-- ---- two wrong bytes, e at place p and f at place q

power-once : (p x : ℕ) → times_power (1 * p) x ≡ times_power p x
power-once p x = power-next 0 p x ∙ ap (times_power p) (power-none p x)

power-twice : (p x : ℕ) → times_power (2 * p) x ≡ times_power p (times_power p x)
power-twice p x = power-next 1 p x ∙ ap (times_power p) (power-once p x)

module _ (p q e f : ℕ) (he : e < 2 ^ 8) (hf : f < 2 ^ 8) where
  abbrev first : ℕ
  first = bit_xor (times_power p e) (times_power q f)

  abbrev second : ℕ
  second = bit_xor (times_power p (times_power p e)) (times_power q (times_power q f))

  first-lt : first < 2 ^ 8
  first-lt = xor_lt 8 _ _ (power-lt p e he) (power-lt q f hf)

  second_lt : second < 2 ^ 8
  second_lt = xor_lt 8 _ _ (power-lt p _ (power-lt p e he)) (power-lt q _ (power-lt q f hf))

  -- the product of both, times the two powers' difference
  abbrev between : ℕ
  between = bit_xor (times_power p (field_product e f)) (times_power q (field_product e f))

  -- and times it again
  square-is : bit_xor (field_product (bit_xor e f) second) (field_product first first) ≡ bit_xor (times_power p between) (times_power q between)
  square-is =
      rw (
        left-sum e f second he hf second_lt,
        left-sum (times_power p e) (times_power q f) first (power-lt p e he) (power-lt q f hf) first-lt,
        left-power p e first he first-lt,
        left-power q f first hf first-lt,
      ) (simp (product-xor, product-power, product-comm f e hf he, power-xor, power-comm q p, xors))

  both_zero : (p ≡ q → ⊥) → p < 255 → q < 255 → bit_xor (field_product (bit_xor e f) second) (field_product first first) ≡ 0 → (e ≡ 0) ⊎ (f ≡ 0)
  both_zero n hp hq zero =
      let product = product_lt e f hf in
      let differ : (x : ℕ) → x < 2 ^ 8 → bit_xor (times_power p x) (times_power q x) ≡ 0 → x ≡ 0 =
      (λ x h z. all-powers-differ p q x n hp hq h (xor-zero-eq _ _ z)) in
      no-product e f he hf (differ (field_product e f) product (differ between (xor_lt 8 _ _ (power-lt p _ product) (power-lt q _ product)) (sym square-is ∙ zero)))

  -- where the square term is 0, one of the two is no wrong byte
  pub two-square : (R : ℕ) (s : ℕ → ℕ) → 3 ≤ R → ((i : ℕ) → i < R → s i ≡ bit_xor (times_power (i * p) e) (times_power (i * q) f))
      → (p ≡ q → ⊥) → p < 255 → q < 255 → square_of s ≡ 0 → (e ≡ 0) ⊎ (f ≡ 0)
  two-square R s many shape n hp hq zero =
      let s0 = shape 0 (omega arith) ∙ ap₂ bit_xor (power-none p e) (power-none q f) in
      let s1 = shape 1 (omega arith) ∙ ap₂ bit_xor (power-once p e) (power-once q f) in
      let s2 = shape 2 (omega arith) ∙ ap₂ bit_xor (power-twice p e) (power-twice q f) in
      both_zero n hp hq (sym (ap₂ bit_xor (ap₂ field_product s0 s2) (ap₂ field_product s1 s1)) ∙ zero)
