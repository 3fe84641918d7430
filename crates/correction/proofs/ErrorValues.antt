-- The byte whose sum at the places p and q is c: c times the inverse of the sum of the two powers of the root. Bytes are powers of the root
-- here, so that a product adds their exponents, and 255 of them go round. Assumes nothing.
use mathlib.Core.Path.{◌≡◌, refl, sym, ap, ap₂, ◌∙◌}
use Prim.Native.Nat.{ℕ, zero, suc, ◌+◌, ◌*◌, ◌^◌, ◌<◌}
use native.Mathlib.Omega.{arith}
use lib.Bits.{bit_xor, xor_lt}
use lib.Dec.{lit<}
use Rattle.field.specs.Shift.{shift_up}
use Rattle.field.specs.CheckBytes.{double, times_power}
use Rattle.field.specs.Products.{field_product}
use Rattle.field.proofs.Xor.{xor-zero-eq}
use Rattle.field.proofs.Powers.{power-lt, power-add}
use Rattle.field.proofs.Products.{product-one}
use Rattle.field.proofs.FieldProducts.{byte_step, product-xor, product-power}
use Rattle.correction.proofs.RootPowers.{all-powers-differ, reached}

one-lt : 1 < 2 ^ 8
one-lt = lit< tt

-- the exponents of a product
pub product-exponents : (i j a b r : ℕ) → a ≡ times_power i 1 → b ≡ times_power j 1 → r ≡ field_product a b → r ≡ times_power (i + j) 1
product-exponents i j a b r ea eb er =
    er ∙ ap₂ field_product ea eb ∙ product-power (times_power i 1) j 1
    ∙ ap (times_power j) (product-one byte_step (times_power i 1) (power-lt i 1 one-lt)) ∙ sym (power-add i j 1)

-- ---- 255 steps go round

once-round : times_power 255 1 ≡ 1
unfolding times_power double shift_up
once-round = refl

rounds : (m k : ℕ) → times_power (m + 255 * k) 1 ≡ times_power m 1
rounds m zero = let e : m + 255 * 0 ≡ m = omega arith in ap (λ (n : ℕ). times_power n 1) e
rounds m (suc k) =
    let e : m + 255 * suc k ≡ 255 + (m + 255 * k) = omega arith in
    ap (λ (n : ℕ). times_power n 1) e ∙ power-add 255 (m + 255 * k) 1 ∙ ap (times_power (m + 255 * k)) once-round ∙ rounds m k

-- ---- the value

module _ (p q c g inverse r : ℕ) (h : q < p) (hp : p < 255) (hc : c < 2 ^ 8) (nc : c ≡ 0 → ⊥) (is_sum : g ≡ bit_xor (times_power p 1) (times_power q 1))
    (inverts : (k : ℕ) → g ≡ times_power k 1 → inverse ≡ times_power (254 * k) 1) (is-product : r ≡ field_product c inverse) where
  sum_lt : g < 2 ^ 8
  sum_lt = rw is_sum (xor_lt 8 _ _ (power-lt p 1 one-lt) (power-lt q 1 one-lt))

  sum-nonzero : g ≡ 0 → ⊥
  sum-nonzero e =
      let z : ◌≡◌ {A = ℕ} 1 0 = all-powers-differ p q 1 (λ s. omega arith) hp (omega arith) one-lt (xor-zero-eq _ _ (sym is_sum ∙ e)) in omega arith

  -- the sum at both places is the product with g
  as-product : (x : ℕ) → x < 2 ^ 8 → bit_xor (times_power p x) (times_power q x) ≡ field_product x g
  as-product x hx =
      sym (ap (field_product x) is_sum ∙ product-xor x (times_power p 1) (times_power q 1)
      ∙ ap₂ bit_xor (product-power x p 1 ∙ ap (times_power p) (product-one byte_step x hx)) (product-power x q 1 ∙ ap (times_power q) (product-one byte_step x hx)))

  pub value-right : bit_xor (times_power p r) (times_power q r) ≡ c
  value-right =
      let one : ◌≡◌ {A = ℕ} 1 0 → ⊥ = (λ z. omega arith) in
      let of-g = reached 1 g one-lt sum_lt one sum-nonzero in
      let of_c = reached 1 c one-lt hc one nc in
      let k = of-g.k in
      let m = of_c.k in
      let r-is = product-exponents m (254 * k) c inverse r (sym of_c.is) (inverts k (sym of-g.is)) is-product in
      let r-lt : r < 2 ^ 8 = rw r-is (power-lt (m + 254 * k) 1 one-lt) in
      let e : m + 254 * k + k ≡ m + 255 * k = omega arith in
      as-product r r-lt ∙ product-exponents (m + 254 * k) k r g (field_product r g) r-is (sym of-g.is) refl
      ∙ ap (λ (n : ℕ). times_power n 1) e ∙ rounds m k ∙ of_c.is
