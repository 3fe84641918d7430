-- Products in the field of the check bytes: they are linear and commute, and so two laws of four check sums, of which corrections are made.
-- Assumes nothing.
use Rattle.std.proofs.Common.{◌≡◌, ℕ, zero, suc, ◌/◌, ◌%◌, ◌^◌, ◌<◌, sym, refl, ap, ◌∙◌, ap₂, lit<}
use lib.Bits.{bit_xor, xor_lt}
use Rattle.field.specs.CheckBytes.{double, double-shifts, times_power}
use Rattle.field.specs.Products.{bit_times, times, field_product}
use Rattle.field.proofs.Xor.{xors}
use Rattle.field.proofs.Powers.{double-lt, power-xor, power-lt}
use Rattle.field.proofs.Products.{IsStep, shift-step, linear-times, product-one, by_one}

pub byte_step : IsStep double 8
byte_step = shift-step double 7 _ double-shifts

-- ---- linear in the second byte, and commuting

pub product-xor : (a u v : ℕ) → field_product a (bit_xor u v) ≡ bit_xor (field_product a u) (field_product a v)
product-xor a = (linear-times byte_step 8 a).sums

pub product-power : (a q v : ℕ) → field_product a (times_power q v) ≡ times_power q (field_product a v)
unfolding times_power
product-power a zero v = refl
product-power a (suc q) v = product-power a q (double v) ∙ ap (times_power q) ((linear-times byte_step 8 a).steps v)

-- the map v to a v is the product with its value at 1, and that is a
pub product-comm : (a b : ℕ) → a < 2 ^ 8 → b < 2 ^ 8 → field_product a b ≡ field_product b a
product-comm a b ha hb =
    by_one byte_step (field_product a) (linear-times byte_step 8 a) b hb ∙ ap (field_product b) (product-one byte_step a ha)

-- ---- a product is a byte

bit-lt : (d v : ℕ) → v < 2 ^ 8 → bit_times d v < 2 ^ 8
bit-lt zero v h = lit< tt
bit-lt (suc d) v h = h

times-lt : (n a v : ℕ) → v < 2 ^ 8 → times double n a v < 2 ^ 8
unfolding times
times-lt zero a v h = lit< tt
times-lt (suc n) a v h = xor_lt 8 _ _ (bit-lt (a % 2) v h) (double-lt (times double n (a / 2) v))

pub product_lt : (a v : ℕ) → v < 2 ^ 8 → field_product a v < 2 ^ 8
product_lt = times-lt 8

-- ---- products of sums; x^p is the p-th power of the root

pub left-sum : (a b v : ℕ) → a < 2 ^ 8 → b < 2 ^ 8 → v < 2 ^ 8 → field_product (bit_xor a b) v ≡ bit_xor (field_product a v) (field_product b v)
left-sum a b v ha hb hv =
    product-comm (bit_xor a b) v (xor_lt 8 a b ha hb) hv ∙ product-xor v a b ∙ ap₂ bit_xor (product-comm v a hv ha) (product-comm v b hv hb)

pub left-power : (k a v : ℕ) → a < 2 ^ 8 → v < 2 ^ 8 → field_product (times_power k a) v ≡ times_power k (field_product a v)
left-power k a v ha hv =
    product-comm (times_power k a) v (power-lt k a ha) hv ∙ product-power v k a ∙ ap (times_power k) (product-comm v a hv ha)

-- (b + x^p a) v = b v + x^p a v
product-sum : (p a b v : ℕ) → a < 2 ^ 8 → b < 2 ^ 8 → v < 2 ^ 8
    → field_product (bit_xor b (times_power p a)) v ≡ bit_xor (field_product b v) (times_power p (field_product a v))
product-sum p a b v ha hb hv =
    left-sum b (times_power p a) v hb (power-lt p a ha) hv ∙ ap (bit_xor (field_product b v)) (left-power p a v ha hv)

-- (b + x^p a) (d + x^p c) = (b d + x^p a d) + x^p (b c + x^p a c)
product-sums : (p a b c d : ℕ) → a < 2 ^ 8 → b < 2 ^ 8 → c < 2 ^ 8 → d < 2 ^ 8
    → field_product (bit_xor b (times_power p a)) (bit_xor d (times_power p c))
    ≡ bit_xor (bit_xor (field_product b d) (times_power p (field_product a d)))
    (times_power p (bit_xor (field_product b c) (times_power p (field_product a c))))
product-sums p a b c d ha hb hc hd =
    let t = bit_xor b (times_power p a) in
    product-xor t d (times_power p c)
    ∙ ap₂ bit_xor (product-sum p a b d ha hb hd) (product-power t p c ∙ ap (times_power p) (product-sum p a b c ha hb hc))

-- Of four bytes s and the three t = (s1 + x^p s0, s2 + x^p s1, s3 + x^p s2): t0 t2 + t1 t1 is B + x^p A + x^p x^p D,
-- where D = s0 s2 + s1 s1, A = s0 s3 + s1 s2, B = s1 s3 + s2 s2. The products s1 s2 and s2 s1 in t1 t1 cancel out.
pub determinant : (p s0 s1 s2 s3 : ℕ) → s0 < 2 ^ 8 → s1 < 2 ^ 8 → s2 < 2 ^ 8 → s3 < 2 ^ 8
    → bit_xor (field_product (bit_xor s1 (times_power p s0)) (bit_xor s3 (times_power p s2)))
    (field_product (bit_xor s2 (times_power p s1)) (bit_xor s2 (times_power p s1)))
    ≡ bit_xor
    (bit_xor (bit_xor (field_product s1 s3) (field_product s2 s2)) (times_power p (bit_xor (field_product s0 s3) (field_product s1 s2))))
    (times_power p (times_power p (bit_xor (field_product s0 s2) (field_product s1 s1))))
determinant p s0 s1 s2 s3 h0 h1 h2 h3 =
    rw (product-sums p s0 s1 s2 s3 h0 h1 h2 h3, product-sums p s1 s2 s1 s2 h1 h2 h1 h2, product-comm s2 s1 h2 h1) (simp (power-xor, xors))

-- where b is x^q a and c is x^q b, a c is b b
pub geometric : (a b c q : ℕ) → a < 2 ^ 8 → b ≡ times_power q a → c ≡ times_power q b → field_product a c ≡ field_product b b
geometric a b c q ha eb ec =
    let hb : b < 2 ^ 8 = rw eb (power-lt q a ha) in
    ap (field_product a) ec ∙ product-power a q b ∙ ap (times_power q) (product-comm a b ha hb) ∙ sym (product-power b q a)
    ∙ ap (field_product b) (sym eb)
