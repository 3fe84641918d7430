-- Powers of seeds by squaring: with those of x, a jump of k steps takes a square for each bit of k and a product for each that is 1.
-- Assumes nothing.
use Rattle.std.proofs.Common.{◌≡◌, ℕ, zero, suc, ◌+◌, ◌*◌, ◌/◌, ◌%◌, ◌^◌, ◌<◌, sym, ap, ◌∙◌, add-mul, pow-suc, zero-mul, mul-one, mul-add, arith}
use Rattle.field.specs.Generator.{seed_after, iterate}
use Rattle.field.specs.Products.{seed_product}
use Rattle.field.proofs.Iterates.{iterate-add}
use Rattle.field.proofs.Schedule.{step-low, steps-lt}
use Rattle.field.proofs.Products.{steps-product}

-- s times b for the bit 1, and s for the bit 0
abbrev pub bit_raised : ℕ → ℕ → ℕ → ℕ
bit_raised zero b s = s
bit_raised (suc d) b s = seed_product s b

-- s times the power of b whose exponent is k, of n bits
unfoldable pub raised : ℕ → ℕ → ℕ → ℕ → ℕ
raised zero k b s = s
raised (suc n) k b s = raised n (k / 2) (seed_product b b) (bit_raised (k % 2) b s)

-- where b is the seed p steps after 1, its square is the seed twice as many after 1
pub squared : (p b : ℕ) → b ≡ iterate p seed_after 1 → seed_product b b ≡ iterate (p + p) seed_after 1
squared p b e =
    ap (λ v. seed_product v v) e ∙ sym (steps-product p (iterate p seed_after 1) (steps-lt p 1 (omega arith)))
    ∙ sym (iterate-add seed_after p p 1)

-- k times p, by the lowest bit of k and its half
halves : (k p : ℕ) → k % 2 * p + k / 2 * (p + p) ≡ k * p
halves k p =
    let e : k / 2 + k / 2 + k % 2 ≡ k = omega arith in
    let n : (k / 2 + k / 2 + k % 2) * p ≡ k * p = ap (λ n. n * p) e in
    omega (arith, n, add-mul (k / 2 + k / 2) (k % 2) p, add-mul (k / 2) (k / 2) p, mul-add (k / 2) p p)

module _ (p b : ℕ) (e : b ≡ iterate p seed_after 1) where
  bit-jumps : (d s : ℕ) → d < 2 → s < 2 ^ 32 → bit_raised d b s ≡ iterate (d * p) seed_after s
  unfolding iterate
  bit-jumps zero s h w = ap (λ n. iterate n seed_after s) (sym (zero-mul p))
  bit-jumps (suc zero) s h w =
      ap (seed_product s) e ∙ sym (steps-product p s w) ∙ ap (λ n. iterate n seed_after s) (let one : p ≡ 1 * p = omega arith in one)
  bit-jumps (suc (suc d)) s h w = omega arith

  -- the lowest bit of k taken, what is left is as many double steps
  pub jump-turn : (k s : ℕ) → s < 2 ^ 32 → iterate (k / 2 * (p + p)) seed_after (bit_raised (k % 2) b s) ≡ iterate (k * p) seed_after s
  jump-turn k s w =
      ap (iterate (k / 2 * (p + p)) seed_after) (bit-jumps (k % 2) s (omega arith) w)
      ∙ sym (iterate-add seed_after (k % 2 * p) (k / 2 * (p + p)) s) ∙ ap (λ n. iterate n seed_after s) (halves k p)

  pub bit-lt : (d s : ℕ) → d < 2 → s < 2 ^ 32 → bit_raised d b s < 2 ^ 32
  bit-lt d s h w = rw (bit-jumps d s h w) (steps-lt (d * p) s w)

raised_is : (n k p b s : ℕ) → k < 2 ^ n → b ≡ iterate p seed_after 1 → s < 2 ^ 32 → raised n k b s ≡ iterate (k * p) seed_after s
unfolding raised iterate
raised_is zero k p b s h e w = let z : k ≡ 0 = omega arith in ap (λ n. iterate n seed_after s) (sym (ap (λ m. m * p) z ∙ zero-mul p))
raised_is (suc n) k p b s h e w =
    raised_is n (k / 2) (p + p) (seed_product b b) (bit_raised (k % 2) b s) (omega (arith, pow-suc 2 n)) (squared p b e)
    (bit-lt p b e (k % 2) s (omega arith) w)
    ∙ jump-turn p b e k s w

-- x, that is 2, is the seed after 1
pub x-is : ◌≡◌ {A = ℕ} 2 (iterate 1 seed_after 1)
unfolding iterate
x-is = sym (step-low 1 (omega arith))

-- a jump of k steps
pub jumps : (k s : ℕ) → k < 2 ^ 32 → s < 2 ^ 32 → raised 32 k 2 s ≡ iterate k seed_after s
jumps k s h w = raised_is 32 k 1 2 s h x-is w ∙ ap (λ n. iterate n seed_after s) (mul-one k)
