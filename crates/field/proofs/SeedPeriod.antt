-- From any seed the schedule comes back after 2^32 - 1 steps and not sooner, and so no seed comes twice within that. Of the polynomial it is
-- computed that x^(2^32 - 1) is 1, and that x^((2^32 - 1) / p) + 1 has an inverse for each prime factor p of 2^32 - 1. Assumes nothing.
use Rattle.std.proofs.Common.{◌≡◌, ℕ, ◌+◌, ◌-◌, ◌*◌, ◌/◌, ◌%◌, ◌^◌, ◌<◌, T, sym, refl, ap, ◌∙◌, mul_comm, div-le_self, arith, lit<}
use lib.Bits.{bit_xor, xor_self}
use Rattle.field.specs.Shift.{shift_up}
use Rattle.field.specs.Generator.{seed_after, iterate}
use Rattle.field.specs.SeedPeriod.{period, PeriodIs, PositionsDiffer}
use Rattle.field.specs.Products.{times, seed_product}
use Rattle.field.proofs.Tests.{below}
use Rattle.field.proofs.Iterates.{iterate-add, iterate-mul, fixed-mul}
use Rattle.field.proofs.Schedule.{steps-seed}
use Rattle.field.proofs.Primes.{prime, trial, divides}
use Rattle.field.proofs.Products.{Linear, at_zero, by_one, product-one, linear-same, linear-after, linear-beside, linear-iterate, linear-times, seed-step, steps-product}
use Rattle.field.proofs.SeedPowers.{raised, jumps}

-- the k-th power of x, and its difference from 1
abbrev power : ℕ → ℕ
power k = raised 32 k 2 1

abbrev difference : ℕ → ℕ
difference k = bit_xor 1 (power k)

-- the inverse of a seed that has one: a power
abbrev inverse : ℕ → ℕ
inverse a = raised 32 (period - 1) a 1

-- a seed times its inverse
abbrev inverted : ℕ → ℕ
inverted a = seed_product (inverse a) a

module _ (k : ℕ) (small : k < 2 ^ 32) (s : ℕ) (h : s < 2 ^ 32) where
  power-steps : iterate k seed_after s ≡ seed_product s (power k)
  power-steps = steps-product k s h ∙ ap (seed_product s) (sym (jumps k 1 small (omega arith)))

  -- where the k-th power of x is 1, k steps come back
  comes_back : power k ≡ 1 → iterate k seed_after s ≡ s
  comes_back e = power-steps ∙ ap (seed_product s) e ∙ product-one seed-step s h

  -- where its difference from 1 has an inverse, k steps move every seed
  moves : (u : ℕ) → seed_product u (difference k) ≡ 1 → 0 < s → iterate k seed_after s ≡ s → ⊥
  moves u e pos i =
      let d : ℕ → ℕ = λ v. bit_xor v (iterate k seed_after v) in
      let l : Linear seed_after (λ v. seed_product u (d v)) =
      linear-after d (seed_product u) (linear-beside seed-step (λ v. v) (iterate k seed_after) linear-same (linear-iterate seed-step k))
      (linear-times seed-step 32 u) in
      let one : seed_product u (d 1) ≡ 1 = ap (λ v. seed_product u (bit_xor 1 v)) (sym (jumps k 1 small (omega arith))) ∙ e in
      let back : seed_product u (d s) ≡ s = by_one seed-step (λ v. seed_product u (d v)) l s h ∙ ap (seed_product s) one ∙ product-one seed-step s h in
      let gone : seed_product u (d s) ≡ 0 = ap (λ v. seed_product u (bit_xor s v)) i ∙ ap (seed_product u) (xor_self s)
      ∙ at_zero (seed_product u) (linear-times seed-step 32 u) in
      omega arith

comes-back-after : (s : ℕ) → s < 2 ^ 32 → iterate period seed_after s ≡ s
unfolding raised times seed_after shift_up
comes-back-after s h = comes_back period (lit< tt) s h refl

module _ (s : ℕ) (pos : 0 < s) (small : s < 2 ^ 32) (k : ℕ) (e : iterate k seed_after s ≡ s) where
  -- a prime factor p of the period divides k
  by-prime : (p : ℕ) → 1 < p → p < 257 * 257 → T (below 257 (trial p)) → period / p * p ≡ period → inverted (difference (period / p)) ≡ 1
      → k % p ≡ 0
  by-prime p more less tried whole one =
      divides p (prime p more less tried) (iterate (period / p) seed_after) s
      (sym (iterate-mul seed_after (period / p) p s) ∙ ap (λ n. iterate n seed_after s) whole ∙ comes-back-after s small)
      (moves (period / p) (omega (arith, div-le_self period p)) s small (inverse (difference (period / p))) one pos)
      k (sym (iterate-mul seed_after (period / p) k s) ∙ ap (λ n. iterate n seed_after s) (mul_comm (period / p) k)
      ∙ fixed-mul seed_after s k (period / p) e)

  -- and so the period does, their product
  by_all : k % period ≡ 0
  unfolding raised times seed_after shift_up trial
  by_all =
      let a : k % 3 ≡ 0 = by-prime 3 (lit< tt) (lit< tt) tt refl refl in
      let b : k % 5 ≡ 0 = by-prime 5 (lit< tt) (lit< tt) tt refl refl in
      let c : k % 17 ≡ 0 = by-prime 17 (lit< tt) (lit< tt) tt refl refl in
      let d : k % 257 ≡ 0 = by-prime 257 (lit< tt) (lit< tt) tt refl refl in
      let f : k % 65537 ≡ 0 = by-prime 65537 (lit< tt) (lit< tt) tt refl refl in
      let x : k ≡ 15 * (2 * (k / 5) - k / 3) = omega arith in
      let x' : k % 15 ≡ 0 = omega arith in
      let y : k ≡ 255 * (8 * (k / 17) - 7 * (k / 15)) = omega arith in
      let y' : k % 255 ≡ 0 = omega arith in
      let z : k ≡ 65535 * (128 * (k / 257) - 127 * (k / 255)) = omega arith in
      let z' : k % 65535 ≡ 0 = omega arith in
      let w : k ≡ period * (32768 * (k / 65537) - 32767 * (k / 65535)) = omega arith in
      omega arith

pub period-is : PeriodIs
period-is s h = record {
  back = comes-back-after s h.1;
  not_sooner = λ t a b e. let z = by_all s h.0 h.1 t e in omega arith;
}

-- the seed at the earlier position would come back at the later one
pub positions-differ : PositionsDiffer
positions-differ start i j h a b e =
    let n : i + (j - i) ≡ j = omega arith in
    (period-is (iterate i seed_after start) (steps-seed i start h)).not_sooner (j - i) (omega arith) (omega arith)
    (sym (iterate-add seed_after i (j - i) start) ∙ ap (λ m. iterate m seed_after start) n ∙ sym e)
