-- The seed schedule: the step keeps XOR and never gives 0 for another seed, and stretches of seeds add up. Assumes nothing.
use Rattle.std.proofs.Common.{◌≡◌, ℕ, zero, suc, ◌+◌, ◌*◌, ◌/◌, ◌%◌, ◌^◌, ◌<◌, ◌≤◌, ◌∷◌, ◌++◌, length, get_or, refl, ap, ◌∙◌, suc-add, zero-add, arith, lit<}
use native.Mathlib.Decide.{dec_lt}
use lib.Bits.{bit_xor, xor_mod}
use Rattle.field.specs.Shift.{shift_up}
use Rattle.field.specs.Generator.{schedule_polynomial, IsSeed, seed_after, iterate, seeds_from}
use Rattle.field.proofs.Xor.{shift_up-xor, shift_up-lt, shift_up-low}

pub step-xor : (a b : ℕ) → seed_after (bit_xor a b) ≡ bit_xor (seed_after a) (seed_after b)
unfolding seed_after
step-xor = shift_up-xor 31 schedule_polynomial

pub step-lt : (s : ℕ) → seed_after s < 2 ^ 32
unfolding seed_after
step-lt s = shift_up-lt 31 schedule_polynomial s (lit< tt)

-- a seed with room above is doubled
pub step-low : (s : ℕ) → s < 2 ^ 31 → seed_after s ≡ s * 2
unfolding seed_after
step-low = shift_up-low 31 schedule_polynomial

-- one with the top bit set steps to an odd one
step-high : (s : ℕ) → 2 ^ 31 ≤ s → s < 2 ^ 32 → seed_after s % 2 ≡ 1
unfolding seed_after shift_up
step-high s l h =
    let o : s / 2 ^ 31 % 2 ≡ 1 = omega arith in
    let u : s * 2 % 2 ^ 32 % 2 ≡ 0 = omega arith in
    rw o (xor_mod (s * 2 % 2 ^ 32) schedule_polynomial 1 ∙ ap (λ (n : ℕ). bit_xor n 1) u)

step-zero : (s : ℕ) → s < 2 ^ 32 → seed_after s ≡ 0 → s ≡ 0
step-zero s h e =
    elim (dec_lt s (2 ^ 31)) [
      | yes l ↦ omega (arith, step-low s l)
      | no n ↦ let z : seed_after s % 2 ≡ 1 = step-high s (omega arith) h in omega arith
    ]

pub step-seed : (s : ℕ) → IsSeed s → IsSeed (seed_after s)
step-seed s h = (
  elim (dec_lt 0 (seed_after s)) [ yes l ↦ l | no n ↦ absurd (let z : s ≡ 0 = step-zero s h.1 (omega arith) in omega arith) ],
  step-lt s,
)

-- ---- iterated steps

pub steps-lt : (k s : ℕ) → s < 2 ^ 32 → iterate k seed_after s < 2 ^ 32
unfolding iterate
steps-lt zero s h = h
steps-lt (suc k) s h = steps-lt k (seed_after s) (step-lt s)

pub steps-seed : (k s : ℕ) → IsSeed s → IsSeed (iterate k seed_after s)
unfolding iterate
steps-seed zero s h = h
steps-seed (suc k) s h = steps-seed k (seed_after s) (step-seed s h)

-- ---- stretches of seeds

pub seeds-length : (n s : ℕ) → length (seeds_from n s) ≡ n
unfolding seeds_from
seeds-length zero s = refl
seeds-length (suc n) s = ap suc (seeds-length n (seed_after s))

pub seeds-at : (n s i : ℕ) → i < n → get_or (seeds_from n s) i 0 ≡ iterate i seed_after s
unfolding seeds_from iterate
seeds-at zero s i h = omega arith
seeds-at (suc n) s zero h = refl
seeds-at (suc n) s (suc i) h = seeds-at n (seed_after s) i (omega arith)

pub seeds-add : (a b s : ℕ) → seeds_from (a + b) s ≡ seeds_from a s ++ seeds_from b (iterate a seed_after s)
unfolding seeds_from iterate
seeds-add zero b s = ap (λ n. seeds_from n s) (zero-add b)
seeds-add (suc a) b s = ap (λ n. seeds_from n s) (suc-add a b) ∙ ap (◌∷◌ s) (seeds-add a b (seed_after s))
