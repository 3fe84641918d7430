-- Primes below 257^2 by trial division, and what a prime says of the counts of steps that bring a number back. Assumes nothing.
use Rattle.std.proofs.Common.{◌≡◌, ℕ, zero, suc, ◌*◌, ◌/◌, ◌%◌, ◌<◌, ◌≤◌, Bool, T, ltb, sym, ap, ◌∙◌, mod-lt, div-lt_iff_lt-mul, div-add-mod', arith, ltb→lt, lt→ltb}
use native.Mathlib.Nat.{mul-mod_right}
use native.Mathlib.Decide.{dec_lt, ℕ_discrete}
use Rattle.field.specs.Generator.{iterate}
use Rattle.field.proofs.Tests.{below, at, implies, modus}
use Rattle.field.proofs.Iterates.{fixed-mod}

pub record Prime (p : ℕ) : Type 0 where
  pub big : 1 < p
  pub alone : (r : ℕ) → 1 < r → r < p → 0 < p % r

-- r is no divisor of p, unless it is 0, 1 or not below p
unfoldable pub trial : ℕ → ℕ → Bool
trial p r = implies (ltb 1 r) (implies (ltb r p) (ltb 0 (p % r)))

module _ (p : ℕ) (one : 1 < p) (small : p < 257 * 257) (t : T (below 257 (trial p))) where
  tried : (r : ℕ) → 1 < r → r < p → r < 257 → 0 < p % r
  unfolding trial
  tried r a b c =
      ltb→lt 0 (p % r) (modus (ltb r p) _ (modus (ltb 1 r) _ (at 257 (trial p) t r c) (lt→ltb 1 r a)) (lt→ltb r p b))

  -- where r is 257 or more, the quotient by it is a divisor too, and below 257
  quotient : (r : ℕ) → 257 ≤ r → r < p → (q : ℕ) → q < 257 → q * r ≡ p → ⊥
  quotient r c b zero d e = omega arith
  quotient r c b (suc zero) d e = omega arith
  quotient r c b (suc (suc q)) d e =
      let m : p % suc (suc q) ≡ 0 = ap (λ n. n % suc (suc q)) (sym e) ∙ mul-mod_right (suc (suc q)) r in
      let t : 0 < p % suc (suc q) = tried (suc (suc q)) (omega arith) (omega arith) d in
      omega arith

  alone : (r : ℕ) → 1 < r → r < p → 0 < p % r
  alone r a b = go (dec_lt r 257)
    where
      divisor : 257 ≤ r → p % r ≡ 0 → ⊥
      divisor c z =
          quotient r c b (p / r) ((div-lt_iff_lt-mul {k = r} {x = p} {y = 257} (omega arith)).1 (omega arith))
          (omega (arith, div-add-mod' p r))

      go : Dec (r < 257) → 0 < p % r
      go (yes c) = tried r a b c
      go (no c) = elim (ℕ_discrete (p % r) 0) [ yes z ↦ absurd (divisor (omega arith) z) | no z ↦ omega arith ]

  pub prime : Prime p
  prime = record { big = one; alone = alone }

module _ (p : ℕ) (h : Prime p) (f : ℕ → ℕ) (s : ℕ) (e : iterate p f s ≡ s) where
  -- where r steps bring it back, so do p % r, which is less and not 0, and so on down to one step
  descends : (n r : ℕ) → r ≤ n → 0 < r → r < p → iterate r f s ≡ s → f s ≡ s
  unfolding iterate
  descends zero r a b c i = omega arith
  descends (suc n) zero a b c i = omega arith
  descends (suc n) (suc zero) a b c i = i
  descends (suc n) (suc (suc r)) a b c i =
      descends n (p % suc (suc r)) (omega (arith, mod-lt p {m = suc (suc r)} b)) (h.alone (suc (suc r)) (omega arith) c)
      (omega (arith, mod-lt p {m = suc (suc r)} b)) (fixed-mod f s (suc (suc r)) p i e)

  -- so a count that brings it back is a multiple of p, if one step does not
  pub divides : (f s ≡ s → ⊥) → (k : ℕ) → iterate k f s ≡ s → k % p ≡ 0
  divides moves k i =
      let one : (k % p ≡ 0 → ⊥) → f s ≡ s =
      λ n. descends (k % p) (k % p) (omega arith) (omega arith) (mod-lt k (omega arith)) (fixed-mod f s p k e i) in
      elim (ℕ_discrete (k % p) 0) [ yes z ↦ z | no n ↦ absurd (moves (one n)) ]
