-- Rows of set flags, two bits to a flag: to thin them takes one from every row. Assumes nothing.
use mathlib.Core.Path.{◌≡◌, refl, ap, ◌∙◌}
use mathlib.Core.Bool.{Bool, true, false, cond}
use mathlib.Core.Logic.{inl, inr, ◌⊎◌}
use Prim.Native.Nat.{ℕ, zero, suc, ◌+◌, ◌-◌, ◌*◌, ◌/◌, ◌%◌, ◌^◌, ◌<◌, ◌≤◌, zero-le}
use native.Mathlib.Nat.{zero-add, suc-add}
use native.Mathlib.Omega.{arith}
use lib.Bits.{bit_and, and_zero_l, and_le_l, and_le_r, and_shr, and_mod, and_block}
use lib.Dec.{eqb, lit≤}
use Rattle.screen.specs.Loops.{zero_pairs, Flags, end_row, longest_row, thinned}

-- ---- one flag

-- a flag is set or not
zero-or-one : (n : ℕ) → n ≤ 1 → (n ≡ 0) ⊎ (n ≡ 1)
zero-or-one zero h = inl refl
zero-or-one (suc zero) h = inr refl
zero-or-one (suc (suc n)) h = absurd (let z : ⊥ = omega arith in z)

-- behind a set flag another stays as it is
and_one : (n : ℕ) → n ≤ 1 → bit_and 1 n ≡ n
and_one zero h = refl
and_one (suc zero) h = refl
and_one (suc (suc n)) h = absurd (let z : ⊥ = omega arith in z)

-- the last flag of k
last-flag : (k n : ℕ) → Flags k n → n % 4 ≤ 1
unfolding Flags
last-flag zero n e = rw e (lit≤ tt)
last-flag (suc k) n h = h.0

-- no row ends where the last flag is not set
end_none : (k n : ℕ) → n % 4 ≡ 0 → end_row k n ≡ 0
unfolding end_row
end_none zero n e = refl
end_none (suc k) n e = rw e

-- a set flag at the end makes the row before it one longer
end-one : (k n : ℕ) → n % 4 ≡ 1 → end_row (suc k) n ≡ suc (end_row k (n / 4))
unfolding end_row
end-one k n e = rw e

-- so the row there is not empty
end-some : (k n : ℕ) → Flags k n → n % 4 ≡ 1 → 1 ≤ end_row k n
unfolding Flags
end-some zero n h e = let z : ⊥ = omega arith in absurd z
end-some (suc k) n h e = rw (end-one k n e) (omega arith)

-- ---- flags that are thinned

-- all flags but the last are thinned by themselves
thinned-rest : (n : ℕ) → thinned n / 4 ≡ thinned (n / 4)
unfolding thinned
thinned-rest n = and_shr n (n / 4) 2

-- and the last by the one before it
thinned-last : (n : ℕ) → thinned n % 4 ≡ bit_and (n % 4) (n / 4 % 4)
unfolding thinned
thinned-last n = and_mod n (n / 4) 2

-- a flag that stays set stands behind a set one
thinned-most : (n : ℕ) → thinned n ≤ n / 4
unfolding thinned
thinned-most n = and_le_r n (n / 4)

-- what is left of flags are flags
pub thinned-flags : (k n : ℕ) → Flags k n → Flags k (thinned n)
unfolding Flags
thinned-flags zero n e = omega (arith, thinned-most n)
thinned-flags (suc k) n h =
    (omega (arith, thinned-last n, and_le_l (n % 4) (n / 4 % 4), h.0), rw (thinned-rest n) (thinned-flags k (n / 4) h.1))

-- no flag is set anew
thinned-none : (n : ℕ) → n % 4 ≡ 0 → thinned n % 4 ≡ 0
thinned-none n e = thinned-last n ∙ rw e (and_zero_l (n / 4 % 4))

-- and a set one at the end stays so exactly behind another
thinned-one : (n : ℕ) → n % 4 ≡ 1 → n / 4 % 4 ≤ 1 → thinned n % 4 ≡ n / 4 % 4
thinned-one n e h = thinned-last n ∙ rw e (and_one (n / 4 % 4) h)

-- the last row loses one flag
thinned-end : (k n : ℕ) → Flags k n → end_row k (thinned n) ≡ end_row k n - 1
unfolding Flags end_row
thinned-end zero n h = refl
thinned-end (suc k) n h =
    let l = last-flag k (n / 4) h.1 in
    elim (zero-or-one (n % 4) h.0) [
      | inl e ↦ rw (end_none (suc k) (thinned n) (thinned-none n e), end_none (suc k) n e)
      | inr e ↦ elim (zero-or-one (n / 4 % 4) l) [
        | inl f ↦ omega (arith, end_none (suc k) (thinned n) (thinned-one n e l ∙ f), end-one k n e, end_none k (n / 4) f)
        | inr f ↦
            let one = end-one k (thinned n) (thinned-one n e l ∙ f) ∙ ap (λ (m : ℕ). suc (end_row k m)) (thinned-rest n) in
            omega (arith, one, end-one k n e, thinned-end k (n / 4) h.1, end-some k (n / 4) h.1 f)
      ]
    ]

-- and so does the longest
pub thinned-longest : (k n : ℕ) → Flags k n → longest_row k (thinned n) ≡ longest_row k n - 1
unfolding Flags longest_row
thinned-longest zero n h = refl
thinned-longest (suc k) n h =
    rw thinned-rest (omega (arith, thinned-longest k (n / 4) h.1, thinned-end (suc k) n h))

-- 32 flags behind others are thinned with the last one of these in front
pub thinned-block : (n m : ℕ) → m < 2 ^ 64 → thinned (n * 2 ^ 64 + m) ≡ thinned n * 2 ^ 64 + bit_and m (n % 4 * 2 ^ 62 + m / 4)
unfolding thinned
thinned-block n m h =
    let e : (n * 2 ^ 64 + m) / 4 ≡ n / 4 * 2 ^ 64 + (n % 4 * 2 ^ 62 + m / 4) = omega arith in
    rw e (and_block 64 n (n / 4) m (n % 4 * 2 ^ 62 + m / 4) h (omega arith))

-- ---- how long a row is

-- where a flag is set, there is a row
pub some-row : (k n : ℕ) → Flags k n → (n ≡ 0 → ⊥) → 1 ≤ longest_row k n
unfolding Flags longest_row
some-row zero n h p = absurd (p h)
some-row (suc k) n h p =
    elim (zero-or-one (n % 4) h.0) [
      | inl e ↦ omega (arith, some-row k (n / 4) h.1 (λ z. p (omega arith)))
      | inr e ↦ omega (arith, end-one k n e)
    ]

-- where none is set, there is no row
pub no_row : (k : ℕ) → longest_row k 0 ≡ 0
unfolding longest_row
no_row zero = refl
no_row (suc k) = omega (arith, no_row k, end_none (suc k) 0 refl)

-- a row that goes on or breaks off at one flag more is at most one longer
one_more : (b : Bool) (n k : ℕ) → n ≤ k → cond b (suc n) 0 ≤ suc k
one_more true n k h = omega arith
one_more false n k h = zero-le

-- no row is longer than the flags: the last
end-most : (k n : ℕ) → end_row k n ≤ k
unfolding end_row
end-most zero n = zero-le
end-most (suc k) n = one_more (eqb (n % 4) 1) (end_row k (n / 4)) k (end-most k (n / 4))

-- and the longest
pub row-most : (k n : ℕ) → longest_row k n ≤ k
unfolding longest_row
row-most zero n = zero-le
row-most (suc k) n = omega (arith, row-most k (n / 4), end-most (suc k) n)

-- ---- flags with none above them

-- 0 is any number of flags, none of them set
no-flags : (k : ℕ) → Flags k 0
unfolding Flags
no-flags zero = refl
no-flags (suc k) = (lit≤ tt, no-flags k)

-- k flags are k + j flags
pub more-flags : (k j n : ℕ) → Flags k n → Flags (k + j) n
unfolding Flags
more-flags zero j n e = rw (zero-add j, e) (no-flags j)
more-flags (suc k) j n h = rw (suc-add k j) (h.0, more-flags k j (n / 4) h.1)

-- and their rows are the same: the last
more-end : (k j n : ℕ) → Flags k n → end_row (k + j) n ≡ end_row k n
unfolding Flags end_row
more-end zero j n e = end_none (zero + j) n (rw e)
more-end (suc k) j n h = rw (suc-add k j, more-end k j (n / 4) h.1)

-- and the longest
pub more_rows : (k j n : ℕ) → Flags k n → longest_row (k + j) n ≡ longest_row k n
unfolding Flags longest_row
more_rows zero j n e = rw e (no_row (zero + j))
more_rows (suc k) j n h =
    let end = rw (suc-add k j) at (more-end (suc k) j n h) in
    rw (suc-add k j) (omega (arith, more_rows k j (n / 4) h.1, end))

-- ---- the flags of pairs that are 0

-- the flag of a pair is 1 or 0
flag-most : (b : Bool) → cond b 1 0 ≤ 1
flag-most true = lit≤ tt
flag-most false = zero-le

-- so they are flags
pub pairs-flags : (k d : ℕ) → Flags k (zero_pairs k d)
unfolding Flags zero_pairs
pairs-flags zero d = refl
pairs-flags (suc k) d =
    let l = flag-most (eqb (d % 4) 0) in
    let rest : zero_pairs (suc k) d / 4 ≡ zero_pairs k (d / 4) = omega (arith, l) in
    (omega (arith, l), rw rest (pairs-flags k (d / 4)))
