-- Places that stand a step apart, and a turn of the loop that copies bytes between them. Assumes nothing.
use mathlib.Core.Path.{◌≡◌}
use mathlib.Core.List.{List}
use mathlib.Core.Logic.{◌⊎◌, inl, inr}
use Prim.Native.Nat.{ℕ, ◌+◌, ◌≤◌, ◌<◌}
use native.Mathlib.Nat.{add-mul, mul-lt-mul_of_pos_right}
use native.Mathlib.Omega.{arith}
use lib.ListN.{length, get_or, set}
use Rattle.interleave.specs.Moves.{Moved, strided}
use Rattle.interleave.proofs.Remainders.{less-or-not}
use Rattle.interleave.proofs.Moved.{Together, moved-one, moved_then}

module _ (first step : ℕ) where
  pub strided-zero : first ≡ strided first step 0
  unfolding strided
  strided-zero = omega arith

  pub strided-next : (x : ℕ) {place : ℕ} → place ≡ strided first step x → place + step ≡ strided first step (x + 1)
  unfolding strided
  strided-next x e = omega (arith, add-mul x 1 step)

  strided-lt : (y x : ℕ) → 1 ≤ step → y < x → strided first step y < strided first step x
  unfolding strided
  strided-lt y x apart h = omega (arith, mul-lt-mul_of_pos_right {k = step} h (omega arith))

-- the numbers below x + 1 are those below x, and x
pub before-or-last : (x y : ℕ) → y < x + 1 → (y < x) ⊎ (y ≡ x)
before-or-last x y h =
    elim (less-or-not y x) [
      | inl before ↦ inl before
      | inr from ↦ inr (omega arith)
    ]

one_more : (x : ℕ) → Together (λ y. y < x) (λ y. y ≡ x) (λ y. y < x + 1)
one_more x = record { split = before-or-last x; first = λ y h. omega arith; second = λ y e. omega arith }

-- after the first x bytes the next, which goes from place s to place t
pub strided-turn : (to up from by x : ℕ) {t s : ℕ} {source before mid : List ℕ} → 1 ≤ up → t ≡ strided to up x → s ≡ strided from by x → t < length mid
    → Moved (strided to up) (strided from by) (λ y. y < x) source before mid
    → Moved (strided to up) (strided from by) (λ y. y < x + 1) source before (set mid t (get_or source s 0))
strided-turn to up from by x {mid = mid} apart goes comes inside m =
    rw (goes, comes)
    (moved_then
    (one_more x)
    (λ y k h last e. let l = strided-lt to up y k apart (omega arith) in omega arith)
    m
    (moved-one mid x (omega arith)))
