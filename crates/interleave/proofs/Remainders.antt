-- Numbers, and their quotients and remainders by a width W. Assumes nothing.
use mathlib.Core.Path.{◌≡◌, ◌∙◌}
use mathlib.Core.Logic.{◌⊎◌, inl, inr}
use Prim.Native.Nat.{ℕ, suc, ◌+◌, ◌-◌, ◌*◌, ◌/◌, ◌%◌, ◌≤◌, ◌<◌}
use native.Mathlib.Nat.{mod-lt, mod-eq_of_lt, div-add-mod', div-eq_of_lt, div-eq_of_lt-le, add-mul-mod_self_right, add-mul-div_right, mul-le-mul_right, le-div_iff_mul-le, suc-mul, add-mul}
use native.Mathlib.Omega.{arith}
use lib.Dec.{ltb}
use borrow.Author.Tests.{ltb-true, ltb-false}
use Rattle.field.proofs.Tests.{either}

-- a case split that keeps the facts
pub less-or-not : (a b : ℕ) → (a < b) ⊎ (b ≤ a)
less-or-not a b =
    elim (either (ltb a b)) [
      | inl t ↦ inl (ltb-true a b t)
      | inr f ↦ inr (ltb-false a b f)
    ]

-- less than W further on no number has the same remainder
pub same-remainder : (W i g : ℕ) → 1 ≤ g → g < W → i % W ≡ (i + g) % W → ⊥
same-remainder W i g least h e =
    let a = div-add-mod' i W in
    let b = div-add-mod' (i + g) W in
    elim (less-or-not (i / W) ((i + g) / W)) [
      | inl up ↦ let m = mul-le-mul_right W up in let s = suc-mul (i / W) W in omega arith
      | inr down ↦ let m = mul-le-mul_right W down in omega arith
    ]

-- a number by its remainder and its quotient
module _ (W r k : ℕ) (h : r < W) where
  pub remainder_of : (r + k * W) % W ≡ r
  remainder_of = add-mul-mod_self_right r k W ∙ mod-eq_of_lt h

  pub quotient-of : (r + k * W) / W ≡ k
  quotient-of = add-mul-div_right r k (omega arith) ∙ (let z = div-eq_of_lt h in omega arith)

-- of F numbers from 0 on, how many have the remainder r
abbrev pub count_of : ℕ → ℕ → ℕ → ℕ
count_of W F r = (F + (W - 1 - r)) / W

module _ (W F r : ℕ) (h : r < W) where
  -- the numbers from r on, W apart, that lie below F
  pub below-count : (k : ℕ) → k * W + r < F → k < count_of W F r
  below-count k b =
      (le-div_iff_mul-le {k = W} {x = suc k} {y = F + (W - 1 - r)} (omega arith)).1 (let s = suc-mul k W in omega arith)

  pub count-below : (k : ℕ) → k < count_of W F r → k * W + r < F
  count-below k b =
      let m = (le-div_iff_mul-le {k = W} {x = suc k} {y = F + (W - 1 - r)} (omega arith)).0 b in
      let s = suc-mul k W in
      omega arith

  count-is : (k : ℕ) → k * W + r < F + W → F ≤ k * W + r → count_of W F r ≡ k
  count-is k upper lower =
      div-eq_of_lt-le W (omega arith) (let s = add-mul k 1 W in omega arith)

  -- W divides F but for a rest, of which each of the first remainders has one
  pub count-more : r < F % W → count_of W F r ≡ F / W + 1
  count-more m =
      let d = div-add-mod' F W in
      let l = mod-lt F {m = W} (omega arith) in
      let s = add-mul (F / W) 1 W in
      count-is (F / W + 1) (omega arith) (omega arith)

  pub count_less : F % W ≤ r → count_of W F r ≡ F / W
  count_less m =
      let d = div-add-mod' F W in
      let l = mod-lt F {m = W} (omega arith) in
      count-is (F / W) (omega arith) (omega arith)
