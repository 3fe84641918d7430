-- The check sums of a word are all 0 exactly if it vanishes at a^0 .. a^(R-1). Assumes nothing.
use mathlib.Core.Path.{◌≡◌, refl, ap₂}
use mathlib.Core.Bool.{true, false≢true}
use mathlib.Core.List.{List, [], ◌∷◌}
use mathlib.Core.Logic.{inl, inr}
use Prim.Native.Nat.{ℕ, ◌≤◌}
use borrow.Author.Tests.{eqb-true}
use lib.Dec.{eqb}
use lib.ListN.{length, replicate}
use Rattle.field.specs.CheckBytes.{Vanishes, syndromes}
use Rattle.field.proofs.Tests.{either}
use Rattle.field.proofs.Syndromes.{syndromes-vanish}
use Rattle.correction.specs.Correction.{all_zero, sums_zero}

zeros-list : (l : List ℕ) → all_zero l ≡ true → l ≡ replicate (length l) 0
zeros-list [] e = refl
zeros-list (x ∷ xs) e =
    elim (either (eqb x 0)) [
      | inl t ↦ ap₂ ◌∷◌ (eqb-true x 0 t) (zeros-list xs (rw t at e))
      | inr t ↦ absurd (false≢true (rw t at e))
    ]

module _ (R : ℕ) (word : List ℕ) (few : R ≤ 4) where
  pub sums-vanish : sums_zero R word ≡ true → Vanishes R word
  unfolding sums_zero syndromes
  sums-vanish e = (syndromes-vanish R word few).0 (zeros-list (syndromes R word) e)

  pub vanish-sums : Vanishes R word → sums_zero R word ≡ true
  unfolding sums_zero
  vanish-sums v = rw ((syndromes-vanish R word few).1 v)
