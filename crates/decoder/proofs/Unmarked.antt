-- Looking at the marks of a list one after the other, and what the answer says of the missing segments. Assumes nothing.
use mathlib.Core.Path.{◌≡◌, refl, sym, ap, ◌∙◌}
use mathlib.Core.List.{List, [], ◌∷◌, ◌++◌, append-nil}
use mathlib.Core.Logic.{inl, inr}
use Prim.Native.Nat.{ℕ}
use lib.ListN.{get_or, take, drop, take-append-drop}
use Rattle.field.proofs.Tests.{either}
use Rattle.decoder.specs.declared.restorer.Unmarked.{Unmarked}
use Rattle.decoder.specs.declared.restorer.Unmarked.TheVariants.{None, One, Several}
use Rattle.decoder.specs.Restorer.{marked, missing}
use Rattle.decoder.specs.Loops.{unmarked_of, one_more, looked_at}

module _ (marks : List ℕ) where
  missing-append : (xs ys : List ℕ) → missing marks (xs ++ ys) ≡ missing marks xs ++ missing marks ys
  unfolding missing
  missing-append [] ys = refl
  missing-append (x ∷ xs) ys =
      elim (either (marked marks x)) [ inl e ↦ rw e (missing-append xs ys) | inr e ↦ rw e (ap (◌∷◌ x) (missing-append xs ys)) ]

  -- one segment more
  found-more : (xs : List ℕ) (s : ℕ) → unmarked_of (xs ++ (s ∷ [])) ≡ one_more (unmarked_of xs) s
  unfolding unmarked_of
  found-more [] s = refl
  found-more (x ∷ []) s = refl
  found-more (x ∷ (y ∷ xs)) s = refl

  pub looked-more : (xs : List ℕ) (s : ℕ) {found next : Unmarked} → found ≡ unmarked_of (missing marks xs)
      → next ≡ looked_at found s (get_or marks s 0) → next ≡ unmarked_of (missing marks (xs ++ (s ∷ [])))
  unfolding looked_at missing marked
  looked-more xs s now e =
      elim (either (marked marks s)) [
        | inl t ↦ e ∙ rw (missing-append xs (s ∷ []), t, append-nil) now
        | inr t ↦ e ∙ rw (missing-append xs (s ∷ []), t, found-more (missing marks xs) s, now)
      ]

  -- several in the front of a list are several in the list
  several-more : (xs ys : List ℕ) → unmarked_of xs ≡ Several → unmarked_of (xs ++ ys) ≡ Several
  unfolding unmarked_of
  several-more [] ys e = cc
  several-more (x ∷ []) ys e = cc
  several-more (x ∷ (y ∷ xs)) ys e = refl

  pub several-front : (n : ℕ) (xs : List ℕ) → unmarked_of (missing marks (take n xs)) ≡ Several → unmarked_of (missing marks xs) ≡ Several
  several-front n xs e =
      ap (λ (l : List ℕ). unmarked_of (missing marks l)) (sym (take-append-drop n xs))
      ∙ ap unmarked_of (missing-append (take n xs) (drop n xs))
      ∙ several-more (missing marks (take n xs)) (missing marks (drop n xs)) e

-- what an answer says of the missing segments
pub unmarked-none : (xs : List ℕ) → None ≡ unmarked_of xs → xs ≡ []
unfolding unmarked_of
unmarked-none [] e = refl
unmarked-none (x ∷ []) e = cc
unmarked-none (x ∷ (y ∷ xs)) e = cc

pub unmarked-one : (s : ℕ) (xs : List ℕ) → One s ≡ unmarked_of xs → xs ≡ s ∷ []
unfolding unmarked_of
unmarked-one s [] e = cc
unmarked-one s (x ∷ []) e = cc
unmarked-one s (x ∷ (y ∷ xs)) e = cc
