-- The comparison of two lists of bytes says yes exactly of equal lists, and two parts are compared one after the other. Assumes nothing.
use Rattle.std.proofs.Common.{◌≡◌, ℕ, true, ◌&&◌, eqb, List, [], ◌∷◌, ◌++◌, length, take, sym, refl, ap, ap₂, ◌∙◌, inl, inr, arith, eq-eqb, eqb-true}
use Rattle.std.specs.Prelude.{nat_eq}
use Rattle.std.specs.Cmp.Lexicographic.{pointwise}
use Rattle.std.specs.List.{starts_with}
use mathlib.Core.Bool.{false≢true}
use Rattle.field.proofs.Tests.{either}
use Rattle.field.specs.Bytes.{same_bytes}

pub same-eq : (xs ys : List ℕ) → same_bytes xs ys ≡ true → xs ≡ ys
unfolding same_bytes
same-eq [] [] e = refl
same-eq [] (y ∷ ys) e = absurd (false≢true e)
same-eq (x ∷ xs) [] e = absurd (false≢true e)
same-eq (x ∷ xs) (y ∷ ys) e =
    elim (either (eqb x y)) [
      | inl t ↦ ap₂ ◌∷◌ (eqb-true x y t) (same-eq xs ys (rw t at e))
      | inr t ↦ absurd (false≢true (rw t at e))
    ]

pub eq-same : (xs : List ℕ) → same_bytes xs xs ≡ true
unfolding same_bytes
eq-same [] = refl
eq-same (x ∷ xs) = rw (eq-eqb x x refl) (eq-same xs)

pub same-append : (xs ys us vs : List ℕ) → length xs ≡ length ys → same_bytes (xs ++ us) (ys ++ vs) ≡ (same_bytes xs ys && same_bytes us vs)
unfolding same_bytes
same-append [] [] us vs e = refl
same-append [] (y ∷ ys) us vs e = absurd (let z : ⊥ = omega arith in z)
same-append (x ∷ xs) [] us vs e = absurd (let z : ⊥ = omega arith in z)
same-append (x ∷ xs) (y ∷ ys) us vs e =
    elim (either (eqb x y)) [ inl t ↦ rw t (same-append xs ys us vs (omega arith)) | inr t ↦ rw t ]

-- ---- as the library has it

pub pointwise-same : (xs ys : List ℕ) → pointwise nat_eq xs ys ≡ same_bytes xs ys
unfolding same_bytes
pointwise-same [] [] = refl
pointwise-same [] (y ∷ ys) = refl
pointwise-same (x ∷ xs) [] = refl
pointwise-same (x ∷ xs) (y ∷ ys) = ap (λ b. eqb x y && b) (pointwise-same xs ys)

eqb-flip : (x y : ℕ) → eqb x y ≡ eqb y x
eqb-flip x y =
    elim (either (eqb x y)) [
      | inl t ↦ rw (eqb-true x y t)
      | inr t ↦ elim (either (eqb y x)) [ inl u ↦ rw (eqb-true y x u) | inr u ↦ t ∙ sym u ]
    ]

pub same-flip : (xs ys : List ℕ) → same_bytes xs ys ≡ same_bytes ys xs
unfolding same_bytes
same-flip [] [] = refl
same-flip [] (y ∷ ys) = refl
same-flip (x ∷ xs) [] = refl
same-flip (x ∷ xs) (y ∷ ys) = ap₂ ◌&&◌ (eqb-flip x y) (same-flip xs ys)

-- whether a list starts with another
pub starts_with-same : (xs ys : List ℕ) → starts_with nat_eq xs ys ≡ same_bytes (take (length ys) xs) ys
starts_with-same xs ys = rw (pointwise-same ys (take (length ys) xs)) (same-flip ys (take (length ys) xs))
