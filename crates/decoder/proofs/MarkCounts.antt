-- Marks: what setting one does to the others and to their count. Assumes nothing.
use mathlib.Core.Path.{◌≡◌, refl, ap}
use mathlib.Core.Bool.{Bool, true, false, cond}
use mathlib.Core.List.{List}
use mathlib.Core.Logic.{inl, inr}
use Prim.Native.Nat.{ℕ, zero, suc, ◌≤◌, ◌<◌, zero-le}
use native.Mathlib.Nat.{le_refl}
use native.Mathlib.Decide.{ℕ_discrete}
use native.Mathlib.Omega.{arith}
use borrow.Author.Tests.{eq-eqb}
use lib.ListN.{length, set}
use lib.Seq.{get_or-set_same, get_or-set_other}
use Rattle.field.proofs.Tests.{either}
use Rattle.decoder.specs.Restorer.{marked, present}

once_more : (b : Bool) (n : ℕ) → cond b (suc (suc n)) (suc n) ≡ suc (cond b (suc n) n)
once_more true n = refl
once_more false n = refl

module _ (marks : List ℕ) (i : ℕ) where
  pub marked-same : i < length marks → marked (set marks i 1) i ≡ true
  unfolding marked
  marked-same h = eq-eqb _ 1 (get_or-set_same marks i 1 0 h)

  pub marked_other : (j : ℕ) → (j ≡ i → ⊥) → marked (set marks i 1) j ≡ marked marks j
  unfolding marked
  marked_other j h = rw (get_or-set_other marks i j 1 0 h)

  present-past : (n : ℕ) → n ≤ i → present n (set marks i 1) ≡ present n marks
  unfolding present
  present-past zero h = refl
  present-past (suc n) h = rw (present-past n (omega arith), marked_other n (omega arith))

  -- "present" grows by one where a new mark is set
  pub present-more : (n : ℕ) → i < n → i < length marks → marked marks i ≡ false → present n (set marks i 1) ≡ suc (present n marks)
  unfolding present
  present-more zero h l u = absurd (omega arith)
  present-more (suc n) h l u =
      elim (ℕ_discrete n i) [
        | yes e ↦ rw (e, marked-same l, u) (ap suc (present-past i (le_refl i)))
        | no e ↦ rw (marked_other n e, present-more n (omega arith) l u) (once_more (marked marks n) (present n marks))
      ]

pub present-most : (n : ℕ) (marks : List ℕ) → present n marks ≤ n
unfolding present
present-most zero marks = zero-le
present-most (suc n) marks =
    let most = present-most n marks in
    elim (either (marked marks n)) [ inl e ↦ rw e (omega arith) | inr e ↦ rw e (omega arith) ]

-- all counted: each is marked
pub present-all : (n : ℕ) (marks : List ℕ) → present n marks ≡ n → (i : ℕ) → i < n → marked marks i ≡ true
unfolding present
present-all zero marks e i h = absurd (let z : ⊥ = omega arith in z)
present-all (suc n) marks e i h =
    elim (either (marked marks n)) [
      | inl t ↦
          let counted : suc (present n marks) ≡ suc n = rw t at e in
          elim (ℕ_discrete i n) [ yes p ↦ rw p t | no p ↦ present-all n marks (omega arith) i (omega arith) ]
      | inr t ↦
          let counted : present n marks ≡ suc n = rw t at e in absurd (let z : ⊥ = omega (arith, present-most n marks) in z)
    ]

-- none marked: the count is 0
pub present-none : (n : ℕ) (marks : List ℕ) → ((i : ℕ) → i < n → marked marks i ≡ false) → present n marks ≡ 0
unfolding present
present-none zero marks h = refl
present-none (suc n) marks h = rw (h n (le_refl (suc n))) (present-none n marks (λ i b. h i (omega arith)))
