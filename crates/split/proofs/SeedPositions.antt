-- What is answered for a position, by its two cases, and what a seed that was answered says. Assumes nothing.
use mathlib.Core.Path.{◌≡◌, sym, ◌∙◌}
use mathlib.Core.Logic.{inl, inr}
use Prim.Native.Nat.{ℕ}
use native.Mathlib.Omega.{arith}
use borrow.Author.Tests.{eq-eqb, ne_eqb, eqb-true, eqb-false}
use lib.Dec.{eqb}
use Rattle.field.specs.Generator.{seed_after, iterate}
use Rattle.field.proofs.Tests.{either}
use Rattle.split.specs.SeedPosition.{seed, refused, seed_at}

module _ (start steps : ℕ) where
  pub none-at : start ≡ 0 → seed_at start steps ≡ refused 6
  unfolding seed_at
  none-at e = rw (eq-eqb start 0 e)

  pub some_at : (start ≡ 0 → ⊥) → seed_at start steps ≡ seed (iterate steps seed_after start)
  unfolding seed_at
  some_at n = rw (ne_eqb start 0 n)

  pub record Found (s : ℕ) : Type 0 where
    pub nonzero : start ≡ 0 → ⊥
    pub there : s ≡ iterate steps seed_after start

  pub found : (s : ℕ) → seed_at start steps ≡ seed s → Found s
  found s e =
      elim (either (eqb start 0)) [
        | inl t ↦
            let no : refused 6 ≡ seed s = sym (none-at (eqb-true start 0 t)) ∙ e in
            absurd (let z : ◌≡◌ {A = ℕ} 0 1 = cc in let f : ⊥ = omega arith in f)
        | inr t ↦
            let n = eqb-false start 0 t in
            let same : seed (iterate steps seed_after start) ≡ seed s = sym (some_at n) ∙ e in
            record { nonzero = n; there = cc }
      ]
