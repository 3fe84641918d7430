-- The missing and the known segments of a set, and how many of a set lie in another. Assumes nothing.
use mathlib.Core.Path.{◌≡◌, refl, sym, ap, ◌∙◌}
use mathlib.Core.Bool.{Bool, true, false, not, true≢false}
use mathlib.Core.List.{List, [], ◌∷◌}
use mathlib.Core.Logic.{inl, inr}
use Prim.Native.Nat.{ℕ, suc, ◌<◌}
use lib.ListN.{length}
use Rattle.field.specs.Bytes.{All}
use Rattle.field.proofs.Tests.{either}
use Rattle.decoder.specs.Restorer.{marked, missing, known}
use Rattle.decoder.specs.Demand3.{hits}

module _ (marks : List ℕ) where
  -- what follows for each unmarked segment of a set, and for each marked one
  pub missing-all : (P Q : ℕ → Type 0) → ((s : ℕ) → P s → marked marks s ≡ false → Q s) → (set : List ℕ) → All P set → All Q (missing marks set)
  unfolding missing
  missing-all P Q f [] h = tt
  missing-all P Q f (s ∷ set) h =
      let rest = missing-all P Q f set h.1 in
      elim (either (marked marks s)) [ inl e ↦ rw e rest | inr e ↦ rw e (f s h.0 e, rest) ]

  pub known-all : (P Q : ℕ → Type 0) → ((s : ℕ) → P s → marked marks s ≡ true → Q s) → (set : List ℕ) → All P set → All Q (known marks set)
  unfolding known
  known-all P Q f [] h = tt
  known-all P Q f (s ∷ set) h =
      let rest = known-all P Q f set h.1 in
      elim (either (marked marks s)) [ inl e ↦ rw e (f s h.0 e, rest) | inr e ↦ rw e rest ]

  -- the one missing segment of a set
  pub missing-one : (K i : ℕ) (set : List ℕ) → All (λ s. s < K) set → missing marks set ≡ i ∷ [] → (i < K) × (marked marks i ≡ false)
  missing-one K i set h e =
      (rw e at (missing-all (λ s. s < K) (λ s. (s < K) × (marked marks s ≡ false)) (λ s b u. (b, u)) set h)).0

  pub missing-none : (K : ℕ) (set : List ℕ) → ((i : ℕ) → i < K → marked marks i ≡ true) → All (λ s. s < K) set → missing marks set ≡ []
  unfolding missing
  missing-none K [] h below = refl
  missing-none K (s ∷ set) h below = rw (h s below.0) (missing-none K set h below.1)

  pub hits-missing : (set : List ℕ) → hits (λ s. not (marked marks s)) set ≡ length (missing marks set)
  unfolding hits missing
  hits-missing [] = refl
  hits-missing (s ∷ set) =
      elim (either (marked marks s)) [ inl e ↦ rw e (hits-missing set) | inr e ↦ rw e (ap suc (hits-missing set)) ]

  -- a set S that has no mark meets a droplet's segments in its missing ones alone
  pub hits-unmarked : (K : ℕ) (S : ℕ → Bool) (set : List ℕ) → ((i : ℕ) → i < K → S i ≡ true → marked marks i ≡ false)
      → All (λ s. s < K) set → hits S set ≡ hits S (missing marks set)
  unfolding hits missing
  hits-unmarked K S [] h below = refl
  hits-unmarked K S (s ∷ set) h below =
      let rest = hits-unmarked K S set h below.1 in
      elim (either (marked marks s)) [
        | inl e ↦ elim (either (S s)) [ inl f ↦ absurd (true≢false (sym e ∙ h s below.0 f)) | inr f ↦ rw (e, f) rest ]
        | inr e ↦ rw (e, rest)
      ]
