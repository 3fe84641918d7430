-- Tests: one computed at every number below n and the fact at each; a test's two outcomes. Assumes nothing.
use Rattle.std.proofs.Common.{◌≡◌, ℕ, zero, suc, ◌<◌, Bool, true, false, T, ◌⊎◌, refl, inl, inr, le_of_suc-le-suc, not-suc-le-zero}

-- a case split that keeps the equation
pub either : (b : Bool) → (b ≡ true) ⊎ (b ≡ false)
either true = inl refl
either false = inr refl

abbrev pub both : Bool → Bool → Bool
both true b = b
both false b = false

pub both_left : (a b : Bool) → T (both a b) → T a
both_left true b t = tt
both_left false b t = t

pub both_right : (a b : Bool) → T (both a b) → T b
both_right true b t = t
both_right false b t = absurd t

abbrev pub implies : Bool → Bool → Bool
implies true b = b
implies false b = true

pub modus : (a b : Bool) → T (implies a b) → T a → T b
modus true b t h = t
modus false b t h = absurd h

-- f holds at each number below n
abbrev pub below : ℕ → (ℕ → Bool) → Bool
below zero f = true
below (suc n) f = both (f zero) (below n (λ k. f (suc k)))

pub at : (n : ℕ) (f : ℕ → Bool) → T (below n f) → (k : ℕ) → k < n → T (f k)
at zero f t k h = absurd (not-suc-le-zero h)
at (suc n) f t zero h = both_left (f zero) (below n (λ m. f (suc m))) t
at (suc n) f t (suc k) h = at n (λ m. f (suc m)) (both_right (f zero) (below n (λ m. f (suc m))) t) k (le_of_suc-le-suc h)
