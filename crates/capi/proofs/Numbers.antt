-- What a form returns for a call's answer, where the numbers `f x` were made of its value `x`: those numbers, or the refusal's. Assumes
-- nothing.
use Rattle.std.specs.Prelude.{◌≡◌, List, ℕ, Result, Ok, Err, IsOkAnd, MatchResult}
use Rattle.std.proofs.Common.{refl}
use Rattle.droplet.specs.declared.refusal.Refusal.{Refusal}
use Rattle.droplet.specs.Refusals.{refusal_number}
use Rattle.capi.specs.CForms.{Returned, returned, numbers_returned}

module _ {T : Type 0} (f : T → List ℕ) (answer : List ℕ) where
  abbrev pub made : Result T Refusal → Returned
  made (Ok x) = returned 0 (f x)
  made (Err q) = returned (refusal_number q) answer

  pub numbers-made : {P : T → List ℕ → Type 0} (r : Result T Refusal) (m : Result (List ℕ) Refusal)
      → MatchResult r (λ x. IsOkAnd m (P x)) (λ q. m ≡ Err q) → ((x : T) (ns : List ℕ) → P x ns → ns ≡ f x)
      → numbers_returned answer m ≡ made r
  numbers-made (Ok x) (Ok ns) p e = rw (e x ns p) refl
  numbers-made (Ok x) (Err q) p e = elim p [ ]
  numbers-made (Err q) m p e = rw p refl
