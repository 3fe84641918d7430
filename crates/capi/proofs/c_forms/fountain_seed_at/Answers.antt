-- `fountain_seed_at` meets its contract: the numbers of each of the two answers. Assumes nothing.
use Rattle.std.proofs.Common.{◌≡◌, List, [], ◌∷◌, ℕ, Result, Ok, Err, refl, ap, ◌∙◌}
use Rattle.droplet.specs.declared.refusal.Refusal.{Refusal}
use Rattle.split.specs.SeedPosition.{seed_answer}
use Rattle.capi.specs.CForms.{seed_returned}
use Rattle.capi.proofs.Numbers.{made, numbers-made}
use Rattle.capi.proofs.c_forms.fountain_seed_at.Goals as goal

abbrev numbers : ℕ → List ℕ
numbers s = s ∷ []

by_cases : (answer : List ℕ) (r : Result ℕ Refusal) → made numbers answer r ≡ seed_returned answer (seed_answer r)
unfolding seed_returned
by_cases answer (Ok x) = refl
by_cases answer (Err q) = refl

pub returns : goal.returns
returns c =
    c.answered.ensures ∙ numbers-made numbers _ _ _ c.map.ensures.cases (λ x ns e. e) ∙ by_cases _ _
    ∙ ap (seed_returned _) c.seed_at-seed.ensures
