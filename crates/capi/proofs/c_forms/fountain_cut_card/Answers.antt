-- `fountain_cut_card` meets its contract: the number of each of the card cutter's answers. Assumes nothing.
use Rattle.std.proofs.Common.{◌≡◌, List, [], ◌∷◌, ℕ, Result, Ok, Err, refl, ap, ◌∙◌}
use Rattle.droplet.specs.declared.refusal.Refusal.{Refusal}
use Rattle.droplet.specs.CardCutter.{cut_answer}
use Rattle.capi.specs.CForms.{cut_returned}
use Rattle.capi.proofs.Numbers.{made, numbers-made}
use Rattle.capi.proofs.c_forms.fountain_cut_card.Goals as goal

abbrev numbers : ℕ → List ℕ
numbers n = n ∷ []

by_cases : (answer : List ℕ) (r : Result ℕ Refusal) → made numbers answer r ≡ cut_returned answer (cut_answer r)
unfolding cut_returned
by_cases answer (Ok x) = refl
by_cases answer (Err q) = refl

pub returns : goal.returns
returns c = rw (← c.handed_card-card.ensures) (record {
  returns =
      c.answered.ensures ∙ numbers-made numbers _ _ _ c.map.ensures.cases (λ x ns e. e) ∙ by_cases _ _
      ∙ ap (cut_returned _) c.cut_card-cut.ensures.says;
  leaves = c.cut_card-cut.ensures.leaves;
})
