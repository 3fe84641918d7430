-- `fountain_choose_call` meets its contract: the numbers of each of the three answers. Assumes nothing.
use Rattle.std.proofs.Common.{◌≡◌, List, [], ◌∷◌, ℕ, Result, Ok, Err, refl, ap, ◌∙◌}
use Rattle.droplet.specs.declared.refusal.Refusal.{Refusal}
use Rattle.basecalls.specs.declared.choice.Caller.{Caller}
use Rattle.basecalls.specs.declared.choice.Caller.TheVariants.{First, Second}
use Rattle.basecalls.specs.TwoCallers.{choice_of}
use Rattle.capi.specs.CForms.{caller_number, choice_returned}
use Rattle.capi.proofs.Numbers.{made, numbers-made}
use Rattle.capi.proofs.c_forms.fountain_choose_call.Goals as goal

abbrev numbers : Caller → List ℕ
numbers k = caller_number k ∷ []

by_cases : (answer : List ℕ) (r : Result Caller Refusal) → made numbers answer r ≡ choice_returned answer (choice_of r)
unfolding choice_returned
by_cases answer (Ok First) = refl
by_cases answer (Ok Second) = refl
by_cases answer (Err q) = refl

pub returns : goal.returns
returns c = rw (← c.handed_card-card.ensures)
    (c.answered.ensures ∙ numbers-made numbers _ _ _ c.map.ensures.cases (λ x ns e. e) ∙ by_cases _ _
    ∙ ap (choice_returned _) c.choose_call-chosen.ensures)
