-- `fountain_read_card` meets its contract: the numbers of each of the card reader's answers. Assumes nothing.
use Rattle.std.proofs.Common.{◌≡◌, List, [], ◌∷◌, ℕ, Result, Ok, Err, refl, ap, ◌∙◌}
use Rattle.droplet.specs.declared.card.Card.{Card}
use Rattle.droplet.specs.declared.refusal.Refusal.{Refusal}
use Rattle.droplet.specs.Questions.{card_answer}
use Rattle.capi.specs.CForms.{flag_number, card_returned}
use Rattle.capi.proofs.Numbers.{made, numbers-made}
use Rattle.capi.proofs.c_forms.fountain_read_card.Goals as goal

abbrev numbers : Card × ℕ → List ℕ
numbers a = a.0.f ∷ a.0.l ∷ a.0.r ∷ a.0.m ∷ a.0.lo ∷ a.0.hi ∷ a.1 ∷ flag_number a.0.interleaved ∷ a.0.width ∷ []

by_cases : (answer : List ℕ) (r : Result (Card × ℕ) Refusal) → made numbers answer r ≡ card_returned answer (card_answer r)
unfolding card_returned
by_cases answer (Ok x) = refl
by_cases answer (Err q) = refl

pub returns : goal.returns
returns c =
    c.answered.ensures ∙ numbers-made numbers _ _ _ c.map.ensures.cases (λ x ns e. e) ∙ by_cases _ _
    ∙ ap (card_returned _) c.read_card-read.ensures
