-- `fountain_restore` meets its contract: the numbers of each of the restorer's answers. Assumes nothing.
use Rattle.std.proofs.Common.{◌≡◌, List, [], ◌∷◌, ℕ, Result, Ok, Err, refl, ap, ◌∙◌}
use Rattle.droplet.specs.declared.refusal.Refusal.{Refusal}
use Rattle.decoder.specs.declared.restorer.Sheet.{Sheet}
use Rattle.decoder.specs.Restorer.{restore_answer}
use Rattle.capi.specs.CForms.{restore_returned}
use Rattle.capi.proofs.Numbers.{made, numbers-made}
use Rattle.capi.proofs.c_forms.fountain_restore.Goals as goal

abbrev numbers : Sheet → List ℕ
numbers s = s.present ∷ s.passes ∷ s.contradictions ∷ []

by_cases : (answer : List ℕ) (r : Result Sheet Refusal) → made numbers answer r ≡ restore_returned answer (restore_answer r)
unfolding restore_returned
by_cases answer (Ok x) = refl
by_cases answer (Err q) = refl

pub returns : goal.returns
returns c = rw (← c.handed_card-card.ensures) (record {
  returns =
      c.answered.ensures ∙ numbers-made numbers _ _ _ c.map.ensures.cases (λ x ns e. e) ∙ by_cases _ _
      ∙ ap (restore_returned _) c.restore-restored.ensures.says;
  fills = c.restore-restored.ensures.fills;
  sets = c.restore-restored.ensures.sets;
  keeps = c.restore-restored.ensures.keeps;
  untouched = c.restore-restored.ensures.untouched;
})
