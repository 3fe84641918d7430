-- `fountain_write` meets its contract: the numbers of each of the writer's answers. Assumes nothing.
use Rattle.std.proofs.Common.{◌≡◌, List, [], ◌∷◌, ℕ, Result, Ok, Err, refl, ap, ◌∙◌}
use Rattle.droplet.specs.declared.refusal.Refusal.{Refusal}
use Rattle.strand.specs.declared.writer.Run.{Run}
use Rattle.strand.specs.Writer.{write_answer}
use Rattle.capi.specs.CForms.{stop_number, write_returned}
use Rattle.capi.proofs.Numbers.{made, numbers-made}
use Rattle.capi.proofs.c_forms.fountain_write.Goals as goal

abbrev numbers : Run → List ℕ
numbers r = stop_number r.stop ∷ r.made ∷ r.tried ∷ r.next ∷ r.dropped_run ∷ r.dropped_gc ∷ []

by_cases : (answer : List ℕ) (r : Result Run Refusal) → made numbers answer r ≡ write_returned answer (write_answer r)
unfolding write_returned
by_cases answer (Ok x) = refl
by_cases answer (Err q) = refl

pub returns : goal.returns
returns c = rw (← c.handed_card-card.ensures) (record {
  returns =
      c.answered.ensures ∙ numbers-made numbers _ _ _ c.map.ensures.cases (λ x ns e. e) ∙ by_cases _ _
      ∙ ap (write_returned _) c.write_strands-written.ensures.says;
  leaves = c.write_strands-written.ensures.leaves;
})
