-- `fountain_store` meets its contract: the numbers of each of the store call's answers. Assumes nothing.
use Rattle.std.proofs.Common.{◌≡◌, List, ℕ, Result, Ok, Err, refl, ap, ◌∙◌}
use Rattle.droplet.specs.declared.refusal.Refusal.{Refusal}
use Rattle.decoder.specs.declared.store.StoreAnswer.{StoreAnswer}
use Rattle.decoder.specs.declared.store.StoreAnswer.TheVariants.{Accepted, Repeat, Replaced}
use Rattle.decoder.specs.Store.{store_answer}
use Rattle.capi.specs.CForms.{store_numbers, store_returned}
use Rattle.capi.proofs.Numbers.{made, numbers-made}
use Rattle.capi.proofs.c_forms.fountain_store.Goals as goal

by_cases : (answer : List ℕ) (r : Result StoreAnswer Refusal) → made store_numbers answer r ≡ store_returned answer (store_answer r)
unfolding store_returned
by_cases answer (Ok (Accepted n)) = refl
by_cases answer (Ok (Repeat n)) = refl
by_cases answer (Ok (Replaced n)) = refl
by_cases answer (Err q) = refl

pub returns : goal.returns
returns c = rw (← c.handed_card-card.ensures) (record {
  returns =
      c.answered.ensures ∙ numbers-made store_numbers _ _ _ c.map.ensures.cases (λ x ns e. e) ∙ by_cases _ _
      ∙ ap (store_returned _) c.store_read-stored.ensures.says;
  leaves = c.store_read-stored.ensures.leaves;
})
