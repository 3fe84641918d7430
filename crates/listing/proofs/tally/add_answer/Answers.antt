-- `add_answer` meets its contract, answer by answer. Assumes nothing.
use Rattle.std.proofs.Common.{◌≡◌, ◌⊎◌, refl, List, ℕ, ⊎_elim, Result, Ok}
use Rattle.droplet.specs.declared.refusal.Refusal.{Refusal}
use Rattle.decoder.specs.declared.store.StoreAnswer.{StoreAnswer}
use Rattle.decoder.specs.declared.store.StoreAnswer.TheVariants as reply
use Rattle.decoder.specs.Store.{kept, store_answer}
use Rattle.listing.specs.Listing.{Listed, listed_again, after_answer}
use Rattle.listing.proofs.Counting.{one_more}
use Rattle.listing.proofs.tally.add_answer.Goals as goal

pub returns-in_default : goal.returns-in_default
unfolding after_answer
returns-in_default c = record {
  numbers = λ s store h. rw c.in_default.is (record {
    reads = one_more _ _ h.reads;
    accepted = h.accepted;
    repeated = h.repeated;
    refused = one_more _ _ h.refused;
    count = h.count;
  });
  empty = refl;
}

-- an answer of which the reply is known
given : {a : Result StoreAnswer Refusal} {r : StoreAnswer} (q : StoreAnswer) → a ≡ Ok r → r ≡ q → a ≡ Ok q
given q o w = rw w at o

pub returns-in-Accepted : goal.returns-in-Accepted
unfolding after_answer
returns-in-Accepted c = record {
  numbers = λ s store h. rw (given (reply.Accepted c.in-Accepted.count) c.in-Ok.is c.in-Accepted.is) (record {
    reads = one_more _ _ h.reads;
    accepted = one_more _ _ h.accepted;
    repeated = h.repeated;
    refused = h.refused;
    count = refl;
  });
  empty = refl;
}

-- replaced, or a repeat
again : (a : Result StoreAnswer Refusal) (r : StoreAnswer) (n : ℕ) (s : Listed) (store : List ℕ) → a ≡ Ok r
    → (r ≡ reply.Repeat n) ⊎ (r ≡ reply.Replaced n) → after_answer s (kept (store_answer a) store) ≡ listed_again s n store
unfolding after_answer
again a r n s store o e =
    ⊎_elim (λ w. rw (given (reply.Repeat n) o w) refl) (λ w. rw (given (reply.Replaced n) o w) refl) e

pub returns-in-Repeat : goal.returns-in-Repeat
returns-in-Repeat c = record {
  numbers = λ s store h. rw (again _ _ _ s store c.in-Ok.is c.in-Repeat.is) (record {
    reads = one_more _ _ h.reads;
    accepted = h.accepted;
    repeated = one_more _ _ h.repeated;
    refused = h.refused;
    count = refl;
  });
  empty = refl;
}
