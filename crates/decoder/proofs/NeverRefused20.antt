-- No call is refused under 20 where there are no more calls than a count can count; and an answer that is not that refusal. Assumes nothing.
use mathlib.Core.Path.{◌≡◌, refl, sym, ap, ◌∙◌}
use mathlib.Core.Bool.{true, true≢false}
use mathlib.Core.List.{List, [], ◌∷◌}
use mathlib.Core.Logic.{inl, inr}
use Prim.Native.Nat.{ℕ, ◌≤◌}
use borrow.Author.Tests.{eqb-true}
use lib.Dec.{eqb}
use lib.ListN.{length}
use Rattle.field.specs.Bytes.{All}
use Rattle.field.proofs.Tests.{either}
use Rattle.droplet.specs.declared.card.Card.{Card}
use Rattle.droplet.specs.Questions.{card_refusal}
use Rattle.strand.specs.ReadCheck.{read_check}
use Rattle.std.proofs.Common.{Result, Ok, Err}
use Rattle.droplet.specs.declared.refusal.Refusal.{Refusal}
use Rattle.droplet.specs.declared.refusal.Refusal.TheVariants.{FullCount}
use Rattle.droplet.specs.Refusals.{refusal_number}
use Rattle.droplet.proofs.Refusals.{refusal_number-one}
use Rattle.decoder.specs.declared.store.StoreAnswer.{StoreAnswer}
use Rattle.decoder.specs.declared.store.StoreAnswer.TheVariants as reply
use Rattle.decoder.specs.Store.{store_answer, full_count}
use Rattle.decoder.specs.Demand3.{kept_reading, legal_reads, Call, reads_of, Chained, not20, reads_with}
use Rattle.decoder.proofs.AllOf.{all_map}
use Rattle.decoder.proofs.StoreChain.{store-few}

pub answer-not20 : (a : Result StoreAnswer Refusal) → (a ≡ Err FullCount → ⊥) → not20 (store_answer a) ≡ true
answer-not20 (Ok (reply.Accepted n)) f = refl
answer-not20 (Ok (reply.Repeat n)) f = refl
answer-not20 (Ok (reply.Replaced n)) f = refl
answer-not20 (Err q) f =
    elim (either (eqb (refusal_number q) 20)) [ inl t ↦ absurd (f (ap Err (refusal_number-one q FullCount (eqb-true _ _ t)))) | inr t ↦ rw t ]

not-refused : (a : Result StoreAnswer Refusal) → not20 (store_answer a) ≡ true → a ≡ Err FullCount → ⊥
not-refused a t e = true≢false (sym t ∙ ap (λ x. not20 (store_answer x)) e)

-- where no call is refused so, the reads of these are all legal reads
all-legal : (c : Card) (ws : List ℕ) (calls : List Call) → All (λ k. not20 (store_answer k.answer) ≡ true) calls
    → reads_with not20 c ws calls ≡ legal_reads c ws (reads_of calls)
unfolding legal_reads reads_with
all-legal c ws [] h = refl
all-legal c ws (k ∷ ks) h = rw h.0 (ap (kept_reading (read_check c ws k.read)) (all-legal c ws ks h.1))

pub never_20 : (c : Card) (ws : List ℕ) → card_refusal c ws ≡ 0 → (lent : List ℕ) (calls : List Call) → Chained c ws lent 0 calls → length calls ≤ full_count
    → All (λ k. k.answer ≡ Err FullCount → ⊥) calls × (reads_with not20 c ws calls ≡ legal_reads c ws (reads_of calls))
never_20 c ws fine lent calls t few =
    let none = store-few c ws fine lent calls t few in
    (all_map _ _ (λ k h. not-refused k.answer h) calls none, all-legal c ws calls none)
