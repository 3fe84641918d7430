-- The answers of a store call, as its definition gives them: each refuses, if at all, with the number of a question, so that the code has an
-- answer of the same meaning. Assumes nothing.
use Rattle.std.proofs.Common.{◌≡◌, ℕ, suc, ◌*◌, length, Bool, true, false, cond, List, Result, Ok, Err, refl, ap, inl, inr, eqb-true}
use Rattle.std.proofs.lemmas.Bool.{eqb-false}
use lib.Dec.{eqb, leb}
use Rattle.field.specs.Bytes.{same_bytes}
use Rattle.field.proofs.Tests.{either}
use Rattle.droplet.specs.declared.card.Card.{Card}
use Rattle.droplet.specs.declared.refusal.Refusal.{Refusal}
use Rattle.droplet.specs.Questions.{card_refusal}
use Rattle.droplet.specs.Refusals.{refusal_number}
use Rattle.droplet.proofs.Refusals.{refusal_of, IsQuestion, card_refusal-question}
use Rattle.strand.specs.ReadCheck.{Reading, droplet, refused}
use Rattle.decoder.specs.declared.store.StoreAnswer.{StoreAnswer}
use Rattle.decoder.specs.declared.store.StoreAnswer.TheVariants as reply
use Rattle.decoder.specs.Store.{LegalRead, Found, found, absent, Stored, accepted, replaced, repeat, refusal, store_answer, record_bytes, full_count, better, count_fits, Kept, kept_answer, appended, unless_full, compared, store_record, droplet_read, store_reading, store_read}
use Rattle.decoder.proofs.ReadRefusals.{OwnNumber, read_number}

-- an answer that the code can give, and that answer
abbrev pub Answerable : Stored → Type 0
Answerable (refusal q) = IsQuestion q
Answerable a = Unit {0}

abbrev pub answer_of : Stored → Result StoreAnswer Refusal
answer_of (accepted n) = Ok (reply.Accepted n)
answer_of (replaced n) = Ok (reply.Replaced n)
answer_of (repeat n) = Ok (reply.Repeat n)
answer_of (refusal q) = Err (refusal_of q)

pub answer_back : (a : Stored) → Answerable a → store_answer (answer_of a) ≡ a
answer_back (accepted n) h = refl
answer_back (replaced n) h = refl
answer_back (repeat n) h = refl
answer_back (refusal q) h = ap refusal h.back

asks : (q : ℕ) → refusal_number (refusal_of q) ≡ q → IsQuestion q
asks q e = record { back = e }

-- of a step by a test, each of its two cases
by_test : (b : Bool) (x y : Kept) → Answerable (kept_answer x) → Answerable (kept_answer y) → Answerable (kept_answer (cond b x y))
by_test true x y f g = f
by_test false x y f g = g

module _ (L : ℕ) (buffer : List ℕ) (count : ℕ) where
  append_answers : (r : LegalRead) → Answerable (kept_answer (appended L buffer count r))
  unfolding appended
  append_answers r = by_test (leb (suc count * record_bytes L) (length buffer)) _ _ tt (asks 16 refl)

  record_answers : (r : LegalRead) (f : Found) → Answerable (kept_answer (compared L buffer count r f))
  unfolding compared unless_full
  record_answers r absent = append_answers r
  record_answers r (found i q) =
      let full = eqb q.count full_count in
      by_test (better r q.read) _ _ (by_test full _ _ (asks 20 refl) tt)
      (by_test (same_bytes q.read.payload r.payload) _ _ (by_test full _ _ (asks 20 refl) tt) (asks 15 refl))

  reading_answers : (o : Reading) → OwnNumber o → Answerable (kept_answer (store_reading L buffer count o))
  unfolding store_reading store_record
  reading_answers (refused q) h = h.question
  reading_answers (droplet s p k) h = record_answers (droplet_read s p k) _

pub call_answers : (c : Card) (weights buffer : List ℕ) (count : ℕ) (read : List ℕ) → Answerable (kept_answer (store_read c weights buffer count read))
unfolding store_read
call_answers c weights buffer count read =
    elim (either (eqb (card_refusal c weights) 0)) [
      | inl e ↦
          let own = read_number c weights (eqb-true _ _ e) read in
          rw e (by_test (count_fits c.l buffer count) _ _ (reading_answers c.l buffer count _ own) (asks 14 refl))
      | inr e ↦ rw e (card_refusal-question c weights (eqb-false _ _ e))
    ]
