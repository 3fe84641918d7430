-- A list of store calls from an empty store is a list of steps over records, so that it leaves for each seed that found space the best of
-- its reads and their number; and there is such a list for every list of reads. Assumes nothing.
use mathlib.Core.Path.{◌≡◌, refl, sym, ap, ◌∙◌}
use mathlib.Core.Bool.{Bool, true, cond}
use mathlib.Core.List.{List, [], ◌∷◌, ◌++◌, append_assoc, append-nil, map}
use mathlib.Core.Logic.{inl, inr}
use Prim.Native.Nat.{ℕ, suc, ◌+◌, ◌≤◌}
use lib.ListN.{length}
use native.Mathlib.Nat.{zero-mul, add-zero}
use native.Mathlib.Omega.{arith}
use Rattle.field.specs.Bytes.{All}
use Rattle.field.proofs.Tests.{either}
use Rattle.droplet.specs.declared.card.Card.{Card}
use Rattle.droplet.specs.Droplet.{member}
use Rattle.droplet.specs.Questions.{card_refusal}
use Rattle.strand.specs.ReadCheck.{Reading, droplet, refused, read_check}
use Rattle.std.proofs.Common.{Result, Ok, Err}
use Rattle.droplet.specs.declared.refusal.Refusal.{Refusal}
use Rattle.decoder.specs.declared.store.StoreAnswer.{StoreAnswer}
use Rattle.decoder.specs.declared.store.StoreAnswer.TheVariants as reply
use Rattle.decoder.specs.Store.{LegalRead, Record, records_text, records, Stored, store_answer, kept_answer, kept_buffer, full_count, count_fits, store_read, StorePromise}
use Rattle.decoder.specs.Demand3.{seeds_of, reads_in, kept_reading, legal_reads, first_seeds, stored_seeds, best_of_each, Holds, Call, reads_of, next_count, Chained, last_buffer, last_count, answered, not20, reads_with, calls_with, taken_reads, counted_record, stored_records, Best, total_count}
use Rattle.decoder.proofs.LegalRead.{read-recordable}
use Rattle.decoder.proofs.ReadRefusals.{read_number}
use Rattle.decoder.proofs.BestReads.{BestIn, best-each}
use Rattle.decoder.proofs.StoreAnswers.{answer_of, answer_back, call_answers}
use Rattle.decoder.proofs.StoreSteps.{Step}
use Rattle.decoder.proofs.StoreCall.{room, count_after, Stocked, Moved, held-records, held_fits, reading-moves}
use Rattle.decoder.proofs.Account.{Account, empty-account, seen_after, reads_after, step-account}
use Rattle.decoder.proofs.ReadCounts.{Counted, empty-counted, counted_back, number_after, step-counted, step-not20}

-- ---- one call

count_next : (count : ℕ) (a : Result StoreAnswer Refusal) → next_count count a ≡ count_after count (store_answer a)
count_next count (Ok (reply.Accepted n)) = refl
count_next count (Ok (reply.Replaced n)) = refl
count_next count (Ok (reply.Repeat n)) = refl
count_next count (Err q) = refl

-- what a call leaves of a store that holds records
pub record Stepped (c : Card) (weights lent : List ℕ) (rs : List Record) (count : ℕ) (k : Call) : Type 0 where
  pub rs' : List Record
  pub step : Step (room c.l lent) rs (read_check c weights k.read) (store_answer k.answer) rs'
  pub stocked : Stocked c.l lent rs' k.buffer (next_count count k.answer)

module _ (c : Card) (weights : List ℕ) (fine : card_refusal c weights ≡ 0) (lent : List ℕ) where
  call-moves : (rs : List Record) (buffer : List ℕ) (count : ℕ) → Stocked c.l lent rs buffer count → (read : List ℕ)
      → Moved c.l lent rs count (read_check c weights read) (store_read c weights buffer count read)
  unfolding store_read
  call-moves rs buffer count h read =
      rw (fine, held_fits c.l lent rs buffer count h)
      (reading-moves c.l lent rs buffer count h (read_check c weights read) (read-recordable c weights read))

  pub call-steps : (rs : List Record) (buffer : List ℕ) (count : ℕ) → Stocked c.l lent rs buffer count → (k : Call)
      → StorePromise c weights buffer count k.read k.answer k.buffer → Stepped c weights lent rs count k
  call-steps rs buffer count h k p =
      let left = call-moves rs buffer count h k.read in
      record {
        rs' = left.rs';
        step = rw p.says left.step;
        stocked = rw (count_next count k.answer, p.says, p.leaves) left.stocked;
      }

  pub empty-stocked : Stocked c.l lent [] lent 0
  empty-stocked =
      record { good = tt; number = refl; bytes = unfold records_text in rw zero-mul; fits = omega arith }

-- ---- the reads, one by one or all

seen_first : (seen : List ℕ) (o : Reading) (rest : List LegalRead)
    → seen ++ first_seeds seen (kept_reading o rest) ≡ seen_after seen o ++ first_seeds (seen_after seen o) rest
unfolding first_seeds
seen_first seen (refused n) rest = refl
seen_first seen (droplet s p k) rest =
    elim (either (member s seen)) [ inl e ↦ rw e | inr e ↦ rw e (sym (append_assoc seen (s ∷ []) (first_seeds (seen ++ (s ∷ [])) rest))) ]

kept-first : (os : List LegalRead) (o : Reading) (rest : List LegalRead) → os ++ kept_reading o rest ≡ (os ++ kept_reading o []) ++ rest
kept-first os (refused n) rest = rw append-nil
kept-first os (droplet s p k) rest = sym (append_assoc os (_ ∷ []) rest)

with_first : (test : Stored → Bool) (os : List LegalRead) (o : Reading) (a : Stored) (rest : List LegalRead)
    → os ++ cond (test a) (kept_reading o rest) rest ≡ reads_after test os o a ++ rest
with_first test os o a rest = elim (either (test a)) [ inl e ↦ rw e (kept-first os o rest) | inr e ↦ rw e ]

number-first : (number : ℕ) (a : Stored) (rest : ℕ) → number + cond (answered a) (suc rest) rest ≡ number_after number a + rest
number-first number a rest = elim (either (answered a)) [ inl e ↦ rw e (omega arith) | inr e ↦ rw e ]

number-most : (number : ℕ) (a : Stored) → number_after number a ≤ suc number
number-most number a = elim (either (answered a)) [ inl e ↦ rw e (omega arith) | inr e ↦ rw e (omega arith) ]

-- ---- a list of calls

-- the records that calls leave, with the account of all the reads and the counts
record Left (c : Card) (weights lent : List ℕ) (seen : List ℕ) (legal taken : List LegalRead) (number : ℕ) (calls : List Call) (buffer : List ℕ) (count : ℕ) : Type 0 where
  rs : List Record
  stocked : Stocked c.l lent rs buffer count
  account : Account (room c.l lent) (seen ++ first_seeds seen (legal_reads c weights (reads_of calls)))
      (legal ++ reads_with not20 c weights calls) (taken ++ taken_reads c weights calls) (reads_in rs)
  counted : Counted (taken ++ taken_reads c weights calls) (number + calls_with answered calls) rs
  few : number + length calls ≤ full_count → All (λ k. not20 (store_answer k.answer) ≡ true) calls

module _ (c : Card) (weights : List ℕ) (fine : card_refusal c weights ≡ 0) (lent : List ℕ) where
  chain-leaves : (seen : List ℕ) (legal taken : List LegalRead) (number : ℕ) (rs : List Record) (buffer : List ℕ) (count : ℕ)
      → Account (room c.l lent) seen legal taken (reads_in rs) → Counted taken number rs → Stocked c.l lent rs buffer count
      → (calls : List Call) → Chained c weights buffer count calls
      → Left c weights lent seen legal taken number calls (last_buffer buffer calls) (last_count count calls)
  unfolding Chained legal_reads reads_with calls_with
  chain-leaves seen legal taken number rs buffer count all counts h [] t =
      record {
        rs = rs;
        stocked = h;
        account = unfold first_seeds in rw (append-nil seen, append-nil legal, append-nil taken) all;
        counted = rw (append-nil taken, add-zero number) counts;
        few = λ less. tt;
      }
  chain-leaves seen legal taken number rs buffer count all counts h (k ∷ ks) t =
      let o = read_check c weights k.read in
      let a = store_answer k.answer in
      let now = call-steps c weights fine lent rs buffer count h k t.0 in
      let left = chain-leaves (seen_after seen o) (reads_after not20 legal o a) (reads_after answered taken o a) (number_after number a) now.rs' k.buffer
      (next_count count k.answer)
      (step-account (room c.l lent) seen legal taken rs all o a now.rs' now.step)
      (step-counted taken number rs counts all.once o a now.rs' (room c.l lent) now.step)
      now.stocked ks t.1 in
      record {
        rs = left.rs;
        stocked = left.stocked;
        account = rw (
          seen_first seen o (legal_reads c weights (reads_of ks)),
          with_first not20 legal o a (reads_with not20 c weights ks),
          with_first answered taken o a (taken_reads c weights ks),
        )
            left.account;
        counted = rw (with_first answered taken o a (taken_reads c weights ks), number-first number a (calls_with answered ks)) left.counted;
        few = λ less. (
          step-not20 taken number rs counts o a now.rs' (room c.l lent) (read_number c weights fine k.read) now.step (omega arith),
          left.few (omega (arith, number-most number a)),
        );
      }

  module _ (calls : List Call) (t : Chained c weights lent 0 calls) where
    left : Left c weights lent [] [] [] 0 calls (last_buffer lent calls) (last_count 0 calls)
    left = chain-leaves [] [] [] 0 [] lent 0 (empty-account (room c.l lent)) empty-counted (empty-stocked c weights fine lent) calls t

    records-left : records c.l (last_count 0 calls) (last_buffer lent calls) ≡ left.rs
    records-left = held-records c.l lent left.rs (last_buffer lent calls) (last_count 0 calls) left.stocked

    -- the reads that the records hold: their seeds, and that each is the best of those taken, and of those not refused under 20
    pub left-order : seeds_of (reads_in (records c.l (last_count 0 calls) (last_buffer lent calls))) ≡ stored_seeds c weights lent (reads_of calls)
    unfolding stored_seeds
    left-order = rw records-left left.account.order

    pub left-best : All (BestIn (taken_reads c weights calls)) (reads_in (records c.l (last_count 0 calls) (last_buffer lent calls)))
    left-best = rw records-left left.account.each

    pub left-legal : All (BestIn (reads_with not20 c weights calls)) (reads_in (records c.l (last_count 0 calls) (last_buffer lent calls)))
    left-legal = rw records-left left.account.legal_too

    stored-are : stored_records c weights lent calls ≡ left.rs
    unfolding stored_records stored_seeds
    stored-are =
        let taken = taken_reads c weights calls in
        let held = reads_in left.rs in
        let best : best_of_each (stored_seeds c weights lent (reads_of calls)) taken ≡ held
        = ap (λ (ss : List ℕ). best_of_each ss taken) (sym left.account.order) ∙ best-each taken held left.account.each in
        ap (map (counted_record taken)) best ∙ counted_back taken left.rs left.counted.each

    -- the count fits the buffer
    pub store-fits : count_fits c.l (last_buffer lent calls) (last_count 0 calls) ≡ true
    store-fits = held_fits c.l lent left.rs (last_buffer lent calls) (last_count 0 calls) left.stocked

    -- demand 3's opening sentence
    pub store-holds : Holds c.l lent (stored_records c weights lent calls) (last_buffer lent calls) (last_count 0 calls)
    store-holds =
        record { number = rw stored-are left.stocked.number; bytes = rw stored-are left.stocked.bytes; read_back = records-left ∙ sym stored-are }

    pub store-best : Best (stored_seeds c weights lent (reads_of calls)) (reads_with not20 c weights calls) (stored_records c weights lent calls)
    unfolding stored_seeds
    store-best =
        let legal = reads_with not20 c weights calls in
        let held = reads_in left.rs in
        record {
          order = rw stored-are left.account.order;
          legal_too = ap reads_in stored-are ∙ sym (best-each legal held left.account.legal_too) ∙ ap (λ (ss : List ℕ). best_of_each ss legal) left.account.order;
        }

    pub store-total : total_count (stored_records c weights lent calls) ≡ calls_with answered calls
    store-total = rw stored-are (omega (arith, left.counted.total))

    pub store-few : length calls ≤ full_count → All (λ k. not20 (store_answer k.answer) ≡ true) calls
    store-few less = left.few (omega arith)

-- ---- the calls of a list of reads

module _ (c : Card) (weights : List ℕ) where
  call_of : List ℕ → ℕ → List ℕ → Call
  call_of buffer count read =
      let k = store_read c weights buffer count read in record { read = read; answer = answer_of (kept_answer k); buffer = kept_buffer k }

  pub chain-exists : (reads : List (List ℕ)) (buffer : List ℕ) (count : ℕ)
      → (calls : List Call) × Chained c weights buffer count calls × (reads_of calls ≡ reads)
  unfolding Chained call_of
  chain-exists [] buffer count = ([], tt, refl)
  chain-exists (r ∷ rs) buffer count =
      let k = call_of buffer count r in
      let rest = chain-exists rs k.buffer (next_count count k.answer) in (
        k ∷ rest.0,
        (record { says = answer_back _ (call_answers c weights buffer count r); leaves = refl }, rest.1),
        ap (λ (l : List (List ℕ)). r ∷ l) rest.2,
      )
