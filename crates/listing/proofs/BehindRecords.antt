-- The lines of an input are store calls, one after the other, so that the reads behind the records are those listed as accepted or repeated,
-- and the count of records fits the store. Assumes nothing.
use Rattle.std.proofs.Common.{◌≡◌, ℕ, suc, ◌+◌, cond, List, [], ◌∷◌, Result, Ok, Err, sym, refl, ap, ◌∙◌, subst, inl, inr, zero-add, arith, leb-true}
use mathlib.Core.List.{foldl}
use Rattle.field.proofs.Tests.{either}
use Rattle.droplet.specs.declared.card.Card.{Card}
use Rattle.droplet.specs.Questions.{card_refusal}
use Rattle.droplet.proofs.LegalCard.{legal}
use Rattle.droplet.specs.declared.refusal.Refusal.{Refusal}
use Rattle.decoder.specs.declared.store.StoreAnswer.{StoreAnswer}
use Rattle.decoder.specs.declared.store.StoreAnswer.TheVariants as reply
use Rattle.decoder.specs.Store.{Kept, kept, store_answer, store_read, StorePromise}
use Rattle.decoder.specs.StoreLoops.{Within}
use Rattle.decoder.specs.Demand3.{Call, reads_of, next_count, Chained, last_buffer, last_count, answered, calls_with}
use Rattle.decoder.proofs.StoreChain.{store-holds, store-total, store-fits, chain-exists}
use Rattle.listing.specs.declared.tally.Tally.{Tally}
use Rattle.listing.specs.Listing.{lines_of, Listed, none_listed, after_answer, after_line, listing, behind, BehindAll}
use Rattle.listing.specs.Loops.{Lists}
use Rattle.listing.proofs.LineInHand.{kept_whole}

-- ---- one line

-- what a tally is after a call with this answer and buffer: one more is accepted or repeated unless it is refused
record OneMore (s : Listed) (a : Result StoreAnswer Refusal) (buffer : List ℕ) (s' : Listed) : Type 0 where
  store : s'.store ≡ buffer
  count : s'.count ≡ next_count s.count a
  sum : s'.accepted + s'.repeated ≡ s.accepted + s.repeated + cond (answered (store_answer a)) 1 0

answer-more : (s : Listed) (a : Result StoreAnswer Refusal) (buffer : List ℕ) → OneMore s a buffer (after_answer s (kept (store_answer a) buffer))
unfolding after_answer
answer-more s (Ok (reply.Accepted n)) buffer = record { store = refl; count = refl; sum = omega arith }
answer-more s (Ok (reply.Repeat n)) buffer = record { store = refl; count = refl; sum = omega arith }
answer-more s (Ok (reply.Replaced n)) buffer = record { store = refl; count = refl; sum = omega arith }
answer-more s (Err q) buffer = record { store = refl; count = refl; sum = omega arith }

module _ (c : Card) (weights : List ℕ) where
  line-more : (s : Listed) (k : Call) → StorePromise c weights s.store s.count k.read k.answer k.buffer
      → OneMore s k.answer k.buffer (after_line c weights s k.read)
  unfolding after_line
  line-more s k promise =
      subst (λ (x : Kept). OneMore s k.answer k.buffer (after_answer s x))
      (kept_whole (store_read c weights s.store s.count k.read) k.answer k.buffer promise.says promise.leaves)
      (answer-more s k.answer k.buffer)

  -- ---- all lines

  -- what it is after some calls
  record Ends (s : Listed) (calls : List Call) (s' : Listed) : Type 0 where
    store : s'.store ≡ last_buffer s.store calls
    count : s'.count ≡ last_count s.count calls
    sum : s'.accepted + s'.repeated ≡ s.accepted + s.repeated + calls_with answered calls

  calls-end : (s : Listed) (calls : List Call) → Chained c weights s.store s.count calls → Ends s calls (foldl (after_line c weights) s (reads_of calls))
  unfolding Chained calls_with
  calls-end s [] t = record { store = refl; count = refl; sum = omega arith }
  calls-end s (k ∷ ks) t =
      let one = line-more s k t.0 in
      let next = after_line c weights s k.read in
      let rest = calls-end next ks (rw (one.store, one.count) t.1) in
      record {
        store = rest.store ∙ ap (λ (b : List ℕ). last_buffer b ks) one.store;
        count = rest.count ∙ ap (λ (n : ℕ). last_count n ks) one.count;
        sum = rest.sum ∙ ap (λ (n : ℕ). n + calls_with answered ks) one.sum ∙ more (answered (store_answer k.answer));
      }
    where
      more : (b : _) → s.accepted + s.repeated + cond b 1 0 + calls_with answered ks ≡ s.accepted + s.repeated + cond b (suc (calls_with answered ks)) (calls_with answered ks)
      more b = elim (either b) [ inl e ↦ rw e (omega arith) | inr e ↦ rw e (omega arith) ]

  module _ (fine : card_refusal c weights ≡ 0) (store input : List ℕ) where
    -- the calls of the lines
    offered : (calls : List Call) × Chained c weights store 0 calls × (reads_of calls ≡ lines_of input)
    offered = chain-exists c weights (lines_of input) store 0

    ended : Ends (none_listed store) offered.0 (listing c weights store input)
    unfolding listing
    ended = rw (← offered.2) (calls-end (none_listed store) offered.0 offered.1)

    listed-within : Within c.l (listing c weights store input).count (listing c weights store input).store
    listed-within =
        record {
          short = (legal c weights fine).sizes.l_most;
          fits = rw (ended.store, ended.count) (leb-true _ _ (store-fits c weights fine store offered.0 offered.1));
        }

    behind-listed : behind c (listing c weights store input) ≡ (listing c weights store input).accepted + (listing c weights store input).repeated
    unfolding behind
    behind-listed =
        rw (ended.store, ended.count, (store-holds c weights fine store offered.0 offered.1).read_back)
        (store-total c weights fine store offered.0 offered.1 ∙ sym (ended.sum ∙ zero-add (calls_with answered offered.0)))

-- what the program holds of it
pub lists-within : (c : Card) (weights store : List ℕ) (t : Tally) (store' : List ℕ) → card_refusal c weights ≡ 0 → Lists c weights store t store'
    → Within c.l t.count store'
lists-within c weights store t store' fine lists =
    rw (lists.stands.numbers.count, lists.stands.records) (listed-within c weights fine store lists.input)

pub behind-all : BehindAll
behind-all c weights fine store input = behind-listed c weights fine store input
