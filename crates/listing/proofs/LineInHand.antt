-- The line's buffer and the tally hold the progress of the input: over a newline, over any other byte, and over calls one after
-- the other. Assumes nothing.
use Rattle.std.proofs.Common.{◌≡◌, ℕ, ◌+◌, ◌<◌, ◌≤◌, List, [], ◌∷◌, ◌++◌, Option, unwrap_or, Result, length, get_or, take, set, sym, refl, ap, ◌∙◌, add-one, arith, length-append, length-set, take_all, take-suc, take-suc-set}
use mathlib.Core.List.{foldl-append}
use lib.Seq.{take-nil, take-append-le}
use Rattle.std.specs.declared.io.Error.{Error}
use Rattle.droplet.specs.declared.card.Card.{Card}
use Rattle.droplet.specs.declared.refusal.Refusal.{Refusal}
use Rattle.decoder.specs.declared.store.StoreAnswer.{StoreAnswer}
use Rattle.decoder.specs.Store.{Kept, kept, accepted, replaced, repeat, refusal, store_answer, kept_answer, kept_buffer, store_read, StorePromise}
use Rattle.listing.specs.declared.tally.Tally.{Tally}
use Rattle.listing.specs.Listing.{Listed, after_answer, after_line}
use Rattle.listing.specs.Loops.{Progress, start, after_newline, after_byte, after_bytes, InHand, Stands, Holds, Goes, Counted, Closes, brought, Read, Came, Lists}
use Rattle.listing.proofs.LongLines.{long-line}
use Rattle.listing.proofs.InputLines.{input-listed}

-- ---- before the first byte

pub begins : (t : Tally) → (t.reads ≡ 0) × ((t.accepted ≡ 0) × ((t.repeated ≡ 0) × ((t.refused ≡ 0) × ((t.count ≡ 0) × (t.held ≡ 0)))))
    → (line store : List ℕ) → 289 ≤ length line → Holds (start store) t line store
begins t e line store wide = record {
  lines = record {
    numbers = record { reads = e.0; accepted = e.1.0; repeated = e.1.1.0; refused = e.1.1.1.0; count = e.1.1.1.1.0 };
    records = refl;
  };
  hand = record { wide = wide; size = omega (arith, e.1.1.1.1.1, wide); part = rw (e.1.1.1.1.1, take-nil) };
}

-- ---- a newline

pub kept_whole : (k : Kept) (a : Result StoreAnswer Refusal) (store : List ℕ) → store_answer a ≡ kept_answer k → store ≡ kept_buffer k → kept (store_answer a) store ≡ k
kept_whole (kept b s) a store says leaves = rw (says, leaves)

after_store : (s : Listed) (k : Kept) → (after_answer s k).store ≡ kept_buffer k
unfolding after_answer
after_store s (kept (accepted n) b) = refl
after_store s (kept (replaced n) b) = refl
after_store s (kept (repeat n) b) = refl
after_store s (kept (refusal q) b) = refl

module _ (c : Card) (weights line : List ℕ) (t t' : Tally) (store store' : List ℕ) (a : Result StoreAnswer Refusal) where
  module _ (promise : StorePromise c weights store t.count (take t.held line) a store') (p : Progress) (h : Holds p t line store) where
    -- the call answers as one that is offered the whole line
    offered : store_read c weights store t.count (take t.held line) ≡ store_read c weights p.listed.store p.listed.count p.line
    offered =
        rw (h.lines.numbers.count, h.lines.records, h.hand.part)
        (long-line c (length line) h.hand.wide p.line weights p.listed.store p.listed.count)

    answered : after_answer p.listed (kept (store_answer a) store') ≡ after_line c weights p.listed p.line
    unfolding after_line
    answered =
        ap (after_answer p.listed)
        (kept_whole _ a store' (promise.says ∙ ap kept_answer offered) (promise.leaves ∙ ap kept_buffer offered))

    lines : Counted a t t' → Stands (after_line c weights p.listed p.line) t' store'
    lines counted =
        let so : Stands (after_answer p.listed (kept (store_answer a) store')) t' store'
        = record {
          numbers = counted.numbers p.listed store' h.lines.numbers;
          records = sym (after_store p.listed (kept (store_answer a) store'));
        } in
        rw (answered) at so

  pub line-ended : StorePromise c weights store t.count (take t.held line) a store' → Counted a t t'
      → Goes (after_newline c weights) t line store t' line store'
  unfolding after_newline
  line-ended promise counted = record {
    within = omega (arith, counted.empty);
    holds = λ p h. record {
      lines = lines promise p h counted;
      hand = record { wide = h.hand.wide; size = omega (arith, counted.empty); part = rw (counted.empty, take-nil) };
    };
  }

-- ---- another byte

module _ (whole line : List ℕ) (n b : ℕ) (h : InHand whole line n) where
  pub byte-kept : n < length line → InHand (whole ++ (b ∷ [])) (set line n b) (n + 1)
  byte-kept room =
      let here : n ≡ length whole = omega (arith, h.size) in
      let all : take (length line) whole ≡ whole = take_all (length line) whole (omega arith) in
      record {
        wide = rw length-set h.wide;
        size = rw (length-set, length-append) (omega arith);
        part = rw (add-one, take-suc-set, h.part, all, length-set, take_all (length line) (whole ++ (b ∷ [])) (rw length-append (omega arith)));
      }

  pub byte-dropped : length line ≤ n → InHand (whole ++ (b ∷ [])) line n
  byte-dropped full =
      let long : length line ≤ length whole = omega (arith, h.size) in
      record {
        wide = h.wide;
        size = rw length-append (omega (arith, h.size));
        part = h.part ∙ sym (take-append-le (length line) whole (b ∷ []) long);
      }

-- ---- one call after another

module _ (c : Card) (weights : List ℕ) (t : Tally) (line store : List ℕ) (t₁ : Tally) (line₁ store₁ : List ℕ) (t₂ : Tally) (line₂ store₂ : List ℕ) where
  pub goes_on : (xs ys : List ℕ) → Goes (λ p. after_bytes c weights p xs) t line store t₁ line₁ store₁
      → Goes (λ p. after_bytes c weights p ys) t₁ line₁ store₁ t₂ line₂ store₂ → Goes (λ p. after_bytes c weights p (xs ++ ys)) t line store t₂ line₂ store₂
  goes_on xs ys first second = record {
    within = second.within;
    holds = λ p h. rw (foldl-append (after_byte c weights) p xs ys) (second.holds (after_bytes c weights p xs) (first.holds p h));
  }

-- ---- reads

module _ (c : Card) (weights : List ℕ) (t : Tally) (line store : List ℕ) where
  pub came-read : (t₁ : Tally) (line₁ store₁ chunk : List ℕ) (got : Result ℕ Error) (next : Option Tally) (line₂ store₂ : List ℕ)
      → Came c weights t line store t₁ line₁ store₁ → Read c weights got chunk t₁ line₁ store₁ next line₂ store₂
      → Came c weights t line store (unwrap_or next t₁) line₂ store₂
  came-read t₁ line₁ store₁ chunk got next line₂ store₂ before read = record {
    bytes = before.bytes ++ brought got chunk;
    goes = goes_on c weights t line store t₁ line₁ store₁ (unwrap_or next t₁) line₂ store₂ before.bytes (brought got chunk) before.goes read.goes;
  }

  pub came-whole : (t₁ : Tally) (line₁ store₁ : List ℕ) (t₂ : Tally) (store₂ : List ℕ) → Holds (start store) t line store
      → Came c weights t line store t₁ line₁ store₁ → Closes c weights t₁ line₁ store₁ t₂ store₂ → Lists c weights store t₂ store₂
  came-whole t₁ line₁ store₁ t₂ store₂ first came closes = record {
    input = came.bytes;
    stands = rw (input-listed c weights store came.bytes) at (closes (after_bytes c weights (start store) came.bytes) (came.goes.holds (start store) first));
  }
