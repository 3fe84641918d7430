-- Document 01, end of "Bench examples": what the listing program counts; and the third line of document 02's Item 6. Assumes nothing.
use Rattle.std.specs.Prelude.{◌≡◌, ℕ, suc, ◌+◌, cond, List, [], ◌∷◌, ◌++◌, ◌==◌}
use mathlib.Core.List.{foldl}
use Rattle.droplet.specs.declared.card.Card.{Card}
use Rattle.droplet.specs.Questions.{card_refusal}
use Rattle.decoder.specs.Store.{records, Kept, kept, accepted, replaced, repeat, refusal, store_read}
use Rattle.decoder.specs.Demand3.{total_count}

-- "reads from standard input, one a line": the lines of some bytes, of which `line` is the one in hand. A newline, byte 10, ends
-- a line, and may end an empty one: "an empty line is a read of length 0"
unfoldable pub last_line : List ℕ → List (List ℕ)
last_line [] = []
last_line (b ∷ bs) = (b ∷ bs) ∷ []

unfoldable pub lines_from : List ℕ → List ℕ → List (List ℕ)
lines_from line [] = last_line line
lines_from line (b ∷ bs) = cond (b == 10) (line ∷ lines_from [] bs) (lines_from (line ++ (b ∷ [])) bs)

-- "a last line without newline counts"; after a final newline there is none
abbrev pub lines_of : List ℕ → List (List ℕ)
lines_of input = lines_from [] input

-- "lines read and how they were answered", with the store and the count that the next call is handed
pub record Listed : Type 0 where
  pub reads : ℕ
  pub accepted : ℕ
  pub repeated : ℕ
  pub refused : ℕ
  pub count : ℕ
  pub store : List ℕ

-- before the first line
abbrev pub none_listed : List ℕ → Listed
none_listed store = record { reads = 0; accepted = 0; repeated = 0; refused = 0; count = 0; store = store }

-- a line of a seed that the store has: a repeat, and "the answer is "replaced", listed as repeated" (document 02, Item 5)
abbrev pub listed_again : Listed → ℕ → List ℕ → Listed
listed_again s n store =
    record { reads = suc s.reads; accepted = s.accepted; repeated = suc s.repeated; refused = s.refused; count = n; store = store }

-- "Every answer but a refusal carries the count after it, which the next call is handed; after a refusal the next call is handed
-- the count from before"
unfoldable pub after_answer : Listed → Kept → Listed
after_answer s (kept (accepted n) store) =
    record { reads = suc s.reads; accepted = suc s.accepted; repeated = s.repeated; refused = s.refused; count = n; store = store }
after_answer s (kept (replaced n) store) = listed_again s n store
after_answer s (kept (repeat n) store) = listed_again s n store
after_answer s (kept (refusal q) store) =
    record { reads = suc s.reads; accepted = s.accepted; repeated = s.repeated; refused = suc s.refused; count = s.count; store = store }

-- each line is offered to the store
unfoldable pub after_line : Card → List ℕ → Listed → List ℕ → Listed
after_line c weights s line = after_answer s (store_read c weights s.store s.count line)

-- what the whole input comes to
unfoldable pub listing : Card → List ℕ → List ℕ → List ℕ → Listed
listing c weights store input = foldl (after_line c weights) (none_listed store) (lines_of input)

-- "behind", a blank and "the total over all records"
unfoldable pub behind : Card → Listed → ℕ
behind c s = total_count (records c.l s.count s.store)

-- "for every list of reads from an empty shelf that total equals the reads answered without a refusal": those listed as accepted or repeated
abbrev pub BehindAll : Type 0
BehindAll =
    (c : Card) (weights : List ℕ) → card_refusal c weights ≡ 0 → (store input : List ℕ)
    → behind c (listing c weights store input) ≡ (listing c weights store input).accepted + (listing c weights store input).repeated
