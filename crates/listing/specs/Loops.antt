-- What the contracts of the program's own functions cite: the input by its bytes, and how the code holds what they came to. No
-- sentence of document 01 stands here. Assumes nothing.
use Rattle.std.specs.Prelude.{◌≡◌, ℕ, ◌%◌, ◌^◌, ◌≤◌, min, Bool, IsTrue, ◌↔◌, cond, List, [], ◌∷◌, ◌++◌, length, take, ◌==◌, nat_lt, Option, is_some, unwrap_or, Result, Ok, Err}
use mathlib.Core.List.{foldl}
use Rattle.std.specs.IoError.{error_kind}
use Rattle.std.specs.declared.io.Error.{Error}
use Rattle.std.specs.declared.io.ErrorKind.TheVariants.{Interrupted}
use Rattle.droplet.specs.declared.card.Card.{Card}
use Rattle.droplet.specs.declared.refusal.Refusal.{Refusal}
use Rattle.decoder.specs.declared.store.StoreAnswer.{StoreAnswer}
use Rattle.decoder.specs.Store.{kept, store_answer}
use Rattle.listing.specs.declared.tally.Tally.{Tally}
use Rattle.listing.specs.Listing.{Listed, none_listed, after_answer, after_line, last_line, listing}

-- what the lines so far came to, and the line in hand, whole
pub record Progress : Type 0 where
  pub listed : Listed
  pub line : List ℕ

abbrev pub start : List ℕ → Progress
start store = record { listed = none_listed store; line = [] }

-- a newline ends the line in hand; any other byte is its next one
unfoldable pub after_newline : Card → List ℕ → Progress → Progress
after_newline c weights p = record { listed = after_line c weights p.listed p.line; line = [] }

unfoldable pub after_byte : Card → List ℕ → Progress → ℕ → Progress
after_byte c weights p b = cond (b == 10) (after_newline c weights p) (record { listed = p.listed; line = p.line ++ (b ∷ []) })

abbrev pub after_bytes : Card → List ℕ → Progress → List ℕ → Progress
after_bytes c weights p bytes = foldl (after_byte c weights) p bytes

-- at the end of the input the line in hand is the last one, unless it is empty
unfoldable pub after_end : Card → List ℕ → Progress → Listed
after_end c weights p = foldl (after_line c weights) p.listed (last_line p.line)

-- the first n bytes of the buffer `line` are as much of the whole line in hand as the buffer has room for. The buffer is longer
-- than any strand
pub record InHand (whole line : List ℕ) (n : ℕ) : Type 0 where
  pub wide : 289 ≤ length line
  pub size : n ≡ min (length whole) (length line)
  pub part : take n line ≡ take (length line) whole

-- the code counts modulo 2^64
pub record Numbers (s : Listed) (t : Tally) : Type 0 where
  pub reads : t.reads ≡ s.reads % 2 ^ 64
  pub accepted : t.accepted ≡ s.accepted % 2 ^ 64
  pub repeated : t.repeated ≡ s.repeated % 2 ^ 64
  pub refused : t.refused ≡ s.refused % 2 ^ 64
  pub count : t.count ≡ s.count

-- the tally and the store's buffer are what some lines came to
pub record Stands (s : Listed) (t : Tally) (store : List ℕ) : Type 0 where
  pub numbers : Numbers s t
  pub records : store ≡ s.store

-- and the line's buffer holds the line in hand
pub record Holds (p : Progress) (t : Tally) (line store : List ℕ) : Type 0 where
  pub lines : Stands p.listed t store
  pub hand : InHand p.line line t.held

-- a call of the code goes on as `next` says, whatever progress it was handed
pub record Goes (next : Progress → Progress) (t : Tally) (line store : List ℕ) (t' : Tally) (line' store' : List ℕ) : Type 0 where
  pub within : t'.held ≤ length line'
  pub holds : (p : Progress) → Holds p t line store → Holds (next p) t' line' store'

-- an answer is counted, and the next line is empty as yet
pub record Counted (a : Result StoreAnswer Refusal) (t t' : Tally) : Type 0 where
  pub numbers : (s : Listed) (store : List ℕ) → Numbers s t → Numbers (after_answer s (kept (store_answer a) store)) t'
  pub empty : t'.held ≡ 0

-- the end of the input
abbrev pub Closes : Card → List ℕ → Tally → List ℕ → List ℕ → Tally → List ℕ → Type 0
Closes c weights t line store t' store' = (p : Progress) → Holds p t line store → Stands (after_end c weights p) t' store'

-- the bytes that a read brought, by its answer and the chunk that it left: the first of the chunk, as many as it answered. A read
-- that failed answers an error, and brought none
abbrev pub brought : Result ℕ Error → List ℕ → List ℕ
brought (Ok n) chunk = take n chunk
brought (Err e) chunk = []

-- after some bytes there may be more, and after none there are none. After a failure there may be more just where it is that a
-- signal stopped the read
abbrev pub MayFollow : Result ℕ Error → Bool → Type 0
MayFollow (Ok n) more = more ≡ nat_lt 0 n
MayFollow (Err e) more = IsTrue more ↔ (error_kind e ≡ Interrupted)

-- one read, by its answer and the chunk that it left: whether there may be more, and the bytes that it brought were gone through, all of
-- them, once, and no others; where nothing follows it brought none, and the tally is the one from before
pub record Read (c : Card) (weights : List ℕ) (got : Result ℕ Error) (chunk : List ℕ) (t : Tally) (line store : List ℕ) (next : Option Tally)
    (line' store' : List ℕ) : Type 0 where
  pub follows : MayFollow got (is_some next)
  pub goes : Goes (λ p. after_bytes c weights p (brought got chunk)) t line store (unwrap_or next t) line' store'

-- reads one after the other: some bytes came, the pieces in their order, and were gone through
pub record Came (c : Card) (weights : List ℕ) (t : Tally) (line store : List ℕ) (t' : Tally) (line' store' : List ℕ) : Type 0 where
  pub bytes : List ℕ
  pub goes : Goes (λ p. after_bytes c weights p bytes) t line store t' line' store'

-- the whole input: the program's numbers and its store are those that document 01 gives for the bytes that came
pub record Lists (c : Card) (weights store : List ℕ) (t : Tally) (store' : List ℕ) : Type 0 where
  pub input : List ℕ
  pub stands : Stands (listing c weights store input) t store'
