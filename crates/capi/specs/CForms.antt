-- The C forms of the card reader, the card cutter, the writer, the seed at a position, the choice between two calls, storing, restoring,
-- dealing and undealing: for each the number returned and the lent answer, by the cases of what the call itself answers, and with it the
-- buffers. A refusal leaves the answer as it was. Assumes nothing.
use Rattle.std.specs.Prelude.{◌≡◌, Bool, false, cond, List, [], ◌∷◌, ℕ, eqb, length, drop, Result, Ok, Err}
use Rattle.droplet.specs.declared.card.Card.{Card}
use Rattle.droplet.specs.declared.refusal.Refusal.{Refusal}
use Rattle.droplet.specs.Refusals.{refusal_number}
use Rattle.droplet.specs.PoolCard.{weight_count}
use Rattle.droplet.specs.Questions.{CardRead}
use Rattle.droplet.specs.CardCutter.{Cut, cut_reply, cut_buffer, cut_card}
use Rattle.interleave.specs.InterleaveCalls.{Reordered, reorder_reply, reorder_target, reorder_file}
use Rattle.strand.specs.declared.writer.Stop.{Stop}
use Rattle.strand.specs.declared.writer.Stop.TheVariants.{Done, Spent}
use Rattle.strand.specs.Writer.{Written, writer_answer, WriterLeaves}
use Rattle.split.specs.SeedPosition.{SeedReply}
use Rattle.basecalls.specs.declared.choice.Caller.{Caller}
use Rattle.basecalls.specs.declared.choice.Caller.TheVariants.{First, Second}
use Rattle.basecalls.specs.TwoCallers.{Choice}
use Rattle.decoder.specs.declared.store.StoreAnswer.{StoreAnswer}
use Rattle.decoder.specs.declared.store.StoreAnswer.TheVariants as reply
use Rattle.decoder.specs.Store.{Stored, store_read, kept_answer, kept_buffer}
use Rattle.decoder.specs.Restorer.{Restored, restore, restore_refusal, end_answer, end_state}

-- the number returned, and the lent answer after it
pub data Returned : Type 0 where
  returned : ℕ → List ℕ → Returned

-- what a form returns for an answer of numbers
abbrev pub numbers_returned : List ℕ → Result (List ℕ) Refusal → Returned
numbers_returned answer (Ok numbers) = returned 0 numbers
numbers_returned answer (Err q) = returned (refusal_number q) answer

-- whether the card has the fourth field: 0 or 1
abbrev pub flag_number : Bool → ℕ
flag_number there = cond there 1 0

-- the card reader: F, L, R, m, lo, hi, D, whether the fourth field is there, and W
unfoldable pub card_returned : List ℕ → CardRead → Returned
card_returned answer (CardRead.accepted c d) =
    returned 0 (c.f ∷ (c.l ∷ (c.r ∷ (c.m ∷ (c.lo ∷ (c.hi ∷ (d ∷ (flag_number c.interleaved ∷ (c.width ∷ [])))))))))
card_returned answer (CardRead.refused n) = returned n answer

-- the card cutter: the card's length
unfoldable pub cut_returned : List ℕ → Cut → Returned
cut_returned answer (Cut.cut size) = returned 0 (size ∷ [])
cut_returned answer (Cut.refused n) = returned n answer

-- the card cutter's C form: number and answer, and the buffer at exit
pub record CutForm (c : Card) (weights buffer answer : List ℕ) (n : ℕ) (buffer' answer' : List ℕ) : Type 0 where
  pub returns : returned n answer' ≡ cut_returned answer (cut_reply (cut_card c weights buffer))
  pub leaves : buffer' ≡ cut_buffer (cut_card c weights buffer)

-- how the writer stopped: 0 as done, 1 as spent
abbrev pub stop_number : Stop → ℕ
stop_number Done = 0
stop_number Spent = 1

-- the writer: the stop, made, tried, the next seed, strands dropped for a run and for GC alone
unfoldable pub write_returned : List ℕ → Written → Returned
write_returned answer (Written.written stop made tried next dropped_run dropped_gc) =
    returned 0 (stop_number stop ∷ (made ∷ (tried ∷ (next ∷ (dropped_run ∷ (dropped_gc ∷ []))))))
write_returned answer (Written.refusal n) = returned n answer

-- the writer's C form: number and answer, and buffer and number list at exit
pub record WriteForm (c : Card) (weights file : List ℕ) (start wanted budget : ℕ) (out list answer : List ℕ) (n : ℕ)
    (out' list' answer' : List ℕ) : Type 0 where
  pub returns : returned n answer' ≡ write_returned answer (writer_answer c weights file start wanted budget (length out) (length list))
  pub leaves : WriterLeaves c weights file start wanted budget out list out' list'

-- the seed at a position of the schedule
unfoldable pub seed_returned : List ℕ → SeedReply → Returned
seed_returned answer (SeedReply.seed s) = returned 0 (s ∷ [])
seed_returned answer (SeedReply.refused n) = returned n answer

-- the call that is chosen: 0 for the first, 1 for the second
abbrev pub caller_number : Caller → ℕ
caller_number First = 0
caller_number Second = 1

-- the choice between two calls: 0 for the first, 1 for the second
unfoldable pub choice_returned : List ℕ → Choice → Returned
choice_returned answer Choice.first = returned 0 (0 ∷ [])
choice_returned answer Choice.second = returned 0 (1 ∷ [])
choice_returned answer (Choice.refused n) = returned n answer

-- what became of a read: 0 for accepted, 1 for a repeat, 2 for replaced, and the count after it
abbrev pub store_numbers : StoreAnswer → List ℕ
store_numbers (reply.Accepted count) = 0 ∷ (count ∷ [])
store_numbers (reply.Repeat count) = 1 ∷ (count ∷ [])
store_numbers (reply.Replaced count) = 2 ∷ (count ∷ [])

-- storing: 0 for accepted, 1 for a repeat, 2 for replaced, and the count after it
unfoldable pub store_returned : List ℕ → Stored → Returned
store_returned answer (Stored.accepted count) = returned 0 (0 ∷ (count ∷ []))
store_returned answer (Stored.repeat count) = returned 0 (1 ∷ (count ∷ []))
store_returned answer (Stored.replaced count) = returned 0 (2 ∷ (count ∷ []))
store_returned answer (Stored.refusal n) = returned n answer

-- storing's C form: number and answer, and the store at exit
pub record StoreForm (c : Card) (weights buffer : List ℕ) (count : ℕ) (read answer : List ℕ) (n : ℕ) (buffer' answer' : List ℕ) : Type 0 where
  pub returns : returned n answer' ≡ store_returned answer (kept_answer (store_read c weights buffer count read))
  pub leaves : buffer' ≡ kept_buffer (store_read c weights buffer count read)

-- restoring: present, sweeps and contradictions
unfoldable pub restore_returned : List ℕ → Restored → Returned
restore_returned answer (Restored.restored present sweeps contradictions) = returned 0 (present ∷ (sweeps ∷ (contradictions ∷ [])))
restore_returned answer (Restored.refusal n) = returned n answer

-- restoring's C form: number and answer, file and marks at exit, and the number list, free in its first D places alone
pub record RestoreForm (c : Card) (weights buffer : List ℕ) (count : ℕ) (file marks list answer : List ℕ) (n : ℕ)
    (file' marks' list' answer' : List ℕ) : Type 0 where
  pub returns : returned n answer' ≡ restore_returned answer (end_answer (restore c weights buffer count file marks (length list)))
  pub fills : file' ≡ (end_state (restore c weights buffer count file marks (length list))).file
  pub sets : marks' ≡ (end_state (restore c weights buffer count file marks (length list))).marks
  pub keeps : drop (weight_count weights) list' ≡ drop (weight_count weights) list
  pub untouched : eqb (restore_refusal c weights buffer count (length file) (length marks) (length list)) 0 ≡ false → list' ≡ list

-- dealing and undealing: no number but the refusal's
abbrev pub reorder_returned : Reordered → ℕ
reorder_returned Reordered.done = 0
reorder_returned (Reordered.refused n) = n

-- their C form: the number, and the target at exit
pub record ReorderForm (back : Bool) (c : Card) (weights source target : List ℕ) (n : ℕ) (target' : List ℕ) : Type 0 where
  pub returns : n ≡ reorder_returned (reorder_reply (reorder_file back c weights source target))
  pub leaves : target' ≡ reorder_target (reorder_file back c weights source target)
