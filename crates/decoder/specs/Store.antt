-- Document 01, "Shelf", here a store: a buffer and a count of records from its start, and the store call with its questions 14 to 16 and 20,
-- as document 02's Items 5 ("Clean beats mended") and 6 ("Read counts on the lane sheet") leave them. Assumes nothing.
use Rattle.std.specs.Prelude.{◌≡◌, Bool, cond, not, ◌&&◌, List, [], ◌∷◌, ◌++◌, ℕ, zero, suc, ◌+◌, ◌*◌, eqb, leb, length, get_or, take, drop, Result, Ok, Err}
use Rattle.field.specs.Bytes.{from_big_endian, to_big_endian, same_bytes}
use Rattle.droplet.specs.declared.card.Card.{Card}
use Rattle.droplet.specs.Questions.{card_refusal}
use Rattle.strand.specs.ReadCheck.{Reading, droplet, refused, read_check}
use Rattle.droplet.specs.declared.refusal.Refusal.{Refusal}
use Rattle.droplet.specs.Refusals.{refusal_number}
use Rattle.decoder.specs.declared.store.StoreAnswer.{StoreAnswer}
use Rattle.decoder.specs.declared.store.StoreAnswer.TheVariants as answer

-- a legal read: seed and payload of the strand that it is taken for, and whether it was clean or corrected (mended)
pub record LegalRead : Type 0 where
  pub seed : ℕ
  pub payload : List ℕ
  pub clean : Bool

-- "a record is seed and payload", it "gains a state byte after its payload", and "a four-byte count .. after its state": what it holds of a
-- read, and how many reads are behind it
pub record Record : Type 0 where
  pub read : LegalRead
  pub count : ℕ

-- "0 clean, 1 mended; any other byte reads as mended"
abbrev pub state_byte : Bool → ℕ
state_byte clean = cond clean 0 1

abbrev pub reads_clean : ℕ → Bool
reads_clean state = eqb state 0

-- "Records are 9 + L bytes"
unfoldable pub record_bytes : ℕ → ℕ
record_bytes L = 9 + L

-- payload and state; and with the seed before them and the count, "most significant byte first", behind them all bytes of a record
unfoldable pub evidence_text : List ℕ → Bool → List ℕ
evidence_text payload clean = payload ++ (state_byte clean ∷ [])

unfoldable pub record_text : Record → List ℕ
record_text r = to_big_endian r.read.seed ++ (evidence_text r.read.payload r.read.clean ++ to_big_endian r.count)

-- where payload and state, and where the count of a record start that itself starts at a place
abbrev pub evidence_place : ℕ → ℕ
evidence_place at = at + 4

abbrev pub count_place : ℕ → ℕ → ℕ
count_place L at = at + (5 + L)

-- the parts of a record's bytes, wherever it ends
abbrev pub record_seed : List ℕ → ℕ
record_seed bytes = from_big_endian (take 4 bytes)

unfoldable pub record_payload : ℕ → List ℕ → List ℕ
record_payload L bytes = take L (drop 4 bytes)

unfoldable pub record_state : ℕ → List ℕ → ℕ
record_state L bytes = get_or bytes (4 + L) 0

unfoldable pub record_count : ℕ → List ℕ → ℕ
record_count L bytes = from_big_endian (take 4 (drop (5 + L) bytes))

unfoldable pub record_from : ℕ → List ℕ → Record
record_from L bytes = record {
  read = record { seed = record_seed bytes; payload = record_payload L bytes; clean = reads_clean (record_state L bytes) };
  count = record_count L bytes;
}

-- the bytes of records one after the other, and the first n records of a buffer
unfoldable pub records_text : List Record → List ℕ
records_text [] = []
records_text (r ∷ rs) = record_text r ++ records_text rs

unfoldable pub records : ℕ → ℕ → List ℕ → List Record
records L zero buffer = []
records L (suc n) buffer = record_from L buffer ∷ records L n (drop (record_bytes L) buffer)

-- "the first record of its seed", if there is one, with its place among the records
pub data Found : Type 0 where
  found : ℕ → Record → Found
  absent : Found

abbrev pub later : Found → Found
later (found i r) = found (suc i) r
later absent = absent

unfoldable pub find_seed : ℕ → List Record → Found
find_seed s [] = absent
find_seed s (r ∷ rs) = cond (eqb r.read.seed s) (found 0 r) (later (find_seed s rs))

-- what a store call answers, by its cases: the count after it, or the refusal number
pub data Stored : Type 0 where
  accepted : ℕ → Stored
  repeat : ℕ → Stored
  replaced : ℕ → Stored
  refusal : ℕ → Stored

abbrev pub store_answer : Result StoreAnswer Refusal → Stored
store_answer (Ok (answer.Accepted n)) = accepted n
store_answer (Ok (answer.Repeat n)) = repeat n
store_answer (Ok (answer.Replaced n)) = replaced n
store_answer (Err q) = refusal (refusal_number q)

-- the answer with the buffer after the call
pub data Kept : Type 0 where
  kept : Stored → List ℕ → Kept

abbrev pub kept_answer : Kept → Stored
kept_answer (kept a b) = a

abbrev pub kept_buffer : Kept → List ℕ
kept_buffer (kept a b) = b

-- a buffer with other bytes from a place on
unfoldable pub overwritten : ℕ → List ℕ → List ℕ → List ℕ
overwritten at new buffer = take at buffer ++ (new ++ drop (at + length new) buffer)

-- "None there: the record is appended (accepted)", its count "1 when accepted"; 16: "If the seed is new, space for a record?"
unfoldable pub appended : ℕ → List ℕ → ℕ → LegalRead → Kept
appended L buffer count r =
    cond (leb (suc count * record_bytes L) (length buffer))
    (kept (accepted (suc count)) (overwritten (count * record_bytes L) (record_text (record { read = r; count = 1 })) buffer))
    (kept (refusal 16) buffer)

-- "A clean read whose seed stands there as mended": whether the read is clean, and whether the record of its seed is; of a read r and what
-- the record of its seed holds, q
abbrev pub takes_over : Bool → Bool → Bool
takes_over read standing = read && not standing

abbrev pub better : LegalRead → LegalRead → Bool
better r q = takes_over r.clean q.clean

-- such a read "takes over payload and state, even where the payloads differ": the buffer with those of r in record i
abbrev pub took_over : ℕ → ℕ → LegalRead → List ℕ → List ℕ
took_over L i r buffer = overwritten (evidence_place (i * record_bytes L)) (evidence_text r.payload r.clean) buffer

-- the most that four bytes count
abbrev pub full_count : ℕ
full_count = 4294967295

-- "one more at each repeat or replacement": the buffer with the count of record i, which is q, raised by one
unfoldable pub counted_again : ℕ → ℕ → Record → List ℕ → List ℕ
counted_again L i q buffer = overwritten (count_place L (i * record_bytes L)) (to_big_endian (suc q.count)) buffer

-- 20: "A repeat or replacement on a record whose count is 4,294,967,295 is refused"
unfoldable pub unless_full : Record → List ℕ → Kept → Kept
unless_full q buffer k = cond (eqb q.count full_count) (kept (refusal 20) buffer) k

-- "the answer is replaced"; "Every other read with the same payload is a repeat, and every other one with a different payload is refused
-- under 15"; 20 comes "after question 15"
unfoldable pub compared : ℕ → List ℕ → ℕ → LegalRead → Found → Kept
compared L buffer count r absent = appended L buffer count r
compared L buffer count r (found i q) =
    cond (better r q.read) (unless_full q buffer (kept (replaced count) (took_over L i r (counted_again L i q buffer))))
    (cond (same_bytes q.read.payload r.payload) (unless_full q buffer (kept (repeat count) (counted_again L i q buffer))) (kept (refusal 15) buffer))

-- a legal read, beside the records in the store
unfoldable pub store_record : ℕ → List ℕ → ℕ → LegalRead → Kept
store_record L buffer count r = compared L buffer count r (find_seed r.seed (records L count buffer))

-- a droplet that the read check hands out with the number of bytes corrected: clean if there are none
abbrev pub droplet_read : ℕ → List ℕ → ℕ → LegalRead
droplet_read s p k = record { seed = s; payload = p; clean = eqb k 0 }

-- "The caller takes the droplet out of the read check's answer, or hands its refusal on"
unfoldable pub store_reading : ℕ → List ℕ → ℕ → Reading → Kept
store_reading L buffer count (refused q) = kept (refusal q) buffer
store_reading L buffer count (droplet s p k) = store_record L buffer count (droplet_read s p k)

-- 14: count times (9 + L) "within the shelf?"
abbrev pub count_fits : ℕ → List ℕ → ℕ → Bool
count_fits L buffer count = leb (count * record_bytes L) (length buffer)

-- the store call: 2 to 4, 27, 14, 9 to 13, 15, 20, 16
unfoldable pub store_read : Card → List ℕ → List ℕ → ℕ → List ℕ → Kept
store_read c weights buffer count read =
    cond (eqb (card_refusal c weights) 0)
    (cond (count_fits c.l buffer count) (store_reading c.l buffer count (read_check c weights read)) (kept (refusal 14) buffer))
    (kept (refusal (card_refusal c weights)) buffer)

-- the promise of the store call: its answer and the buffer at exit
pub record StorePromise (c : Card) (weights buffer : List ℕ) (count : ℕ) (read : List ℕ) (r : Result StoreAnswer Refusal) (buffer' : List ℕ) : Type 0 where
  pub says : store_answer r ≡ kept_answer (store_read c weights buffer count read)
  pub leaves : buffer' ≡ kept_buffer (store_read c weights buffer count read)
