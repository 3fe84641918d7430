-- Demand 3, its opening sentence as document 02's Item 5 restates it, with the counts of Item 6, as one claim about every list of store
-- calls and every restore under one accepted card. Assumes nothing.
use Rattle.std.specs.Prelude.{◌≡◌, ◌↔◌, Bool, true, false, cond, not, ◌&&◌, List, [], ◌∷◌, ◌++◌, map, ℕ, suc, ◌+◌, ◌*◌, ◌/◌, ◌<◌, ◌≤◌, eqb, length, take, drop, Result, Ok, Err}
use Rattle.field.specs.Bytes.{All, AllBytes}
use Rattle.droplet.specs.declared.card.Card.{Card}
use Rattle.droplet.specs.PoolCard.{segment_count, card_weights}
use Rattle.droplet.specs.Questions.{CardRead, card_reading}
use Rattle.droplet.specs.Droplet.{member, segment, payload, segments_of, Distinct}
use Rattle.strand.specs.ReadCheck.{Reading, droplet, refused, read_check}
use Rattle.droplet.specs.declared.refusal.Refusal.{Refusal}
use Rattle.droplet.specs.declared.refusal.Refusal.TheVariants.{FullCount}
use Rattle.decoder.specs.declared.store.StoreAnswer.{StoreAnswer}
use Rattle.decoder.specs.declared.store.StoreAnswer.TheVariants as reply
use Rattle.decoder.specs.declared.restorer.Sheet.{Sheet}
use Rattle.decoder.specs.Store.{LegalRead, Record, record_bytes, records_text, records, Stored, accepted, repeat, replaced, refusal, store_answer, full_count, droplet_read, StorePromise}
use Rattle.decoder.specs.Restorer.{Droplet, droplets, marked, present, RestorePromise}

-- ---- the store

-- the seeds of reads, and the reads that records hold
abbrev pub seeds_of : List LegalRead → List ℕ
seeds_of rs = map (λ r. r.seed) rs

abbrev pub reads_in : List Record → List LegalRead
reads_in rs = map (λ r. r.read) rs

-- "keep the legal ones", in the order offered: those that the read check accepts, corrected ones among them
abbrev pub kept_reading : Reading → List LegalRead → List LegalRead
kept_reading (droplet s p k) rest = droplet_read s p k ∷ rest
kept_reading (refused n) rest = rest

unfoldable pub legal_reads : Card → List ℕ → List (List ℕ) → List LegalRead
legal_reads c weights [] = []
legal_reads c weights (r ∷ rs) = kept_reading (read_check c weights r) (legal_reads c weights rs)

-- "the seeds still stand in the order of their first legal reads", where `seen` went before
unfoldable pub first_seeds : List ℕ → List LegalRead → List ℕ
first_seeds seen [] = []
first_seeds seen (r ∷ rs) = cond (member r.seed seen) (first_seeds seen rs) (r.seed ∷ first_seeds (seen ++ (r.seed ∷ [])) rs)

-- "and of these only the first ones, as many as whole records fit the buffer"
unfoldable pub stored_seeds : Card → List ℕ → List ℕ → List (List ℕ) → List ℕ
stored_seeds c weights lent reads = take (length lent / record_bytes c.l) (first_seeds [] (legal_reads c weights reads))

-- the clean ones of some reads of a seed, and the corrected (mended) ones, in the order offered
abbrev pub clean_of : ℕ → LegalRead → Bool
clean_of s r = eqb r.seed s && r.clean

abbrev pub corrected_of : ℕ → LegalRead → Bool
corrected_of s r = eqb r.seed s && not r.clean

unfoldable pub those : (LegalRead → Bool) → List LegalRead → List LegalRead
those test [] = []
those test (r ∷ rs) = cond (test r) (r ∷ those test rs) (those test rs)

-- of some reads a seed's "first clean read .., or its first mended one if there is none": one, or none where no read has the seed
unfoldable pub best_of : ℕ → List LegalRead → List LegalRead
best_of s reads = take 1 (those (clean_of s) reads ++ those (corrected_of s) reads)

-- the same of each of these seeds, in this order
unfoldable pub best_of_each : List ℕ → List LegalRead → List LegalRead
best_of_each [] reads = []
best_of_each (s ∷ ss) reads = best_of s reads ++ best_of_each ss reads

-- how many of some reads have a seed
unfoldable pub count_of : ℕ → List LegalRead → ℕ
count_of s reads = length (those (λ r. eqb r.seed s) reads)

-- "The count is their number, the records have their seeds and payloads in that order, and the bytes past the records are
-- as they were lent"; read back they are these records, each with its state and its count
pub record Holds (L : ℕ) (lent : List ℕ) (rs : List Record) (buffer : List ℕ) (count : ℕ) : Type 0 where
  pub number : count ≡ length rs
  pub bytes : buffer ≡ records_text rs ++ drop (length rs * record_bytes L) lent
  pub read_back : records L count buffer ≡ rs

-- one store call: the read offered, the answer, and the buffer after it
pub record Call : Type 0 where
  pub read : List ℕ
  pub answer : Result StoreAnswer Refusal
  pub buffer : List ℕ

abbrev pub reads_of : List Call → List (List ℕ)
reads_of [] = []
reads_of (k ∷ ks) = k.read ∷ reads_of ks

-- "Every answer but a refusal carries the count after it, which the next call is handed; after a refusal the next call is
-- handed the count from before"
abbrev pub next_count : ℕ → Result StoreAnswer Refusal → ℕ
next_count count (Ok (reply.Accepted n)) = n
next_count count (Ok (reply.Repeat n)) = n
next_count count (Ok (reply.Replaced n)) = n
next_count count (Err q) = count

-- "Each call is handed shelf and count as the one before left them", and keeps the promise of the store call
unfoldable pub Chained : Card → List ℕ → List ℕ → ℕ → List Call → Type 0
Chained c weights buffer count [] = Unit {0}
Chained c weights buffer count (k ∷ ks) =
    StorePromise c weights buffer count k.read k.answer k.buffer
    × Chained c weights k.buffer (next_count count k.answer) ks

abbrev pub last_buffer : List ℕ → List Call → List ℕ
last_buffer buffer [] = buffer
last_buffer buffer (k ∷ ks) = last_buffer k.buffer ks

abbrev pub last_count : ℕ → List Call → ℕ
last_count count [] = count
last_count count (k ∷ ks) = last_count (next_count count k.answer) ks

-- a call "answered without a refusal", and one that is not refused under 20
abbrev pub answered : Stored → Bool
answered (accepted n) = true
answered (repeat n) = true
answered (replaced n) = true
answered (refusal q) = false

abbrev pub not20 : Stored → Bool
not20 (accepted n) = true
not20 (repeat n) = true
not20 (replaced n) = true
not20 (refusal q) = not (eqb q 20)

-- the legal reads of the calls whose answers pass a test, in the order offered; and how many calls these are
unfoldable pub reads_with : (Stored → Bool) → Card → List ℕ → List Call → List LegalRead
reads_with test c weights [] = []
reads_with test c weights (k ∷ ks) =
    cond (test (store_answer k.answer)) (kept_reading (read_check c weights k.read) (reads_with test c weights ks)) (reads_with test c weights ks)

unfoldable pub calls_with : (Stored → Bool) → List Call → ℕ
calls_with test [] = 0
calls_with test (k ∷ ks) = cond (test (store_answer k.answer)) (suc (calls_with test ks)) (calls_with test ks)

-- those that were "not refused"
abbrev pub taken_reads : Card → List ℕ → List Call → List LegalRead
taken_reads c weights calls = reads_with answered c weights calls

-- a record of one of the reads that were not refused: its count is the number of those with its seed
abbrev pub counted_record : List LegalRead → LegalRead → Record
counted_record taken r = record { read = r; count = count_of r.seed taken }

-- "For each seed that found space, the record at the end of the list is now its first clean read that was not refused, or its first mended
-- one if there is none"
unfoldable pub stored_records : Card → List ℕ → List ℕ → List Call → List Record
stored_records c weights lent calls =
    let taken = taken_reads c weights calls in map (counted_record taken) (best_of_each (stored_seeds c weights lent (reads_of calls)) taken)

-- these records have those seeds, in that order; and no refusal matters to what they hold: of all legal reads of its seed, refused ones among
-- them, a record holds the first clean one, or the first mended one if there is none
pub record Best (seeds : List ℕ) (legal : List LegalRead) (rs : List Record) : Type 0 where
  pub order : seeds_of (reads_in rs) ≡ seeds
  pub legal_too : reads_in rs ≡ best_of_each seeds legal

-- "the total over all records"
unfoldable pub total_count : List Record → ℕ
total_count [] = 0
total_count (r ∷ rs) = r.count + total_count rs

-- ---- the restore

-- how many segments of a list lie in a set of segments
unfoldable pub hits : (ℕ → Bool) → List ℕ → ℕ
hits S [] = 0
hits S (s ∷ ss) = cond (S s) (suc (hits S ss)) (hits S ss)

-- "no droplet on the shelf has exactly one segment in that set"
unfoldable pub Stalls : (ℕ → Bool) → List Droplet → Type 0
Stalls S ds = All (λ d. hits S d.segments ≡ 1 → ⊥) ds

-- "any K whole segments are a file there"
pub record IsFile (K L : ℕ) (g : List ℕ) : Type 0 where
  pub size : length g ≡ K * L
  pub bytes : AllBytes g

-- "A file gives a droplet if the XOR of the file's segments in that set is the payload"
unfoldable pub GivesAll : ℕ → List ℕ → List Droplet → Type 0
GivesAll L g ds = All (λ d. payload L g d.segments ≡ d.payload) ds

-- what a restore that answers p present, s sweeps and x contradictions leaves
pub record Sound (K L : ℕ) (ds : List Droplet) (p s x : ℕ) (file' marks' : List ℕ) : Type 0 where
  -- "leaves a segment missing exactly when some set of segments holds it and no droplet has exactly one segment in that set"
  pub missing_when : (i : ℕ) → i < K → (marked marks' i ≡ false) ↔ ((S : ℕ → Bool) × (S i ≡ true) × Stalls S ds)
  -- "Every segment it leaves present equals that segment in every file that gives all these droplets"
  pub present_right : (g : List ℕ) → IsFile K L g → GivesAll L g ds
      → (i : ℕ) → i < K → marked marks' i ≡ true → segment L file' i ≡ segment L g i
  -- "The sweeps it answers are at most the segments it answers as present, plus one"
  pub few_passes : s ≤ p + 1
  -- "present (marks set)"
  pub counted : p ≡ present K marks'
  -- "With all K present, contradictions are 0 exactly when some list of K segments gives every record"
  pub whole : p ≡ K → (x ≡ 0) ↔ ((g : List ℕ) × IsFile K L g × GivesAll L g ds)

-- ---- the claim

pub record Claim (c : Card) (weights : List ℕ) : Type 0 where
  -- every list of store calls from an empty store, a buffer of any length and bytes
  pub store : (lent : List ℕ) (calls : List Call) → Chained c weights lent 0 calls
      → Holds c.l lent (stored_records c weights lent calls) (last_buffer lent calls) (last_count 0 calls)
  -- of the legal reads that were not refused under 20
  pub best : (lent : List ℕ) (calls : List Call) → Chained c weights lent 0 calls
      → Best (stored_seeds c weights lent (reads_of calls)) (reads_with not20 c weights calls) (stored_records c weights lent calls)
  -- "for every list of reads from an empty shelf that total equals the reads answered without a refusal"
  pub total : (lent : List ℕ) (calls : List Call) → Chained c weights lent 0 calls
      → total_count (stored_records c weights lent calls) ≡ calls_with answered calls
  -- with no more calls than a count can count none is refused under 20, so that those are all legal reads
  pub never_20 : (lent : List ℕ) (calls : List Call) → Chained c weights lent 0 calls → length calls ≤ full_count
      → All (λ k. k.answer ≡ Err FullCount → ⊥) calls × (reads_with not20 c weights calls ≡ legal_reads c weights (reads_of calls))
  -- such a list of calls exists for every list of reads, whatever bytes each offers
  pub calls : (lent : List ℕ) (reads : List (List ℕ)) → (calls : List Call) × Chained c weights lent 0 calls × (reads_of calls ≡ reads)
  -- the sets that seeds pick hold each segment once, and only segments of the pool
  pub sets : (seed : ℕ) → All (λ s. s < segment_count c) (segments_of weights (segment_count c) seed)
      × Distinct (segments_of weights (segment_count c) seed)
  -- every restore that is not refused, over this store or any other
  pub back : (buffer : List ℕ) (count : ℕ) (file marks list : List ℕ) (r : Sheet) (file' marks' list' : List ℕ) → AllBytes buffer
      → RestorePromise c weights buffer count file marks list (Ok r) file' marks' list'
      → Sound (segment_count c) c.l (droplets c weights buffer count) r.present r.passes r.contradictions file' marks'

-- "under one accepted card": one that the card reader does not refuse, its numbers and weights handed to every call
abbrev pub Demand3 : Type 0
Demand3 = (card : List ℕ) (c : Card) (D : ℕ) → card_reading card ≡ CardRead.accepted c D → Claim c (card_weights card)
