-- From file to vault and back: what a store and its restore sheet are worth where every clean legal read is a strand that the writer
-- printed for one file, and for each seed in the store either such a read was offered and not refused under 20, whatever its corrected
-- (mended) reads were (document 02, Items 5 and 6), or each of its legal reads differs in at most R/2 bytes from such a strand (Item 3).
-- Reads may be lost, repeated and in any order, and what the read check refuses may be anything.
-- The file is the one that the writer was handed. Where the card has a width, that is the customer's file interleaved (document 02,
-- Item 14: "what the restorer promises is promised of the dealt file"), and the last step gives the customer's. Assumes nothing.
use Rattle.std.specs.Prelude.{◌≡◌, true, List, [], ◌++◌, ◌⊎◌, ℕ, ◌*◌, ◌<◌, ◌≤◌, length, take, Result, Ok, Err}
use Rattle.field.specs.Bytes.{All, AllBytes}
use Rattle.droplet.specs.declared.card.Card.{Card}
use Rattle.droplet.specs.PoolCard.{segment_count, card_weights}
use Rattle.droplet.specs.Questions.{accepted, card_reading}
use Rattle.droplet.specs.Droplet.{segment}
use Rattle.droplet.specs.declared.refusal.Refusal.{Refusal}
use Rattle.droplet.specs.declared.refusal.Refusal.TheVariants.{OtherPayload, FullCount}
use Rattle.interleave.specs.InterleaveCalls.{done, reorder_answer, InterleavePromise, DeinterleavePromise}
use Rattle.strand.specs.ReadCheck.{droplet, read_check}
use Rattle.strand.specs.LegalStrand.{bytes_apart, NearStrand}
use Rattle.strand.specs.Writer.{payload_for}
use Rattle.strand.specs.WriterRuns.{PrintedRun, printed_line}
use Rattle.decoder.specs.declared.restorer.Sheet.{Sheet}
use Rattle.decoder.specs.Store.{LegalRead, record_bytes, records}
use Rattle.decoder.specs.Restorer.{Droplet, droplets, marked, present, RestorePromise}
use Rattle.decoder.specs.Among.{Among, AllAmong}
use Rattle.decoder.specs.Demand3.{legal_reads, first_seeds, seeds_of, reads_in, Call, reads_of, Chained, last_buffer, last_count, GivesAll}

-- "A shelf is a lent buffer and a count of records from its start"
pub record LentStore : Type 0 where
  pub buffer : List ℕ
  pub count : ℕ

-- the store that calls leave of an empty one
abbrev pub store_after : List ℕ → List Call → LentStore
store_after lent calls = record { buffer = last_buffer lent calls; count = last_count 0 calls }

module _ (c : Card) (weights : List ℕ) where
  -- what the records in a store hold of their reads
  abbrev pub reads_on : LentStore → List LegalRead
  reads_on store = reads_in (records c.l store.count store.buffer)

  -- "The droplets on a shelf are its records, each with the set that its seed picks"
  abbrev pub droplets_on : LentStore → List Droplet
  droplets_on store = droplets c weights store.buffer store.count

  -- the legal ones of the reads offered
  abbrev pub legal_of : List Call → List LegalRead
  legal_of calls = legal_reads c weights (reads_of calls)

  -- the seeds that they have
  abbrev pub legal_seeds : List Call → List ℕ
  legal_seeds calls = seeds_of (legal_of calls)

  -- the buffer has room for a record of each seed that the legal reads have
  abbrev pub RoomForAll : List ℕ → List Call → Type 0
  RoomForAll lent calls = length (first_seeds [] (legal_of calls)) * record_bytes c.l ≤ length lent

  -- ---- the premises: what the writer printed, what was stored, what was restored

  -- a strand that the writer prints for a file: the n letters of a line that a call, not refused, left in its buffer
  pub record PrintedStrand (file strand : List ℕ) : Type 0 where
    pub by : PrintedRun c weights file
    pub line : ℕ
    pub made : line < by.run.made
    pub letters : strand ≡ printed_line by line

  -- a read that differs in at most R/2 bytes from a strand that the writer prints for a file
  pub record MisreadStrand (file read : List ℕ) : Type 0 where
    pub strand : List ℕ
    pub printed : PrintedStrand file strand
    pub near : NearStrand c strand read

  -- each legal read, that is each that the read check accepts, is so near to a strand that the writer prints for this file
  abbrev pub LegalPrinted : List ℕ → List (List ℕ) → Type 0
  LegalPrinted file reads =
      All (λ read. (s : ℕ) (p : List ℕ) (k : ℕ) → read_check c weights read ≡ droplet s p k → MisreadStrand file read) reads

  -- each legal read of one seed is so near to such a strand
  abbrev pub SeedPrinted : List ℕ → List (List ℕ) → ℕ → Type 0
  SeedPrinted file reads s =
      All (λ read. (p : List ℕ) (k : ℕ) → read_check c weights read ≡ droplet s p k → MisreadStrand file read) reads

  -- each clean legal read, one with no byte corrected, is itself such a strand
  abbrev pub CleanPrinted : List ℕ → List (List ℕ) → Type 0
  CleanPrinted file reads = All (λ read. (s : ℕ) (p : List ℕ) → read_check c weights read ≡ droplet s p 0 → PrintedStrand file read) reads

  -- a clean read of a seed among those that some calls offer, and not refused under 20 (demand 3 says when no read is)
  pub record CleanOffered (calls : List Call) (s : ℕ) : Type 0 where
    pub call : Call
    pub payload : List ℕ
    pub among : Among call calls
    pub clean : read_check c weights call.read ≡ droplet s payload 0
    pub not_20 : call.answer ≡ Err FullCount → ⊥

  -- a job: a file of F bytes, and store calls from an empty store, a buffer of any length and bytes
  pub record Job (file lent : List ℕ) (calls : List Call) : Type 0 where
    pub size : length file ≡ c.f
    pub bytes : AllBytes file
    pub chained : Chained c weights lent 0 calls
    -- every clean legal read is a strand of the file
    pub clean : CleanPrinted file (reads_of calls)
    -- and each record in the store is of a clean read, whatever the corrected reads of its seed were; or else each legal read of its seed is
    -- near to a strand of the file
    pub seeds : All (λ r. (r.clean ≡ true) ⊎ SeedPrinted file (reads_of calls) r.seed) (reads_on (store_after lent calls))

  -- the customer's own file of F bytes, dealt by a call: the first F bytes of what it leaves are the file that the writer is handed
  pub record InterleavedFrom (original file : List ℕ) : Type 0 where
    pub size : length original ≡ c.f
    pub bytes : AllBytes original
    pub target : List ℕ
    pub space : c.f ≤ length target
    pub answer : Result (Unit {0}) Refusal
    pub target' : List ℕ
    pub promise : InterleavePromise c weights original target answer target'
    pub handed : file ≡ take c.f target'

  -- a restore over a store, not refused: it answers a sheet, and leaves a file and marks
  pub record SheetFrom (store : LentStore) (r : Sheet) (file' marks' : List ℕ) : Type 0 where
    pub file : List ℕ
    pub marks : List ℕ
    pub list : List ℕ
    pub list' : List ℕ
    pub promise : RestorePromise c weights store.buffer store.count file marks list (Ok r) file' marks' list'

  -- ---- the claim

  -- a right sheet of a file
  pub record RightSheet (file : List ℕ) (r : Sheet) (file' marks' : List ℕ) : Type 0 where
    -- it counts the segments present
    pub counted : r.present ≡ present (segment_count c) marks'
    -- each segment present is the file's
    pub right : (i : ℕ) → i < segment_count c → marked marks' i ≡ true → segment c.l file' i ≡ segment c.l file i
    -- no record contradicts them
    pub agrees : r.contradictions ≡ 0
    -- with all present, the file is back
    pub whole : r.present ≡ segment_count c → take c.f file' ≡ file

  -- a call that undeals what a restore left, into a buffer with space for F bytes: it is done, and the customer's bytes are back
  abbrev pub OriginalBack : List ℕ → List ℕ → Type 0
  OriginalBack original file' =
      (buffer : List ℕ) (answer : Result (Unit {0}) Refusal) (buffer' : List ℕ) → DeinterleavePromise c weights file' buffer answer buffer'
      → c.f ≤ length buffer → (reorder_answer answer ≡ done) × (take c.f buffer' ≡ original)

  -- what any restore of one store leaves present, any restore of another leaves present too
  abbrev pub NoBetter : LentStore → LentStore → Type 0
  NoBetter store store' =
      (r r' : Sheet) (file marks file' marks' : List ℕ) → SheetFrom store r file marks → SheetFrom store' r' file' marks'
      → (i : ℕ) → i < segment_count c → marked marks i ≡ true → marked marks' i ≡ true

  -- restores of two stores leave the same marks
  abbrev pub SameMarks : LentStore → LentStore → Type 0
  SameMarks store store' =
      (r r' : Sheet) (file marks file' marks' : List ℕ) → SheetFrom store r file marks → SheetFrom store' r' file' marks'
      → take (segment_count c) marks ≡ take (segment_count c) marks'

  pub record Vault : Type 0 where
    -- every file of F bytes can be dealt
    pub interleaves : (original : List ℕ) → length original ≡ c.f → AllBytes original → (file : List ℕ) × InterleavedFrom original file
    -- dealing it is done, and gives a file of F bytes
    pub interleaved : (original file : List ℕ) (from : InterleavedFrom original file)
        → (reorder_answer from.answer ≡ done) × (length file ≡ c.f) × AllBytes file
    -- there are calls for every list of reads
    pub calls : (lent : List ℕ) (reads : List (List ℕ)) → (calls : List Call) × Chained c weights lent 0 calls × (reads_of calls ≡ reads)
    -- they are a job where the legal reads are near to strands of the file
    pub jobs : (file lent : List ℕ) (calls : List Call) → length file ≡ c.f → AllBytes file → Chained c weights lent 0 calls
        → LegalPrinted file (reads_of calls) → Job file lent calls
    -- and where the clean ones are strands of the file, and each seed in the store had one of these among the reads offered, not refused under
    -- 20, or its legal reads are near to strands of the file
    pub clean_jobs : (file lent : List ℕ) (calls : List Call) → length file ≡ c.f → AllBytes file → Chained c weights lent 0 calls
        → CleanPrinted file (reads_of calls)
        → All (λ r. CleanOffered calls r.seed ⊎ SeedPrinted file (reads_of calls) r.seed) (reads_on (store_after lent calls))
        → Job file lent calls
    -- every strand that the writer prints is a legal read: its seed, and the file's payload for it; and a read that is damaged in at most
    -- R/2 of its bytes is always accepted, with that seed and payload and the number of bytes
    pub legal : (file strand : List ℕ) → AllBytes file → PrintedStrand file strand
        → (s : ℕ) × (read_check c weights strand ≡ droplet s (payload_for c weights file s) 0)
        × ((read : List ℕ) → NearStrand c strand read
        → read_check c weights read ≡ droplet s (payload_for c weights file s) (bytes_apart strand read))
    -- a record of a clean read is a droplet of the file, whatever the other reads were, if every clean legal read is a strand of the file
    pub clean_records : (file lent : List ℕ) (calls : List Call) → AllBytes file → Chained c weights lent 0 calls → CleanPrinted file (reads_of calls)
        → All (λ r. r.clean ≡ true → payload_for c weights file r.seed ≡ r.payload) (reads_on (store_after lent calls))
    -- and every sheet that is restored from such records alone, in a store of their own, in whatever order and number, is right
    pub clean_back : (file lent : List ℕ) (calls : List Call) (store : LentStore) → length file ≡ c.f → AllBytes file
        → Chained c weights lent 0 calls → CleanPrinted file (reads_of calls)
        → All (λ r. (r.clean ≡ true) × Among r (reads_on (store_after lent calls))) (reads_on store)
        → (r : Sheet) (file' marks' : List ℕ) → SheetFrom store r file' marks' → RightSheet file r file' marks'
    -- then no clean read is refused for a payload that differs from the store's
    pub clean_never_15 : (file lent : List ℕ) (calls : List Call) → AllBytes file → Chained c weights lent 0 calls → CleanPrinted file (reads_of calls)
        → All (λ k. (s : ℕ) (p : List ℕ) → read_check c weights k.read ≡ droplet s p 0 → k.answer ≡ Err OtherPayload → ⊥) calls
    -- and no read at all where each legal one is near to a strand of the file
    pub never_15 : (file lent : List ℕ) (calls : List Call) → AllBytes file → Chained c weights lent 0 calls → LegalPrinted file (reads_of calls)
        → All (λ k. k.answer ≡ Err OtherPayload → ⊥) calls
    -- every record in the store of a job is a droplet of the file
    pub store : (file lent : List ℕ) (calls : List Call) → Job file lent calls → GivesAll c.l file (droplets_on (store_after lent calls))
    -- every sheet that is restored from the store is right
    pub back : (file lent : List ℕ) (calls : List Call) → Job file lent calls
        → (r : Sheet) (file' marks' : List ℕ) → SheetFrom (store_after lent calls) r file' marks' → RightSheet file r file' marks'
    -- and with all present, undealing what was restored gives the customer's file
    pub original_back : (original file lent : List ℕ) (calls : List Call) → InterleavedFrom original file → Job file lent calls
        → (r : Sheet) (file' marks' : List ℕ) → SheetFrom (store_after lent calls) r file' marks' → r.present ≡ segment_count c
        → OriginalBack original file'
    -- reads of more seeds never hurt, where there is room for them
    pub more_reads : (file lent lent' : List ℕ) (calls calls' : List Call) → Job file lent calls → Job file lent' calls'
        → RoomForAll lent' calls' → AllAmong (legal_seeds calls) (legal_seeds calls') → NoBetter (store_after lent calls) (store_after lent' calls')
    -- reads offered after others are more reads, and of more seeds
    pub further_reads : (calls calls' : List Call) (more : List (List ℕ)) → reads_of calls' ≡ reads_of calls ++ more
        → AllAmong (legal_of calls) (legal_of calls') × AllAmong (legal_seeds calls) (legal_seeds calls')
    -- the order of the reads, their repeats and whether they were corrected never matter, where there is room
    pub any_order : (file lent lent' : List ℕ) (calls calls' : List Call) → Job file lent calls → Job file lent' calls'
        → RoomForAll lent calls → RoomForAll lent' calls' → AllAmong (legal_seeds calls) (legal_seeds calls')
        → AllAmong (legal_seeds calls') (legal_seeds calls)
        → SameMarks (store_after lent calls) (store_after lent' calls')
    -- over any two stores: more droplets never hurt
    pub more_droplets : (store store' : LentStore) → AllAmong (droplets_on store) (droplets_on store') → NoBetter store store'
    -- over any two stores: the order of the droplets and their repeats never matter
    pub same_droplets : (store store' : LentStore) → AllAmong (droplets_on store) (droplets_on store')
        → AllAmong (droplets_on store') (droplets_on store) → SameMarks store store'

-- "under one accepted card"
abbrev pub FromFileToVault : Type 0
FromFileToVault = (card : List ℕ) (c : Card) (D : ℕ) → card_reading card ≡ accepted c D → Vault c (card_weights card)
