-- What the legal reads of a job say of the file, so that every record in the store is the file's droplet; what calls are a job; and that
-- reads of more seeds leave more droplets. Assumes nothing.
use mathlib.Core.Path.{◌≡◌, refl, sym, ap, ◌∙◌, subst}
use mathlib.Core.Bool.{true}
use mathlib.Core.List.{List, [], ◌∷◌}
use mathlib.Core.Logic.{◌⊎◌, inl, inr, ⊎_elim}
use Prim.Native.Nat.{ℕ}
use native.Mathlib.Omega.{arith}
use borrow.Author.Tests.{eq-eqb, eqb-true}
use lib.ListN.{length}
use lib.Seq.{take_all}
use Rattle.field.specs.Bytes.{All, AllBytes}
use Rattle.droplet.specs.declared.card.Card.{Card}
use Rattle.droplet.specs.PoolCard.{segment_count}
use Rattle.droplet.specs.Droplet.{payload, member, segments_of}
use Rattle.droplet.specs.Questions.{card_refusal}
use Rattle.strand.specs.ReadCheck.{Reading, droplet, refused, read_check}
use Rattle.strand.specs.Writer.{payload_for}
use Rattle.strand.proofs.NearReads.{clean-read}
use Rattle.decoder.specs.Store.{LegalRead, droplet_read}
use Rattle.decoder.specs.Demand3.{first_seeds, stored_seeds, seeds_of, Call, reads_of, Chained, answered, not20, last_buffer, last_count, reads_with, taken_reads, GivesAll}
use Rattle.decoder.specs.Among.{Among, AllAmong}
use Rattle.vault.specs.Vault.{LentStore, store_after, reads_on, droplets_on, legal_of, legal_seeds, RoomForAll, PrintedStrand, MisreadStrand, LegalPrinted, SeedPrinted, CleanPrinted, CleanOffered, Job}
use Rattle.decoder.proofs.AllOf.{all_map, all-mapped, all_among, among-all, among-mapped}
use Rattle.decoder.proofs.LegalRead.{InReading}
use Rattle.vault.proofs.OfferedReads.{legal-all, with_all, with-there, with-seed, first-has}
use Rattle.decoder.proofs.BestReads.{best-all, best-clean}
use Rattle.decoder.proofs.StoreCall.{room, fitted}
use Rattle.decoder.proofs.StoreChain.{left-order, left-best, left-legal}
use Rattle.decoder.proofs.NeverRefused20.{answer-not20}
use Rattle.vault.proofs.PrintedReads.{printed-legal}
use Rattle.decoder.proofs.StoreDroplets.{droplets-read}

-- a record with the file's payload for its seed, and one that has it if its read was clean
abbrev pub OfFile : Card → List ℕ → List ℕ → LegalRead → Type 0
OfFile c ws file r = payload_for c ws file r.seed ≡ r.payload

abbrev pub CleanOfFile : Card → List ℕ → List ℕ → LegalRead → Type 0
CleanOfFile c ws file r = r.clean ≡ true → OfFile c ws file r

-- ---- what one reading says

-- a droplet that is a strand's is the file's
same-payload : (c : Card) (ws file : List ℕ) (s : ℕ) (p : List ℕ) (k t j : ℕ) → droplet s p k ≡ droplet t (payload_for c ws file t) j
    → payload_for c ws file s ≡ p
same-payload c ws file s p k t j e =
    let seed : s ≡ t = cc in
    let part : p ≡ payload_for c ws file t = cc in
    ap (payload_for c ws file) seed ∙ sym part

module _ (c : Card) (ws file : List ℕ) (bytes : AllBytes file) (read : List ℕ) (s : ℕ) (p : List ℕ) where
  near-ours : (k : ℕ) → read_check c ws read ≡ droplet s p k → MisreadStrand c ws file read → payload_for c ws file s ≡ p
  near-ours k e misread =
      let legal = printed-legal c ws file bytes misread.strand misread.printed in
      same-payload c ws file s p k legal.0 _ (sym e ∙ legal.2 read misread.near)

  strand-ours : (k : ℕ) → read_check c ws read ≡ droplet s p k → PrintedStrand c ws file read → payload_for c ws file s ≡ p
  strand-ours k e printed =
      let legal = printed-legal c ws file bytes read printed in
      same-payload c ws file s p k legal.0 0 (sym e ∙ legal.1)

  -- a clean read that is near to a strand is that strand
  near-clean : read_check c ws read ≡ droplet s p 0 → MisreadStrand c ws file read → PrintedStrand c ws file read
  near-clean e misread =
      let strand = misread.strand in
      let legal = printed-legal c ws file bytes strand misread.printed in
      let same : droplet s p 0 ≡ droplet legal.0 (payload_for c ws file legal.0) _ = sym e ∙ legal.2 read misread.near in
      let seed : s ≡ legal.0 = cc in
      let part : p ≡ payload_for c ws file legal.0 = cc in
      let own : read_check c ws strand ≡ droplet s p 0 = legal.1 ∙ cc in
      subst (PrintedStrand c ws file) (clean-read c ws strand s p own ∙ sym (clean-read c ws read s p e)) misread.printed

-- ---- the same of readings, as what holds of their records

module _ (c : Card) (ws : List ℕ) where
  reading-all : (P : LegalRead → Type 0) (read : List ℕ) → ((s : ℕ) (p : List ℕ) (k : ℕ) → read_check c ws read ≡ droplet s p k → P (droplet_read s p k))
      → (o : Reading) → read_check c ws read ≡ o → InReading P o
  reading-all P read f (droplet s p k) e = f s p k e
  reading-all P read f (refused n) e = tt

  readings : (P : LegalRead → Type 0) (Q : List ℕ → Type 0)
      → ((read : List ℕ) → Q read → (s : ℕ) (p : List ℕ) (k : ℕ) → read_check c ws read ≡ droplet s p k → P (droplet_read s p k))
      → (reads : List (List ℕ)) → All Q reads → All (λ read. InReading P (read_check c ws read)) reads
  readings P Q f = all_map Q (λ read. InReading P (read_check c ws read)) (λ read h. reading-all P read (f read h) (read_check c ws read) refl)

  module _ (file : List ℕ) (bytes : AllBytes file) where
    pub clean-readings : (reads : List (List ℕ)) → CleanPrinted c ws file reads
        → All (λ read. InReading (CleanOfFile c ws file) (read_check c ws read)) reads
    clean-readings =
        readings (CleanOfFile c ws file) _ (λ read h s p k e clean.
        strand-ours c ws file bytes read s p k e (h s p (e ∙ ap (droplet s p) (eqb-true k 0 clean))))

    pub near-readings : (reads : List (List ℕ)) → LegalPrinted c ws file reads → All (λ read. InReading (OfFile c ws file) (read_check c ws read)) reads
    near-readings = readings (OfFile c ws file) _ (λ read h s p k e. near-ours c ws file bytes read s p k e (h s p k e))

    seed-readings : (t : ℕ) (reads : List (List ℕ)) → SeedPrinted c ws file reads t
        → All (λ read. InReading (λ r. r.seed ≡ t → OfFile c ws file r) (read_check c ws read)) reads
    seed-readings t =
        readings (λ r. r.seed ≡ t → OfFile c ws file r) _ (λ read h s p k e same.
        near-ours c ws file bytes read s p k e (h p k (e ∙ ap (λ (x : ℕ). droplet x p k) same)))

-- ---- the store

-- the records that calls leave
abbrev left : Card → List ℕ → List ℕ → List Call → List LegalRead
left c ws lent calls = reads_on c ws (store_after lent calls)

module _ (c : Card) (ws : List ℕ) (fine : card_refusal c ws ≡ 0) where
  module _ (lent : List ℕ) (calls : List Call) (chained : Chained c ws lent 0 calls) where
    abbrev reads : List (List ℕ)
    reads = reads_of calls

    -- what holds of all legal reads holds of that of each record
    left-all : (P : LegalRead → Type 0) → All P (legal_of c ws calls) → (r : LegalRead) → Among r (left c ws lent calls) → P r
    left-all P h r a =
        best-all r.seed (taken_reads c ws calls) P r (with_all c ws answered P calls h)
        (all_among _ (left c ws lent calls) (left-best c ws fine lent calls chained) r a)

    -- of a seed with a clean read that is not refused under 20 the record is clean
    offered-clean : (r : LegalRead) → Among r (left c ws lent calls) → CleanOffered c ws calls r.seed → r.clean ≡ true
    offered-clean r a k =
        best-clean r.seed (reads_with not20 c ws calls) r (droplet_read r.seed k.payload 0)
        (with-there c ws not20 calls k.call r.seed k.payload 0 k.among (answer-not20 k.call.answer k.not_20) k.clean)
        (rw (eq-eqb r.seed r.seed refl)) (all_among _ (left c ws lent calls) (left-legal c ws fine lent calls chained) r a)

    module _ (file : List ℕ) (bytes : AllBytes file) where
      clean-ours : CleanPrinted c ws file reads → (r : LegalRead) → Among r (left c ws lent calls) → CleanOfFile c ws file r
      clean-ours printed = left-all (CleanOfFile c ws file) (legal-all c ws (CleanOfFile c ws file) reads (clean-readings c ws file bytes reads printed))

      seed-ours : (r : LegalRead) → Among r (left c ws lent calls) → SeedPrinted c ws file reads r.seed → OfFile c ws file r
      seed-ours r a near =
          left-all (λ x. x.seed ≡ r.seed → OfFile c ws file x)
          (legal-all c ws (λ x. x.seed ≡ r.seed → OfFile c ws file x) reads (seed-readings c ws file bytes r.seed reads near)) r a refl

  pub clean_records : (file lent : List ℕ) (calls : List Call) → AllBytes file → Chained c ws lent 0 calls → CleanPrinted c ws file (reads_of calls)
      → All (CleanOfFile c ws file) (left c ws lent calls)
  clean_records file lent calls bytes chained printed =
      among-all (CleanOfFile c ws file) (left c ws lent calls) (clean-ours lent calls chained file bytes printed)

  -- a store whose records are all droplets of the file
  reads-give : (file : List ℕ) (store : LentStore) → All (OfFile c ws file) (reads_on c ws store) → GivesAll c.l file (droplets_on c ws store)
  unfolding GivesAll
  reads-give file store h =
      rw (droplets-read c ws store.buffer store.count)
      (all-mapped (λ d. payload c.l file d.segments ≡ d.payload) _ (reads_on c ws store) h)

  -- a store of such records alone
  pub clean-gives : (file lent : List ℕ) (calls : List Call) (store : LentStore) → AllBytes file → Chained c ws lent 0 calls
      → CleanPrinted c ws file (reads_of calls) → All (λ r. (r.clean ≡ true) × Among r (left c ws lent calls)) (reads_on c ws store)
      → GivesAll c.l file (droplets_on c ws store)
  clean-gives file lent calls store bytes chained printed own =
      reads-give file store (all_map _ (OfFile c ws file) (λ r h. clean-ours lent calls chained file bytes printed r h.1 h.0) (reads_on c ws store) own)

  -- ---- jobs

  module _ (file lent : List ℕ) (calls : List Call) (size : length file ≡ c.f) (bytes : AllBytes file) (chained : Chained c ws lent 0 calls) where
    pub jobs : LegalPrinted c ws file (reads_of calls) → Job c ws file lent calls
    jobs near =
        record {
          size = size;
          bytes = bytes;
          chained = chained;
          clean = all_map _ _ (λ read h s p e. near-clean c ws file bytes read s p e (h s p 0 e)) (reads_of calls) near;
          seeds = among-all _ (left c ws lent calls) (λ r a. inr (all_map _ _ (λ read h p k e. h r.seed p k e) (reads_of calls) near));
        }

    pub clean_jobs : CleanPrinted c ws file (reads_of calls)
        → All (λ r. CleanOffered c ws calls r.seed ⊎ SeedPrinted c ws file (reads_of calls) r.seed) (left c ws lent calls)
        → Job c ws file lent calls
    clean_jobs printed offered =
        record {
          size = size;
          bytes = bytes;
          chained = chained;
          clean = printed;
          seeds = among-all _ (left c ws lent calls) (λ r a. ⊎_elim (λ k. inl (offered-clean lent calls chained r a k)) (λ near. inr near) (all_among _ (left c ws lent calls) offered r a));
        }

  module _ (file lent : List ℕ) (calls : List Call) (job : Job c ws file lent calls) where
    record-ours : (r : LegalRead) → Among r (left c ws lent calls) → OfFile c ws file r
    record-ours r a =
        ⊎_elim (λ clean. clean-ours lent calls job.chained file job.bytes job.clean r a clean)
        (λ near. seed-ours lent calls job.chained file job.bytes r a near) (all_among _ (left c ws lent calls) job.seeds r a)

    pub store_ours : GivesAll c.l file (droplets_on c ws (store_after lent calls))
    store_ours = reads-give file (store_after lent calls) (among-all (OfFile c ws file) (left c ws lent calls) record-ours)

  -- ---- two lists of calls

  module _ (file lent lent' : List ℕ) (calls calls' : List Call) (job : Job c ws file lent calls) (job' : Job c ws file lent' calls')
      (fits : RoomForAll c ws lent' calls') (among : AllAmong (legal_seeds c ws calls) (legal_seeds c ws calls')) where
    -- with room for all, each seed of the legal reads is in the store
    seeds-whole : seeds_of (left c ws lent' calls') ≡ first_seeds [] (legal_of c ws calls')
    unfolding stored_seeds
    seeds-whole =
        let first = first_seeds [] (legal_of c ws calls') in
        left-order c ws fine lent' calls' job'.chained ∙ take_all (room c.l lent') first (fitted c.l lent' (length first) (omega (arith, fits)))

    same-seed : (x : LegalRead) → Among x (left c ws lent calls) → (y : LegalRead) × Among y (left c ws lent' calls') × (y.seed ≡ x.seed)
    same-seed x a =
        let here : Among x.seed (legal_seeds c ws calls)
        = left-all lent calls job.chained (λ y. Among y.seed (legal_seeds c ws calls)) (seeds-there (legal_of c ws calls)) x a in
        with-seed x.seed (left c ws lent' calls')
        (ap (member x.seed) seeds-whole ∙ first-has x.seed [] (legal_of c ws calls') (among x.seed here))
      where
        seeds-there : (rs : List LegalRead) → All (λ y. Among y.seed (seeds_of rs)) rs
        seeds-there [] = tt
        seeds-there (r ∷ rs) = (inl refl, all_map _ _ (λ y b. inr b) rs (seeds-there rs))

    pub droplets-among : AllAmong (droplets_on c ws (store_after lent calls)) (droplets_on c ws (store_after lent' calls'))
    droplets-among =
        rw (droplets-read c ws (last_buffer lent calls) (last_count 0 calls), droplets-read c ws (last_buffer lent' calls') (last_count 0 calls'))
        (among-mapped _ (left c ws lent calls) (left c ws lent' calls')
        (λ x a.
        let there = same-seed x a in
        let y = there.0 in
        let e : x.seed ≡ y.seed = sym there.2 in
        let p : x.payload ≡ y.payload
        = sym (record-ours file lent calls job x a) ∙ ap (payload_for c ws file) e ∙ record-ours file lent' calls' job' y there.1 in
        (y, there.1, λ i. record { segments = segments_of ws (segment_count c) (e i); payload = p i })))
