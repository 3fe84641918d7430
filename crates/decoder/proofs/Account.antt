-- What the records in a store hold, by the reads offered so far, and that a store call keeps to it. Assumes nothing.
use mathlib.Core.Path.{◌≡◌, refl, sym, ap, ◌∙◌, subst}
use mathlib.Core.Bool.{Bool, true, false, cond}
use mathlib.Core.List.{List, [], ◌∷◌, ◌++◌, append-nil}
use mathlib.Core.Logic.{inl, inr}
use Prim.Native.Nat.{ℕ, ◌<◌, ◌≤◌, min}
use native.Mathlib.Omega.{arith}
use borrow.Author.Tests.{eq-eqb}
use lib.Dec.{eqb}
use lib.ListN.{length, take, length-append, length-take, length-map}
use lib.Seq.{take-nil, take_all, take-append-le}
use Rattle.field.specs.Bytes.{All}
use Rattle.field.proofs.Tests.{either}
use Rattle.field.proofs.ByteLists.{all_append}
use Rattle.droplet.specs.Droplet.{member, Distinct}
use Rattle.strand.specs.ReadCheck.{Reading, droplet, refused}
use Rattle.decoder.specs.Store.{LegalRead, Record, Stored, better, droplet_read}
use Rattle.decoder.specs.Demand3.{kept_reading, seeds_of, reads_in, those, best_of, answered, not20}
use Rattle.decoder.proofs.AllOf.{all-before, all_after}
use Rattle.decoder.proofs.SeedSearch.{ReadSpot, reads-join, held-spot, spot-same, spot-here, spot-last}
use Rattle.decoder.proofs.SeedLists.{seeds-join, not_same, turned, in-neither, not_first, front-has, later-has, once_more}
use Rattle.decoder.proofs.BestReads.{merged, merged-seed, BestIn, best-other, best-new, best-again}
use Rattle.decoder.proofs.StoreSteps.{Move, added, full, met, differs, count-full, Step}

-- ---- reads that are the best of some, each of its seed

module _ (os : List LegalRead) (r : LegalRead) where
  abbrev more : List LegalRead
  more = os ++ (r ∷ [])

  -- those of other seeds stay so with one read more
  covers-others : (rs : List LegalRead) → member r.seed (seeds_of rs) ≡ false → All (BestIn os) rs → All (BestIn more) rs
  covers-others [] f h = tt
  covers-others (x ∷ rs) f h =
      let p = not_first r.seed x.seed (seeds_of rs) f in
      (best-other x.seed os r (turned x.seed r.seed p.0) ∙ h.0, covers-others rs p.1 h.1)

  covers-added : (rs : List LegalRead) → member r.seed (seeds_of rs) ≡ false → best_of r.seed os ≡ [] → All (BestIn os) rs
      → All (BestIn more) (rs ++ (r ∷ []))
  covers-added rs f none h =
      all_append (BestIn more) rs (r ∷ []) (covers-others rs f h)
      (best-new r.seed os r (eq-eqb r.seed r.seed refl) none, tt)

  covers-met : (rs : List LegalRead) (q : LegalRead) (spot : ReadSpot r.seed rs q) → member r.seed (seeds_of spot.after) ≡ false
      → All (BestIn os) rs → All (BestIn more) (spot.before ++ (merged r q ∷ spot.after))
  covers-met rs q spot last h =
      let parts = subst (All (BestIn os)) spot.parts h in
      let front = all-before (BestIn os) spot.before (q ∷ spot.after) parts in
      let back = all_after (BestIn os) spot.before (q ∷ spot.after) parts in
      let own : best_of r.seed os ≡ q ∷ [] = ap (λ (s : ℕ). best_of s os) (sym spot.seed) ∙ back.0 in
      let here : BestIn more (merged r q)
      = ap (λ (s : ℕ). best_of s more) (merged-seed r q (better r q) spot.seed) ∙ best-again r.seed os r q (eq-eqb r.seed r.seed refl) own in
      all_append (BestIn more) spot.before (merged r q ∷ spot.after) (covers-others spot.before spot.first front)
      (here, covers-others spot.after last back.1)

-- ---- the account

-- of the reads offered so far, `seen` are the seeds of the legal ones in the order of the first of each, `legal` those not refused under 20,
-- `taken` those not refused, and `rs` those that the records hold
pub record Account (room : ℕ) (seen : List ℕ) (legal taken : List LegalRead) (rs : List LegalRead) : Type 0 where
  pub order : seeds_of rs ≡ take room seen
  pub once : Distinct (seeds_of rs)
  pub each : All (BestIn taken) rs
  pub legal_too : All (BestIn legal) rs
  -- of other seeds none was taken, and none was offered while there is space
  pub untaken : (s : ℕ) → member s (seeds_of rs) ≡ false → best_of s taken ≡ []
  pub unseen : (s : ℕ) → member s (seeds_of rs) ≡ false → length rs < room → best_of s legal ≡ []

none_yet : (s : ℕ) → best_of s [] ≡ []
unfolding best_of those
none_yet s = refl

pub empty-account : (room : ℕ) → Account room [] [] [] []
empty-account room =
    record { order = sym (take-nil room); once = tt; each = tt; legal_too = tt; untaken = λ s e. none_yet s; unseen = λ s e less. none_yet s }

-- the seeds with that of a read, if it is new
abbrev seen_with : List ℕ → LegalRead → List ℕ
seen_with seen r = cond (member r.seed seen) seen (seen ++ (r.seed ∷ []))

abbrev pub seen_after : List ℕ → Reading → List ℕ
seen_after seen (droplet s p k) = seen_with seen (droplet_read s p k)
seen_after seen (refused n) = seen

-- the reads whose answers pass a test, with one more
abbrev pub reads_after : (Stored → Bool) → List LegalRead → Reading → Stored → List LegalRead
reads_after test os reading a = cond (test a) (os ++ kept_reading reading []) os

module _ (room : ℕ) (seen : List ℕ) (legal taken : List LegalRead) (rs : List LegalRead) (h : Account room seen legal taken rs) (r : LegalRead) where
  abbrev s : ℕ
  s = r.seed

  held_number : length rs ≡ min room (length seen)
  held_number = sym (length-map rs (λ (x : LegalRead). x.seed)) ∙ ap length h.order ∙ length-take room seen

  lacks : member s (seeds_of rs) ≡ false → member s (take room seen) ≡ false
  lacks e = ap (member s) (sym h.order) ∙ e

  seen-new : member s (seeds_of rs) ≡ false → length rs < room → take room (seen_with seen r) ≡ take room seen ++ (s ∷ [])
  seen-new e less =
      elim (either (member s seen)) [
        | inl t ↦ absurd (let z : ⊥ = omega (arith, later-has s room seen t (lacks e), held_number) in z)
        | inr t ↦
            rw (t, take_all room seen (omega (arith, held_number)), take_all room (seen ++ (s ∷ [])) (rw length-append (omega (arith, held_number))))
      ]

  seen-full : room ≤ length rs → take room (seen_with seen r) ≡ take room seen
  seen-full most =
      elim (either (member s seen)) [ inl t ↦ rw t | inr t ↦ rw t (take-append-le room seen (s ∷ []) (omega (arith, held_number))) ]

  -- a seed in the store has been seen
  seen_here : member s (seeds_of rs) ≡ true → seen_with seen r ≡ seen
  seen_here e = rw (front-has s room seen (ap (member s) (sym h.order) ∙ e))

  added-account : member s (seeds_of rs) ≡ false → length rs < room
      → Account room (seen_with seen r) (legal ++ (r ∷ [])) (taken ++ (r ∷ [])) (rs ++ (r ∷ []))
  added-account new space =
      let seeds' : seeds_of (rs ++ (r ∷ [])) ≡ seeds_of rs ++ (s ∷ []) = seeds-join rs (r ∷ []) in
      let parts : (t : ℕ) → member t (seeds_of (rs ++ (r ∷ []))) ≡ false → (eqb s t ≡ false) × (member t (seeds_of rs) ≡ false)
      = λ t f. let both = in-neither t (seeds_of rs) (s ∷ []) (ap (member t) (sym seeds') ∙ f) in ((not_first t s [] both.1).0, both.0) in
      record {
        order = seeds' ∙ ap (λ (l : List ℕ). l ++ (s ∷ [])) h.order ∙ sym (seen-new new space);
        once = rw seeds' (once_more s (seeds_of rs) h.once new);
        each = covers-added taken r rs new (h.untaken s new) h.each;
        legal_too = covers-added legal r rs new (h.unseen s new space) h.legal_too;
        untaken = λ t f. best-other t taken r (parts t f).0 ∙ h.untaken t (parts t f).1;
        unseen = λ t f less. best-other t legal r (parts t f).0 ∙ h.unseen t (parts t f).1 space;
      }

  full-account : member s (seeds_of rs) ≡ false → room ≤ length rs → Account room (seen_with seen r) (legal ++ (r ∷ [])) taken rs
  full-account new none =
      record {
        order = h.order ∙ sym (seen-full none);
        once = h.once;
        each = h.each;
        legal_too = covers-others legal r rs new h.legal_too;
        untaken = h.untaken;
        unseen = λ t f less. absurd (let z : ⊥ = omega arith in z);
      }

  module _ (q : LegalRead) (spot : ReadSpot s rs q) where
    -- the reads with the one of the seed as it becomes
    abbrev merged_in : List LegalRead
    merged_in = spot.before ++ (merged r q ∷ spot.after)

    here : member s (seeds_of rs) ≡ true
    here = spot-here s rs q spot

    last : member s (seeds_of spot.after) ≡ false
    last = spot-last s rs q spot h.once

    -- the reads taken with r, or without it where the record stays as it is
    met-account : (taken' : List LegalRead) → All (BestIn taken') merged_in
        → ((t : ℕ) → eqb s t ≡ false → best_of t taken' ≡ best_of t taken)
        → Account room (seen_with seen r) (legal ++ (r ∷ [])) taken' merged_in
    met-account taken' covers other =
        let same : seeds_of merged_in ≡ seeds_of rs = spot-same s rs q spot (merged r q) (merged-seed r q (better r q) spot.seed) in
        let number : length merged_in ≡ length rs
        = sym (length-map merged_in (λ (x : LegalRead). x.seed)) ∙ ap length same ∙ length-map rs (λ (x : LegalRead). x.seed) in
        let away : (t : ℕ) → member t (seeds_of merged_in) ≡ false → member t (seeds_of rs) ≡ false
        = λ t f. ap (member t) (sym same) ∙ f in
        record {
          order = same ∙ h.order ∙ ap (take room) (sym (seen_here here));
          once = subst Distinct (sym same) h.once;
          each = covers;
          legal_too = covers-met legal r rs q spot last h.legal_too;
          untaken = λ t f. other t (not_same s t (seeds_of rs) here (away t f)) ∙ h.untaken t (away t f);
          unseen = λ t f less.
              best-other t legal r (not_same s t (seeds_of rs) here (away t f)) ∙ h.unseen t (away t f) (omega (arith, number));
        }

    with_read : Account room (seen_with seen r) (legal ++ (r ∷ [])) (taken ++ (r ∷ [])) merged_in
    with_read = met-account (taken ++ (r ∷ [])) (covers-met taken r rs q spot last h.each) (λ t e. best-other t taken r e)

    without : better r q ≡ false → Account room (seen_with seen r) (legal ++ (r ∷ [])) taken rs
    without b =
        let same : merged_in ≡ rs = rw b (sym spot.parts) in
        subst (Account room (seen_with seen r) (legal ++ (r ∷ [])) taken) same
        (met-account taken (subst (All (BestIn taken)) (sym same) h.each) (λ t e. refl))

    unchanged : Account room (seen_with seen r) legal taken rs
    unchanged = rw (seen_here here) h

module _ (room : ℕ) (seen : List ℕ) (legal taken : List LegalRead) (rs : List Record) (h : Account room seen legal taken (reads_in rs)) where
  move-account : (r : LegalRead) (a : Stored) (rs' : List Record) → Move room rs r a rs'
      → Account room (seen_with seen r) (cond (not20 a) (legal ++ (r ∷ [])) legal) (cond (answered a) (taken ++ (r ∷ [])) taken) (reads_in rs')
  move-account r a rs' (added m) =
      rw (m.says, m.now, reads-join rs (_ ∷ []))
      (added-account room seen legal taken (reads_in rs) h r m.new (rw length-map m.space))
  move-account r a rs' (full m) =
      rw (m.says, m.now) (full-account room seen legal taken (reads_in rs) h r m.new (rw length-map m.none))
  move-account r a rs' (met m) =
      let q = m.q.read in
      let spot = m.spot in
      let so = with_read room seen legal taken (reads_in rs) h r q (held-spot r.seed rs m.i m.q spot) in
      elim (either (better r q)) [
        | inl b ↦ rw (m.says, m.now, b, reads-join spot.before (_ ∷ spot.after)) (rw b at so)
        | inr b ↦ rw (m.says, m.now, b, reads-join spot.before (_ ∷ spot.after)) (rw b at so)
      ]
  move-account r a rs' (differs m) =
      rw (m.says, m.now) (without room seen legal taken (reads_in rs) h r m.q.read (held-spot r.seed rs m.i m.q m.spot) m.worse)
  move-account r a rs' (count-full m) =
      rw (m.says, m.now) (unchanged room seen legal taken (reads_in rs) h r m.q.read (held-spot r.seed rs m.i m.q m.spot))

  pub step-account : (o : Reading) (a : Stored) (rs' : List Record) → Step room rs o a rs'
      → Account room (seen_after seen o) (reads_after not20 legal o a) (reads_after answered taken o a) (reads_in rs')
  step-account (droplet s p k) a rs' m = move-account (droplet_read s p k) a rs' m
  step-account (refused n) a rs' m =
      elim (either (eqb n 20)) [
        | inl t ↦ rw (m.now, m.says, t) h
        | inr t ↦ rw (m.now, m.says, t, append-nil legal) h
      ]
