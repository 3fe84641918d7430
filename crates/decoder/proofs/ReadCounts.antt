-- The counts of the records in a store, by the reads taken so far: each is the number of those of its seed, and all together are all of
-- them. A store call keeps to it. Assumes nothing.
use mathlib.Core.Path.{◌≡◌, refl, sym, ap, ◌∙◌, subst}
use mathlib.Core.Bool.{true, false, cond}
use mathlib.Core.List.{List, [], ◌∷◌, ◌++◌, map}
use mathlib.Core.Logic.{inl, inr}
use Prim.Native.Nat.{ℕ, suc, ◌+◌, ◌<◌, ◌≤◌}
use native.Mathlib.Omega.{arith}
use borrow.Author.Tests.{eq-eqb, ne_eqb}
use lib.Dec.{eqb}
use lib.ListN.{length-append}
use Rattle.field.specs.Bytes.{All}
use Rattle.field.proofs.Tests.{either}
use Rattle.field.proofs.ByteLists.{all_append}
use Rattle.droplet.specs.Droplet.{member, Distinct}
use Rattle.strand.specs.ReadCheck.{Reading, droplet, refused}
use Rattle.decoder.specs.Store.{LegalRead, Record, Stored, better, full_count, droplet_read}
use Rattle.decoder.specs.Demand3.{seeds_of, reads_in, those, count_of, answered, not20, counted_record, total_count}
use Rattle.decoder.proofs.AllOf.{all-before, all_after}
use Rattle.decoder.proofs.SeedSearch.{Spot, ReadSpot, reads-join, held-spot, spot-same, spot-here, spot-last}
use Rattle.decoder.proofs.SeedLists.{seeds-join, not_same, turned, in-neither, not_first}
use Rattle.decoder.proofs.BestReads.{merged-seed, those-snoc}
use Rattle.decoder.proofs.StoreSteps.{again, Move, added, full, met, differs, count-full, Step}
use Rattle.decoder.proofs.Account.{reads_after}
use Rattle.decoder.proofs.ReadRefusals.{OwnNumber}

-- ---- how many reads have a seed

module _ (s : ℕ) (os : List LegalRead) (r : LegalRead) where
  count-other : eqb r.seed s ≡ false → count_of s (os ++ (r ∷ [])) ≡ count_of s os
  unfolding count_of
  count-other e = rw (those-snoc (λ x. eqb x.seed s) os r, e, length-append) (omega arith)

  count-own : r.seed ≡ s → count_of s (os ++ (r ∷ [])) ≡ suc (count_of s os)
  unfolding count_of
  count-own e = rw (those-snoc (λ x. eqb x.seed s) os r, eq-eqb r.seed s e, length-append) (omega arith)

total-join : (rs rs' : List Record) → total_count (rs ++ rs') ≡ total_count rs + total_count rs'
unfolding total_count
total-join [] rs' = omega arith
total-join (r ∷ rs) rs' = rw (total-join rs rs') (omega arith)

-- ---- the counts

-- the count of a record is that of the reads of its seed
abbrev CountedIn : List LegalRead → Record → Type 0
CountedIn os r = r.count ≡ count_of r.read.seed os

-- `taken` are the reads not refused so far, `number` how many calls were answered so
pub record Counted (taken : List LegalRead) (number : ℕ) (rs : List Record) : Type 0 where
  pub each : All (CountedIn taken) rs
  pub none : (s : ℕ) → member s (seeds_of (reads_in rs)) ≡ false → count_of s taken ≡ 0
  pub total : total_count rs ≡ number

pub empty-counted : Counted [] 0 []
unfolding count_of those total_count
empty-counted = record { each = tt; none = λ s e. refl; total = refl }

-- the records with the reads that they hold and these counts are they themselves
pub counted_back : (taken : List LegalRead) (rs : List Record) → All (CountedIn taken) rs → map (counted_record taken) (reads_in rs) ≡ rs
counted_back taken [] h = refl
counted_back taken (r ∷ rs) h =
    λ i. record { read = r.read; count = sym h.0 i } ∷ counted_back taken rs h.1 i

-- the calls answered without a refusal, with one more
abbrev pub number_after : ℕ → Stored → ℕ
number_after number a = cond (answered a) (suc number) number

module _ (taken : List LegalRead) (number : ℕ) (rs : List Record) (h : Counted taken number rs) where
  -- no count is more than all together
  total-most : (r : LegalRead) (i : ℕ) (q : Record) → Spot r.seed rs i q → q.count ≤ number
  unfolding total_count
  total-most r i q spot =
      omega (arith, sym h.total ∙ ap total_count spot.parts ∙ total-join spot.before (q ∷ spot.after))

  module _ (r : LegalRead) where
    abbrev more : List LegalRead
    more = taken ++ (r ∷ [])

    -- records of other seeds
    others : (xs : List Record) → member r.seed (seeds_of (reads_in xs)) ≡ false → All (CountedIn taken) xs → All (CountedIn more) xs
    others [] f g = tt
    others (x ∷ xs) f g =
        let p = not_first r.seed x.read.seed (seeds_of (reads_in xs)) f in
        (g.0 ∙ sym (count-other x.read.seed taken r (turned x.read.seed r.seed p.0)), others xs p.1 g.1)

    added-counted : member r.seed (seeds_of (reads_in rs)) ≡ false → Counted more (suc number) (rs ++ (record { read = r; count = 1 } ∷ []))
    unfolding total_count
    added-counted new =
        let first : Record = record { read = r; count = 1 } in
        let own : ◌≡◌ {A = ℕ} 1 (count_of r.seed more) = sym (count-own r.seed taken r refl ∙ ap suc (h.none r.seed new)) in
        let seeds : seeds_of (reads_in (rs ++ (first ∷ []))) ≡ seeds_of (reads_in rs) ++ (r.seed ∷ [])
        = ap seeds_of (reads-join rs (first ∷ [])) ∙ seeds-join (reads_in rs) (r ∷ []) in
        record {
          each = all_append (CountedIn more) rs (first ∷ []) (others rs new h.each) (own, tt);
          none = λ t f.
              let both = in-neither t (seeds_of (reads_in rs)) (r.seed ∷ []) (ap (member t) (sym seeds) ∙ f) in
              count-other t taken r (not_first t r.seed [] both.1).0 ∙ h.none t both.0;
          total = total-join rs (first ∷ []) ∙ rw h.total (omega arith);
        }

    module _ (once : Distinct (seeds_of (reads_in rs))) (i : ℕ) (q : Record) (spot : Spot r.seed rs i q) where
      abbrev counted : List Record
      counted = spot.before ++ (again r q ∷ spot.after)

      same-seed : (again r q).read.seed ≡ r.seed
      same-seed = merged-seed r q.read (better r q.read) spot.seed

      -- the same place among the reads that the records hold
      abbrev held : ReadSpot r.seed (reads_in rs) q.read
      held = held-spot r.seed rs i q spot

      met-counted : Counted more (suc number) counted
      unfolding total_count
      met-counted =
          let parts = subst (All (CountedIn taken)) spot.parts h.each in
          let front = all-before (CountedIn taken) spot.before (q ∷ spot.after) parts in
          let back = all_after (CountedIn taken) spot.before (q ∷ spot.after) parts in
          let last = spot-last r.seed (reads_in rs) q.read held once in
          let here = spot-here r.seed (reads_in rs) q.read held in
          let own : CountedIn more (again r q)
          = ap suc (back.0 ∙ ap (λ (t : ℕ). count_of t taken) spot.seed)
          ∙ sym (count-own r.seed taken r refl) ∙ ap (λ (t : ℕ). count_of t more) (sym same-seed) in
          let same : seeds_of (reads_in counted) ≡ seeds_of (reads_in rs)
          = ap seeds_of (reads-join spot.before (again r q ∷ spot.after)) ∙ spot-same r.seed (reads_in rs) q.read held (again r q).read same-seed in
          record {
            each = all_append (CountedIn more) spot.before (again r q ∷ spot.after) (others spot.before spot.first front)
                (own, others spot.after last back.1);
            none = λ t f.
                let away = ap (member t) (sym same) ∙ f in
                count-other t taken r (not_same r.seed t (seeds_of (reads_in rs)) here away) ∙ h.none t away;
            total =
                let before = sym h.total ∙ ap total_count spot.parts ∙ total-join spot.before (q ∷ spot.after) in
                total-join spot.before (again r q ∷ spot.after) ∙ omega arith;
          }

  move-counted : Distinct (seeds_of (reads_in rs)) → (r : LegalRead) (a : Stored) (rs' : List Record) (room : ℕ) → Move room rs r a rs'
      → Counted (cond (answered a) (taken ++ (r ∷ [])) taken) (number_after number a) rs'
  move-counted once r a rs' room (added m) = rw (m.says, m.now) (added-counted r m.new)
  move-counted once r a rs' room (full m) = rw (m.says, m.now) h
  move-counted once r a rs' room (met m) =
      let so = met-counted r once m.i m.q m.spot in
      elim (either (better r m.q.read)) [
        | inl b ↦ rw (m.says, m.now, b) (rw b at so)
        | inr b ↦ rw (m.says, m.now, b) (rw b at so)
      ]
  move-counted once r a rs' room (differs m) = rw (m.says, m.now) h
  move-counted once r a rs' room (count-full m) = rw (m.says, m.now) h

  pub step-counted : Distinct (seeds_of (reads_in rs)) → (o : Reading) (a : Stored) (rs' : List Record) (room : ℕ) → Step room rs o a rs'
      → Counted (reads_after answered taken o a) (number_after number a) rs'
  step-counted once (droplet s p k) a rs' room m = move-counted once (droplet_read s p k) a rs' room m
  step-counted once (refused n) a rs' room m = rw (m.says, m.now) h

  -- a call is not refused under 20 while fewer are taken than a count can count
  move-not20 : (r : LegalRead) (a : Stored) (rs' : List Record) (room : ℕ) → Move room rs r a rs' → number < full_count → not20 a ≡ true
  move-not20 r a rs' room (added m) less = rw m.says
  move-not20 r a rs' room (full m) less = rw m.says
  move-not20 r a rs' room (met m) less =
      elim (either (better r m.q.read)) [ inl b ↦ rw (m.says, b) | inr b ↦ rw (m.says, b) ]
  move-not20 r a rs' room (differs m) less = rw m.says
  move-not20 r a rs' room (count-full m) less =
      absurd (let z : ⊥ = omega (arith, m.most, total-most r m.i m.q m.spot) in z)

  pub step-not20 : (o : Reading) (a : Stored) (rs' : List Record) (room : ℕ) → OwnNumber o → Step room rs o a rs' → number < full_count
      → not20 a ≡ true
  step-not20 (droplet s p k) a rs' room own m less = move-not20 (droplet_read s p k) a rs' room m less
  step-not20 (refused n) a rs' room own m less = let most = own.most in rw (m.says, ne_eqb n 20 (λ e. omega arith))
