-- One store call over a store that holds some records: it makes one of the moves, and the store holds the records of that move, with the
-- bytes past them as lent. Assumes nothing.
use mathlib.Core.Path.{◌≡◌, refl, sym, ap, ap₂, ◌∙◌}
use mathlib.Core.Bool.{true, false}
use mathlib.Core.List.{List, [], ◌∷◌, ◌++◌}
use mathlib.Core.Logic.{inl, inr}
use Prim.Native.Nat.{ℕ, suc, ◌*◌, ◌/◌, ◌≤◌, ◌<◌}
use native.Mathlib.Nat.{le-div_iff_mul-le, div-lt_iff_lt-mul}
use native.Mathlib.Omega.{arith}
use borrow.Author.Tests.{leb-true, leb-false, le-leb, eqb-true, eqb-false}
use lib.Dec.{eqb, leb}
use lib.ListN.{length, drop, length-append, length-drop}
use Rattle.field.specs.Bytes.{All, same_bytes}
use Rattle.field.proofs.Tests.{either}
use Rattle.field.proofs.ByteLists.{all_append}
use Rattle.strand.specs.ReadCheck.{Reading, droplet, refused}
use Rattle.decoder.specs.Store.{LegalRead, Record, record_bytes, records_text, records, Found, found, absent, find_seed, Stored, accepted, replaced, repeat, refusal, Kept, kept, kept_answer, kept_buffer, appended, better, took_over, full_count, counted_again, unless_full, compared, store_record, droplet_read, store_reading, count_fits}
use Rattle.decoder.proofs.AllOf.{all-before, all_after}
use Rattle.decoder.proofs.RecordBytes.{IsRead, IsRecord, parts-fit, texts-length, records-back, texts-more, texts-replaced, texts-counted}
use Rattle.decoder.proofs.SeedSearch.{Spot, found-spot, absent-has}
use Rattle.decoder.proofs.LegalRead.{Recordable}
use Rattle.decoder.proofs.StoreSteps.{Move, added, full, met, differs, count-full, Step}

-- how many whole records fit a buffer
abbrev pub room : ℕ → List ℕ → ℕ
room L lent = length lent / record_bytes L

-- the count that the next call is handed
abbrev pub count_after : ℕ → Stored → ℕ
count_after count (accepted n) = n
count_after count (replaced n) = n
count_after count (repeat n) = n
count_after count (refusal q) = count

-- a store that holds records, no more than fit, with the bytes past them as lent
pub record Stocked (L : ℕ) (lent : List ℕ) (rs : List Record) (buffer : List ℕ) (count : ℕ) : Type 0 where
  pub good : All (IsRecord L) rs
  pub number : count ≡ length rs
  pub bytes : buffer ≡ records_text rs ++ drop (length rs * record_bytes L) lent
  pub fits : length rs ≤ room L lent

-- what a call leaves, as a step from some records to others
pub record Moved (L : ℕ) (lent : List ℕ) (rs : List Record) (count : ℕ) (reading : Reading) (k : Kept) : Type 0 where
  pub rs' : List Record
  pub step : Step (room L lent) rs reading (kept_answer k) rs'
  pub stocked : Stocked L lent rs' (kept_buffer k) (count_after count (kept_answer k))

module _ (L : ℕ) (lent : List ℕ) where
  within : (n : ℕ) → n ≤ room L lent → n * record_bytes L ≤ length lent
  within n = (le-div_iff_mul-le {k = record_bytes L} (omega (arith, parts-fit L))).0

  pub fitted : (n : ℕ) → n * record_bytes L ≤ length lent → n ≤ room L lent
  fitted n = (le-div_iff_mul-le {k = record_bytes L} (omega (arith, parts-fit L))).1

  crowded : (n : ℕ) → length lent < suc n * record_bytes L → room L lent < suc n
  crowded n = (div-lt_iff_lt-mul {k = record_bytes L} (omega (arith, parts-fit L))).1

  pub held-records : (rs : List Record) (buffer : List ℕ) (count : ℕ) → Stocked L lent rs buffer count → records L count buffer ≡ rs
  held-records rs buffer count h =
      ap₂ (records L) h.number h.bytes ∙ records-back L rs (drop (length rs * record_bytes L) lent) h.good

  module _ (rs : List Record) (buffer : List ℕ) (count : ℕ) (h : Stocked L lent rs buffer count) where
    held-length : length buffer ≡ length lent
    held-length =
        rw (h.bytes, length-append, length-drop) (omega (arith, texts-length L rs h.good, within (length rs) h.fits))

    pub held_fits : count_fits L buffer count ≡ true
    held_fits = le-leb (count * record_bytes L) (length buffer) (rw (held-length, h.number) (within (length rs) h.fits))

    module _ (r : LegalRead) (fine : IsRead L r) where
      -- what a call with this answer and buffer leaves of records that are offered r
      abbrev Leaves : Kept → Type 0
      Leaves k = (rs' : List Record) × Move (room L lent) rs r (kept_answer k) rs' × Stocked L lent rs' (kept_buffer k) (count_after count (kept_answer k))

      abbrev first : Record
      first = record { read = r; count = 1 }

      first_good : IsRecord L first
      first_good = record { holds = fine; count_fits = omega arith }

      appended-moves : find_seed r.seed rs ≡ absent → Leaves (appended L buffer count r)
      unfolding appended
      appended-moves e =
          let new = absent-has r.seed rs e in
          elim (either (leb (suc count * record_bytes L) (length buffer))) [
            | inl t ↦
                let space : suc (length rs) * record_bytes L ≤ length lent
                = rw (held-length, h.number) at (leb-true (suc count * record_bytes L) (length buffer) t) in
                let less = fitted (suc (length rs)) space in
                rw t (
                  rs ++ (first ∷ []),
                  added (record { new = new; space = less; says = ap (λ (n : ℕ). accepted (suc n)) h.number; now = refl }),
                  record {
                    good = all_append (IsRecord L) rs (first ∷ []) h.good (first_good, tt);
                    number = ap suc h.number ∙ rw (length-append rs (first ∷ [])) (omega arith);
                    bytes = rw (h.bytes, h.number) (texts-more L lent rs first h.good first_good space);
                    fits = rw (length-append rs (first ∷ [])) (omega arith);
                  },
                )
            | inr t ↦
                let none = crowded (length rs) (rw (held-length, h.number) at (leb-false (suc count * record_bytes L) (length buffer) t)) in
                rw t (rs, full (record { new = new; none = omega arith; says = refl; now = refl }), h)
          ]

      module _ (i : ℕ) (q : Record) (spot : Spot r.seed rs i q) where
        good-here : All (IsRecord L) (spot.before ++ (q ∷ spot.after))
        good-here = rw spot.parts at h.good

        good-after : All (IsRecord L) (q ∷ spot.after)
        good-after = all_after (IsRecord L) spot.before (q ∷ spot.after) good-here

        good-before : All (IsRecord L) spot.before
        good-before = all-before (IsRecord L) spot.before (q ∷ spot.after) good-here

        -- the records with another one in the place of q, and the store that holds them
        abbrev records_with : Record → List Record
        records_with x = spot.before ++ (x ∷ spot.after)

        abbrev text_with : Record → List ℕ
        text_with x = records_text (records_with x) ++ drop (length rs * record_bytes L) lent

        with-stocked : (x : Record) (buffer' : List ℕ) → IsRecord L x → buffer' ≡ text_with x → Stocked L lent (records_with x) buffer' count
        with-stocked x buffer' good e =
            let n : length (records_with x) ≡ length rs
            = rw (spot.parts, length-append spot.before (x ∷ spot.after), length-append spot.before (q ∷ spot.after)) in
            record {
              good = all_append (IsRecord L) spot.before (x ∷ spot.after) good-before (good, good-after.1);
              number = h.number ∙ sym n;
              bytes = rw n e;
              fits = rw n h.fits;
            }

        -- q with one read more behind it, and so with r in the place of its own read
        abbrev counted : Record
        counted = record { read = q.read; count = suc q.count }

        abbrev taken_over : Record
        taken_over = record { read = r; count = suc q.count }

        counted-bytes : counted_again L i q buffer ≡ text_with counted
        unfolding counted_again
        counted-bytes =
            rw (h.bytes ∙ ap (λ (l : List Record). records_text l ++ drop (length rs * record_bytes L) lent) spot.parts, ← spot.place)
            (texts-counted L spot.before q spot.after (drop (length rs * record_bytes L) lent) (suc q.count) good-before good-after.0)

        module _ (below : q.count < full_count) where
          counted-good : IsRecord L counted
          counted-good = record { holds = good-after.0.holds; count_fits = omega arith }

          replaced-bytes : took_over L i r (counted_again L i q buffer) ≡ text_with taken_over
          replaced-bytes =
              rw (counted-bytes, ← spot.place)
              (texts-replaced L spot.before counted spot.after (drop (length rs * record_bytes L) lent) r good-before counted-good fine (sym spot.seed))

          replaced-moves : better r q.read ≡ true → Leaves (kept (replaced count) (took_over L i r (counted_again L i q buffer)))
          replaced-moves b = (
            records_with taken_over,
            met (record { i = i; q = q; spot = spot; below = below; says = rw b (ap replaced h.number); now = rw b }),
            with-stocked taken_over _ (record { holds = fine; count_fits = omega arith }) replaced-bytes,
          )

          repeat-moves : better r q.read ≡ false → Leaves (kept (repeat count) (counted_again L i q buffer))
          repeat-moves b = (
            records_with counted,
            met (record { i = i; q = q; spot = spot; below = below; says = rw b (ap repeat h.number); now = rw b }),
            with-stocked counted _ counted-good counted-bytes,
          )

        -- question 20
        full-moves : (k : Kept) → (q.count < full_count → Leaves k) → Leaves (unless_full q buffer k)
        unfolding unless_full
        full-moves k go =
            elim (either (eqb q.count full_count)) [
              | inl t ↦ rw t (rs, count-full (record { i = i; q = q; spot = spot; most = eqb-true q.count full_count t; says = refl; now = refl }), h)
              | inr t ↦
                  let least = good-after.0.count_fits in
                  let other = eqb-false q.count full_count t in
                  rw t (go (omega arith))
            ]

      compared-moves : (o : Found) → find_seed r.seed rs ≡ o → Leaves (compared L buffer count r o)
      unfolding compared
      compared-moves absent e = appended-moves e
      compared-moves (found i q) e =
          let spot = found-spot r.seed rs i q e in
          elim (either (better r q.read)) [
            | inl b ↦ rw b (full-moves i q spot _ (λ below. replaced-moves i q spot below b))
            | inr b ↦
                rw b
                (elim (either (same_bytes q.read.payload r.payload)) [
                  | inl t ↦ rw t (full-moves i q spot _ (λ below. repeat-moves i q spot below b))
                  | inr t ↦ rw t (rs, differs (record { i = i; q = q; spot = spot; worse = b; other = t; says = refl; now = refl }), h)
                ])
          ]

    pub reading-moves : (o : Reading) → Recordable L o → Moved L lent rs count o (store_reading L buffer count o)
    unfolding store_reading store_record
    reading-moves (refused n) f = record { rs' = rs; step = record { says = refl; now = refl }; stocked = h }
    reading-moves (droplet s p k) f =
        let r = droplet_read s p k in
        let left = compared-moves r f (find_seed s (records L count buffer)) (ap (find_seed s) (sym (held-records rs buffer count h))) in
        record { rs' = left.0; step = left.1; stocked = left.2 }
