-- `store_legal` meets its contract: the first record of the seed is taken over or compared and counts one read more, and where there is
-- none a record is appended. Assumes nothing.
use Rattle.std.proofs.Common.{◌≡◌, ℕ, suc, ◌-◌, Bool, true, false, cond, List, length, take, drop, Result, Ok, Err, nat_eq, refl, sym, ◌∙◌, inl, inr}
use Rattle.std.specs.Cmp.Lexicographic.{pointwise}
use borrow.Author.Tests.{not-true, not-false}
use lib.Dec.{eqb}
use Rattle.field.specs.Bytes.{same_bytes, to_big_endian}
use Rattle.field.proofs.SameBytes.{pointwise-same}
use Rattle.field.proofs.Tests.{either}
use Rattle.droplet.specs.declared.refusal.Refusal.{Refusal}
use Rattle.droplet.specs.declared.refusal.Refusal.TheVariants.{OtherPayload, FullCount}
use Rattle.droplet.proofs.Refusals.{handed_on}
use Rattle.decoder.specs.declared.store.StoreAnswer.{StoreAnswer}
use Rattle.decoder.specs.declared.store.StoreAnswer.TheVariants.{Repeat, Replaced}
use Rattle.decoder.specs.Store.{LegalRead, reads_clean, evidence_text, evidence_place, count_place, record_payload, record_state, record_count, record_from, records, absent, find_seed, Kept, kept, replaced, repeat, refusal, overwritten, appended, takes_over, full_count, counted_again, unless_full, compared, store_record}
use Rattle.decoder.specs.StoreLoops.{Standing, Counts, Keeps}
use Rattle.decoder.proofs.BufferParts.{rest-whole}
use Rattle.decoder.proofs.store.store_legal.Goals as goal

-- question 20, and one read more, of the record that starts at a place
module _ (L : ℕ) (buffer : List ℕ) (at : ℕ) where
  abbrev full : Bool
  full = eqb (record_count L (drop at buffer)) full_count

  abbrev counted : List ℕ
  counted = overwritten (count_place L at) (to_big_endian (suc (record_count L (drop at buffer)))) buffer

  -- by the answer of the function that counts
  counts : (u : Unit {0}) (buffer' : List ℕ) → Counts L at buffer (Ok u) buffer' → (full ≡ false) × (buffer' ≡ counted)
  counts u buffer' c =
      elim (either full) [
        | inl t ↦ let e : ◌≡◌ {A = Result (Unit {0}) Refusal} (Ok u) (Err FullCount) = rw t at c.says in cc
        | inr t ↦ (t, rw t at c.leaves)
      ]

  stays : (q : Refusal) (buffer' : List ℕ) → Counts L at buffer (Err q) buffer' → (full ≡ true) × (q ≡ FullCount) × (buffer' ≡ buffer)
  stays q buffer' c =
      elim (either full) [
        | inl t ↦ let e : ◌≡◌ {A = Result (Unit {0}) Refusal} (Err q) (Err FullCount) = rw t at c.says in (t, cc, rw t at c.leaves)
        | inr t ↦ let e : ◌≡◌ {A = Result (Unit {0}) Refusal} (Err q) (Ok tt) = rw t at c.says in cc
      ]

-- what becomes of a read, by the first record of its seed
module _ (L : ℕ) (buffer : List ℕ) (count : ℕ) (r : LegalRead) where
  appends : (a : Result StoreAnswer Refusal) (after : List ℕ) → find_seed r.seed (records L count buffer) ≡ absent → Keeps (appended L buffer count r) a after
      → Keeps (store_record L buffer count r) a after
  unfolding store_record compared
  appends a after none k = rw none k

  -- the two tests before question 20 of the record that starts at a place, and what they decide
  abbrev same : ℕ → Bool
  same at = same_bytes (record_payload L (drop at buffer)) r.payload

  abbrev taken : ℕ → Kept → Kept
  taken at k = cond (full L buffer at) (kept (refusal 20) buffer) k

  abbrev decided : ℕ → Bool → Bool → Kept
  decided at over same =
      cond over (taken at (kept (replaced count) (overwritten (evidence_place at) (evidence_text r.payload r.clean) (counted L buffer at))))
      (cond same (taken at (kept (repeat count) (counted L buffer at))) (kept (refusal 15) buffer))

  -- a record of the seed stands at a place, and `state` was read from it
  module _ (at state : ℕ) (here : Standing L count buffer r.seed at) (read : state ≡ record_state L (take (length buffer - at) (drop at buffer))) where
    -- what the first test decides
    first : (over : Bool) → over ≡ takes_over r.clean (reads_clean state) → store_record L buffer count r ≡ decided at over (same at)
    unfolding store_record compared unless_full counted_again record_from
    first over e =
        let state_here : state ≡ record_state L (drop at buffer) = rw rest-whole at read in
        let test : over ≡ takes_over r.clean (reads_clean (record_state L (drop at buffer))) = rw state_here at e in
        rw (here.first, ← here.place, test)

    -- the read takes over
    module _ (over : true ≡ takes_over r.clean (reads_clean state)) (once : List ℕ) where
      replaces : (u : Unit {0}) (twice : List ℕ) → Counts L at buffer (Ok u) once
          → twice ≡ overwritten (evidence_place at) (evidence_text r.payload r.clean) once → Keeps (store_record L buffer count r) (Ok (Replaced count)) twice
      replaces u twice c e =
          let more = counts L buffer at u once c in
          rw (first true over, more.0) (record { says = refl; leaves = rw more.1 at e })

      full_over : (q : Refusal) → Counts L at buffer (Err q) once → Keeps (store_record L buffer count r) (Err q) once
      full_over q c = let most = stays L buffer at q once c in rw (first true over, most.0, most.1) (record { says = refl; leaves = most.2 })

    -- it does not, and is compared with the payload `p` of the record
    module _ (stands : false ≡ takes_over r.clean (reads_clean state)) (p : List ℕ) (e : p ≡ record_payload L (take (length buffer - at) (drop at buffer))) where
      second : (like : Bool) → pointwise nat_eq p r.payload ≡ like → store_record L buffer count r ≡ decided at false like
      second like test =
          let whole : p ≡ record_payload L (drop at buffer) = rw rest-whole at e in
          let by : same at ≡ like = rw (← whole) (sym (pointwise-same p r.payload) ∙ test) in
          rw (first false stands, by)

      repeats : (u : Unit {0}) (once : List ℕ) → pointwise nat_eq p r.payload ≡ true → Counts L at buffer (Ok u) once
          → Keeps (store_record L buffer count r) (Ok (Repeat count)) once
      repeats u once like c =
          let more = counts L buffer at u once c in
          rw (second true like, more.0) (record { says = refl; leaves = more.1 })

      full_repeat : (q : Refusal) (once : List ℕ) → pointwise nat_eq p r.payload ≡ true → Counts L at buffer (Err q) once
          → Keeps (store_record L buffer count r) (Err q) once
      full_repeat q once like c =
          let most = stays L buffer at q once c in
          rw (second true like, most.0, most.1) (record { says = refl; leaves = most.2 })

      differs : pointwise nat_eq p r.payload ≡ false → Keeps (store_record L buffer count r) (Err OtherPayload) buffer
      differs unlike = rw (second false unlike) (record { says = refl; leaves = refl })

pub returns-in_default : goal.returns-in_default
returns-in_default c = appends _ _ _ _ _ _ c.in_default.ensures c.append.ensures

pub returns-in_err-count_again : goal.returns-in_err-count_again
returns-in_err-count_again c =
    rw (handed_on _ _ c.from_residual.ensures.1)
    (full_over _ _ _ _ _ _ c.in-Some.ensures c.state_in.ensures c.if-takes_over.ensures _ _ c.in_err-count_again.ensures)

pub returns-then-takes_over : goal.returns-then-takes_over
returns-then-takes_over c =
    replaces _ _ _ _ _ _ c.in-Some.ensures c.state_in.ensures c.if-takes_over.ensures _ _ _ c.in_ok-count_again.ensures c.replace_evidence.ensures

pub returns-then-ne : goal.returns-then-ne
returns-then-ne c =
    differs _ _ _ _ _ _ c.in-Some.ensures c.state_in.ensures c.if-takes_over.ensures _ c.payload_in.ensures (not-true _ (sym c.if-ne.ensures))

pub returns-in_err-count_again-2 : goal.returns-in_err-count_again-2
returns-in_err-count_again-2 c =
    rw (handed_on _ _ c.from_residual-in_err-count_again-2.ensures.1)
    (full_repeat _ _ _ _ _ _ c.in-Some.ensures c.state_in.ensures c.if-takes_over.ensures _ c.payload_in.ensures _ _
    (not-false _ (sym c.if-ne.ensures)) c.in_err-count_again-2.ensures)

pub returns : goal.returns
returns c =
    repeats _ _ _ _ _ _ c.in-Some.ensures c.state_in.ensures c.if-takes_over.ensures _ c.payload_in.ensures _ _ (not-false _ (sym c.if-ne.ensures))
    c.in_ok-count_again-2.ensures
