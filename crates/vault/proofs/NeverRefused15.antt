-- Where every clean legal read is a strand of one file, no clean read is refused under 15; where every legal read is near to one, no read
-- is. Assumes nothing.
use mathlib.Core.Path.{◌≡◌, refl, sym, ap, ◌∙◌, subst}
use mathlib.Core.Bool.{Bool, true, false, cond, true≢false}
use mathlib.Core.List.{List, [], ◌∷◌}
use mathlib.Core.Logic.{inl, inr}
use Prim.Native.Nat.{ℕ}
use native.Mathlib.Omega.{arith}
use Rattle.field.specs.Bytes.{All, AllBytes, same_bytes}
use Rattle.field.proofs.Tests.{either}
use Rattle.field.proofs.ByteLists.{all_append}
use Rattle.field.proofs.SameBytes.{eq-same}
use Rattle.droplet.specs.declared.card.Card.{Card}
use Rattle.droplet.specs.Questions.{card_refusal}
use Rattle.strand.specs.ReadCheck.{Reading, droplet, refused, read_check}
use Rattle.strand.specs.Writer.{payload_for}
use Rattle.std.proofs.Common.{Err}
use Rattle.droplet.specs.declared.refusal.Refusal.TheVariants.{OtherPayload}
use Rattle.decoder.specs.Store.{LegalRead, Record, Stored, accepted, repeat, replaced, refusal, store_answer, takes_over, better, droplet_read}
use Rattle.decoder.specs.Demand3.{reads_in, Call, reads_of, next_count, Chained}
use Rattle.vault.specs.Vault.{LegalPrinted, CleanPrinted}
use Rattle.decoder.proofs.AllOf.{all_map, all-before, all_after}
use Rattle.decoder.proofs.SeedSearch.{Spot, reads-join, held-spot}
use Rattle.decoder.proofs.LegalRead.{InReading}
use Rattle.decoder.proofs.ReadRefusals.{OwnNumber, read_number}
use Rattle.decoder.proofs.BestReads.{merged}
use Rattle.decoder.proofs.StoreSteps.{again, Move, added, full, met, differs, count-full, Step}
use Rattle.decoder.proofs.StoreCall.{room, Stocked}
use Rattle.decoder.proofs.StoreChain.{call-steps, empty-stocked}
use Rattle.vault.proofs.FileReads.{OfFile, CleanOfFile, clean-readings, near-readings}

-- the number of a refusal
abbrev number_in : Stored → ℕ
number_in (accepted n) = 0
number_in (repeat n) = 0
number_in (replaced n) = 0
number_in (refusal q) = q

-- ---- a step over records

-- P holds of every legal read and so of every record; a read with C has the payload of a record that it does not take over
module _ (P C : LegalRead → Type 0)
    (meets : (r q : LegalRead) → better r q ≡ false → q.seed ≡ r.seed → C r → P r → P q → q.payload ≡ r.payload) where
  merged-has : (b : Bool) (r q : LegalRead) → P r → P q → P (cond b r q)
  merged-has true r q p h = p
  merged-has false r q p h = h

  not-same-bytes : (q r : LegalRead) → same_bytes q.payload r.payload ≡ false → q.payload ≡ r.payload → ⊥
  not-same-bytes q r t e = true≢false (sym (eq-same r.payload) ∙ ap (λ (l : List ℕ). same_bytes l r.payload) (sym e) ∙ t)

  -- P holds of the reads that the records hold
  module _ (space : ℕ) (rs : List Record) (h : All P (reads_in rs)) (r : LegalRead) (a : Stored) (rs' : List Record) (p : P r) where
    found-has : (i : ℕ) (q : Record) → Spot r.seed rs i q → P q.read
    found-has i q spot =
        let held = held-spot r.seed rs i q spot in
        (all_after P held.before (q.read ∷ held.after) (subst (All P) held.parts h)).0

    move_all : Move space rs r a rs' → All P (reads_in rs')
    move_all (added m) = rw (m.now, reads-join rs (_ ∷ [])) (all_append P (reads_in rs) (r ∷ []) h (p, tt))
    move_all (full m) = rw m.now h
    move_all (met m) =
        let q = m.q.read in
        let spot = m.spot in
        let held = held-spot r.seed rs m.i m.q spot in
        let parts = subst (All P) held.parts h in
        let own = all_after P held.before (q ∷ held.after) parts in
        rw (m.now, reads-join spot.before (again r m.q ∷ spot.after))
        (all_append P held.before (merged r q ∷ held.after) (all-before P held.before (q ∷ held.after) parts)
        (merged-has (better r q) r q p own.0, own.1))
    move_all (differs m) = rw m.now h
    move_all (count-full m) = rw m.now h

    move-15 : Move space rs r a rs' → C r → number_in a ≡ 15 → ⊥
    move-15 (added m) c e = let n : ◌≡◌ {A = ℕ} 0 15 = rw m.says at e in omega arith
    move-15 (full m) c e = let n : ◌≡◌ {A = ℕ} 16 15 = rw m.says at e in omega arith
    move-15 (met m) c e =
        let says = ap number_in (sym m.says) ∙ e in
        elim (either (better r m.q.read)) [
          | inl b ↦ let n : ◌≡◌ {A = ℕ} 0 15 = rw b at says in omega arith
          | inr b ↦ let n : ◌≡◌ {A = ℕ} 0 15 = rw b at says in omega arith
        ]
    move-15 (differs m) c e =
        not-same-bytes m.q.read r m.other (meets r m.q.read m.worse m.spot.seed c p (found-has m.i m.q m.spot))
    move-15 (count-full m) c e = let n : ◌≡◌ {A = ℕ} 20 15 = rw m.says at e in omega arith

  module _ (space : ℕ) (rs : List Record) (h : All P (reads_in rs)) (a : Stored) (rs' : List Record) where
    step-all : (o : Reading) → InReading P o → Step space rs o a rs' → All P (reads_in rs')
    step-all (droplet s p k) f m = move_all space rs h (droplet_read s p k) a rs' f m
    step-all (refused n) f m = rw m.now h

    step-15 : (o : Reading) → OwnNumber o → InReading P o → Step space rs o a rs' → InReading C o → number_in a ≡ 15 → ⊥
    step-15 (droplet s p k) own f m c e = move-15 space rs h (droplet_read s p k) a rs' f m c e
    step-15 (refused n) own f m c e = let most = own.most in let says = ap number_in (sym m.says) ∙ e in omega arith

  -- ---- a list of calls

  module _ (c : Card) (ws : List ℕ) (fine : card_refusal c ws ≡ 0) (lent : List ℕ) where
    chain-15 : (rs : List Record) → All P (reads_in rs) → (buffer : List ℕ) (count : ℕ) → Stocked c.l lent rs buffer count
        → (calls : List Call) → Chained c ws buffer count calls → All (λ read. InReading P (read_check c ws read)) (reads_of calls)
        → All (λ k. InReading C (read_check c ws k.read) → k.answer ≡ Err OtherPayload → ⊥) calls
    unfolding Chained
    chain-15 rs h buffer count held [] t f = tt
    chain-15 rs h buffer count held (k ∷ ks) t f =
        let o = read_check c ws k.read in
        let a = store_answer k.answer in
        let now = call-steps c ws fine lent rs buffer count held k t.0 in (
          (λ has q. step-15 (room c.l lent) rs h a now.rs' o (read_number c ws fine k.read) f.0 now.step has (ap (λ x. number_in (store_answer x)) q)),
          chain-15 now.rs' (step-all (room c.l lent) rs h a now.rs' o f.0 now.step) k.buffer (next_count count k.answer) now.stocked ks
              t.1 f.1,
        )

-- ---- reads of one file

not-better : (read standing : Bool) → takes_over read standing ≡ false → read ≡ true → standing ≡ true
not-better true true e f = refl
not-better true false e f = absurd (true≢false e)
not-better false standing e f = absurd (true≢false (sym f))

module _ (c : Card) (ws : List ℕ) (fine : card_refusal c ws ≡ 0) (file lent : List ℕ) (calls : List Call) (bytes : AllBytes file) (chained : Chained c ws lent 0 calls) where
  one-payload : (r q : LegalRead) → q.seed ≡ r.seed → OfFile c ws file r → OfFile c ws file q → q.payload ≡ r.payload
  one-payload r q e hr hq = sym hq ∙ ap (payload_for c ws file) e ∙ hr

  pub clean_never_15 : CleanPrinted c ws file (reads_of calls)
      → All (λ k. (s : ℕ) (p : List ℕ) → read_check c ws k.read ≡ droplet s p 0 → k.answer ≡ Err OtherPayload → ⊥) calls
  clean_never_15 printed =
      all_map _ _ (λ k f s p e. f (subst (InReading (λ r. r.clean ≡ true)) (sym e) refl)) calls
      (chain-15 (CleanOfFile c ws file) (λ r. r.clean ≡ true)
      (λ r q worse e clean hr hq. one-payload r q e (hr clean) (hq (not-better r.clean q.clean worse clean)))
      c ws fine lent [] tt lent 0 (empty-stocked c ws fine lent) calls chained (clean-readings c ws file bytes (reads_of calls) printed))

  anything : (o : Reading) → InReading (λ r. Unit {0}) o
  anything (droplet s p k) = tt
  anything (refused n) = tt

  pub never_15 : LegalPrinted c ws file (reads_of calls) → All (λ k. k.answer ≡ Err OtherPayload → ⊥) calls
  never_15 printed =
      all_map _ _ (λ k f. f (anything (read_check c ws k.read))) calls
      (chain-15 (OfFile c ws file) (λ r. Unit {0}) (λ r q worse e any hr hq. one-payload r q e hr hq)
      c ws fine lent [] tt lent 0 (empty-stocked c ws fine lent) calls chained (near-readings c ws file bytes (reads_of calls) printed))
