-- A restore that is not refused is sound, over any store. Assumes nothing.
use mathlib.Core.Path.{◌≡◌, refl}
use mathlib.Core.List.{List}
use mathlib.Core.Logic.{inl, inr}
use Prim.Native.Nat.{ℕ, ◌<◌}
use native.Mathlib.Omega.{arith}
use borrow.Author.Tests.{eqb-true}
use lib.Dec.{eqb}
use lib.ListN.{length}
use Rattle.std.specs.Prelude.{Ok}
use Rattle.field.specs.Bytes.{All, AllBytes}
use Rattle.field.proofs.Tests.{either}
use Rattle.droplet.specs.declared.card.Card.{Card}
use Rattle.droplet.specs.PoolCard.{segment_count}
use Rattle.droplet.specs.Questions.{card_refusal}
use Rattle.droplet.specs.Droplet.{segments_of, Distinct}
use Rattle.droplet.proofs.LegalCard.{legal}
use Rattle.droplet.proofs.Sets.{segments-below, segments-distinct}
use Rattle.decoder.specs.declared.restorer.Sheet.{Sheet}
use Rattle.decoder.specs.Restorer.{Droplet, droplets, present, Peeled, peeled, peeled_passes, peeled_state, peel_all, contradictions, restore_refusal, restored, refusal, sheet_of, restore, RestorePromise}
use Rattle.decoder.specs.Demand3.{Sound}
use Rattle.decoder.proofs.PoolShapes.{Peelable, state_after}
use Rattle.decoder.proofs.PeelingEnds.{peel_all-passes}
use Rattle.decoder.proofs.MissingWhen.{missing_when}
use Rattle.decoder.proofs.PresentRight.{present_right}
use Rattle.decoder.proofs.WholeFile.{whole}
use Rattle.decoder.proofs.RestoreAnswers.{later-fits}
use Rattle.decoder.proofs.StoreDroplets.{droplets-are, droplets-bytes}

-- ---- a peeling over droplets of the pool

-- what peeling ends with is sound
abbrev pub PeeledSound : ℕ → ℕ → List Droplet → Peeled → Type 0
PeeledSound K L ds end =
    let st = peeled_state end in
    Sound K L ds (present K st.marks) (peeled_passes end) (contradictions L ds st) st.file st.marks

pub peel_all-sound : (K L : ℕ) (ds : List Droplet) (file marks : List ℕ) → Peelable K L ds file marks → All (λ d. AllBytes d.payload) ds
    → PeeledSound K L ds (peel_all K L ds file marks)
peel_all-sound K L ds file marks ok bytes = record {
  missing_when = missing_when K L ds file marks ok;
  present_right = λ g is gives. present_right K L g ds file marks ok gives;
  few_passes = omega (arith, peel_all-passes K L ds file marks ok);
  counted = refl;
  whole = whole K L ds file marks ok bytes;
}

-- the numbers of the sheet
sheet-says : (K L : ℕ) (ds : List Droplet) (end : Peeled) (p s x : ℕ) → restored p s x ≡ sheet_of K L ds end
    → (p ≡ present K (peeled_state end).marks) × (s ≡ peeled_passes end) × (x ≡ contradictions L ds (peeled_state end))
sheet-says K L ds (peeled n st) p s x says =
    let ep : p ≡ present K st.marks = cc in
    let es : s ≡ n = cc in
    let ex : x ≡ contradictions L ds st = cc in
    (ep, es, ex)

-- ---- a restore that is not refused

-- what it ended with
pub record Ended (K L : ℕ) (ds : List Droplet) (file marks : List ℕ) (r : Sheet) (file' marks' : List ℕ) : Type 0 where
  pub ok : Peelable K L ds file marks
  pub presents : r.present ≡ present K (state_after K L ds file marks).marks
  pub passed : r.passes ≡ peeled_passes (peel_all K L ds file marks)
  pub differs : r.contradictions ≡ contradictions L ds (state_after K L ds file marks)
  pub fills : file' ≡ (state_after K L ds file marks).file
  pub sets : marks' ≡ (state_after K L ds file marks).marks

module _ (c : Card) (weights : List ℕ) (fine : card_refusal c weights ≡ 0) where
  pub sets-right : (seed : ℕ) → All (λ s. s < segment_count c) (segments_of weights (segment_count c) seed)
      × Distinct (segments_of weights (segment_count c) seed)
  sets-right seed =
      let right = (legal c weights fine).weights in
      (segments-below weights (segment_count c) seed right.sum-least right.degrees-segments, segments-distinct weights (segment_count c) seed)

  pub peelable : (buffer : List ℕ) (count : ℕ) (file marks : List ℕ) (list_length : ℕ)
      → restore_refusal c weights buffer count (length file) (length marks) list_length ≡ 0
      → Peelable (segment_count c) c.l (droplets c weights buffer count) file marks
  unfolding restore_refusal
  peelable buffer count file marks list_length e =
      let fits = later-fits _ _ _ buffer count _ _ _ (rw fine at e) in
      record {
        droplets = droplets-are c weights buffer count (λ seed. (sets-right seed).0) fits.records-fit;
        file_fits = fits.file-fits;
        marks_fit = fits.marks-fit;
      }

  pub restore-ends : (buffer : List ℕ) (count : ℕ) (file marks list : List ℕ) (r : Sheet) (file' marks' list' : List ℕ)
      → RestorePromise c weights buffer count file marks list (Ok r) file' marks' list'
      → Ended (segment_count c) c.l (droplets c weights buffer count) file marks r file' marks'
  unfolding restore
  restore-ends buffer count file marks list r file' marks' list' p =
      let K = segment_count c in
      let ds = droplets c weights buffer count in
      let no = restore_refusal c weights buffer count (length file) (length marks) (length list) in
      elim (either (eqb no 0)) [
        | inl t ↦
            let numbers = sheet-says K c.l ds (peel_all K c.l ds file marks) r.present r.passes r.contradictions (rw t at p.says) in
            record {
              ok = peelable buffer count file marks (length list) (eqb-true no 0 t);
              presents = numbers.0;
              passed = numbers.1;
              differs = numbers.2;
              fills = rw t at p.fills;
              sets = rw t at p.sets;
            }
        | inr t ↦
            let says : restored r.present r.passes r.contradictions ≡ refusal no = rw t at p.says in
            let apart : ◌≡◌ {A = ℕ} 0 1 = cc in
            absurd (let z : ⊥ = omega arith in z)
      ]

  pub restore-sound : (buffer : List ℕ) (count : ℕ) (file marks list : List ℕ) (r : Sheet) (file' marks' list' : List ℕ) → AllBytes buffer
      → RestorePromise c weights buffer count file marks list (Ok r) file' marks' list'
      → Sound (segment_count c) c.l (droplets c weights buffer count) r.present r.passes r.contradictions file' marks'
  restore-sound buffer count file marks list r file' marks' list' bytes p =
      let end = restore-ends buffer count file marks list r file' marks' list' p in
      rw (end.presents, end.passed, end.differs, end.fills, end.sets)
      (peel_all-sound (segment_count c) c.l (droplets c weights buffer count) file marks end.ok (droplets-bytes c weights buffer count bytes))
