-- A restore over droplets of one file answers a right sheet; with all segments present the file is back. Assumes nothing.
use mathlib.Core.Path.{◌≡◌, refl, sym, ap, ◌∙◌}
use mathlib.Core.Bool.{true, false, not, ◌&&◌}
use mathlib.Core.List.{List, [], ◌∷◌}
use mathlib.Core.Logic.{inl, inr}
use Prim.Native.Nat.{ℕ, ◌*◌, ◌/◌, ◌%◌, ◌≤◌, ◌<◌}
use native.Mathlib.Nat.{div-add-mod', div-lt_iff_lt-mul, mod-lt}
use native.Mathlib.Omega.{arith}
use lib.ListN.{length, get_or, take}
use lib.Seq.{length-take-le, get_or-take, ext_get_or}
use Rattle.field.specs.Bytes.{All, same_bytes}
use Rattle.field.proofs.Tests.{either}
use Rattle.field.proofs.SameBytes.{eq-same}
use Rattle.droplet.specs.declared.card.Card.{Card}
use Rattle.droplet.specs.PoolCard.{segment_count}
use Rattle.droplet.specs.Questions.{card_refusal}
use Rattle.droplet.specs.Droplet.{segment, payload}
use Rattle.droplet.proofs.LegalCard.{legal}
use Rattle.droplet.proofs.Payload.{segment-at}
use Rattle.decoder.specs.declared.restorer.Sheet.{Sheet}
use Rattle.decoder.specs.Restorer.{Droplet, State, marked, missing, is_nil, contradicts, contradictions}
use Rattle.decoder.specs.Demand3.{GivesAll}
use Rattle.decoder.specs.Among.{AllAmong}
use Rattle.vault.specs.Vault.{LentStore, droplets_on, SheetFrom, RightSheet, NoBetter, SameMarks}
use Rattle.decoder.proofs.MarkCounts.{present-all}
use Rattle.decoder.proofs.PoolShapes.{IsDroplet, state_after}
use Rattle.decoder.proofs.FillKeeps.{peel_all-sized}
use Rattle.decoder.proofs.PayloadParts.{payload_same}
use Rattle.decoder.proofs.PresentRight.{present_right}
use Rattle.decoder.proofs.PeelingOrder.{more-present, same-marks}
use Rattle.decoder.proofs.SoundRestore.{Ended, restore-ends}

-- ---- no contradictions

module _ (K L : ℕ) (g : List ℕ) (st : State)
    (right : (i : ℕ) → i < K → marked st.marks i ≡ true → segment L st.file i ≡ segment L g i) where
  none-missing : (set : List ℕ) → All (λ s. s < K) set → missing st.marks set ≡ [] → All (λ s. segment L st.file s ≡ segment L g s) set
  unfolding missing
  none-missing [] b e = tt
  none-missing (s ∷ set) b e =
      elim (either (marked st.marks s)) [
        | inl t ↦ (right s b.0 t, none-missing set b.1 (rw t at e))
        | inr t ↦ absurd (let z : ⊥ = omega (arith, ap length (rw t at e)) in z)
      ]

  agrees : (d : Droplet) → IsDroplet K L d → payload L g d.segments ≡ d.payload → contradicts L st d ≡ false
  unfolding contradicts
  agrees d w gives = go (missing st.marks d.segments) refl
    where
      go : (m : List ℕ) → missing st.marks d.segments ≡ m
          → (is_nil m && not (same_bytes (payload L st.file d.segments) d.payload)) ≡ false
      go [] e = rw (payload_same L st.file g d.segments (none-missing d.segments w.below e), gives, eq-same d.payload)
      go (i ∷ m) e = refl

  all-agree : (ds : List Droplet) → All (IsDroplet K L) ds → GivesAll L g ds → contradictions L ds st ≡ 0
  unfolding contradictions GivesAll
  all-agree [] w gives = refl
  all-agree (d ∷ ds) w gives = rw (agrees d w.0 gives.0) (all-agree ds w.1 gives.1)

-- ---- all segments

module _ (K L : ℕ) (f g : List ℕ) (l-least : 1 ≤ L) (same : (i : ℕ) → i < K → segment L f i ≡ segment L g i) where
  same_byte : (j : ℕ) → j < K * L → get_or f j 0 ≡ get_or g j 0
  same_byte j b =
      let i = j / L in
      let h = mod-lt j {m = L} l-least in
      let e = div-add-mod' j L in
      ap (λ n. get_or f n 0) (sym e) ∙ sym (segment-at L f i (j % L) h)
      ∙ ap (λ (l : List ℕ). get_or l (j % L) 0) (same i ((div-lt_iff_lt-mul {k = L} {x = j} {y = K} l-least).1 b)) ∙ segment-at L g i (j % L) h
      ∙ ap (λ n. get_or g n 0) e

  same-file : (F : ℕ) → length g ≡ F → F ≤ K * L → K * L ≤ length f → take F f ≡ g
  same-file F size fits long =
      let n = length-take-le F f (omega arith) in
      ext_get_or 0 (take F f) g (n ∙ sym size) (λ j h. let b : j < F = omega arith in get_or-take F f j 0 b ∙ same_byte j (omega arith))

-- ---- a restore that is not refused

module _ (c : Card) (ws : List ℕ) (fine : card_refusal c ws ≡ 0) where
  ended : (store : LentStore) (r : Sheet) (file' marks' : List ℕ) (p : SheetFrom c ws store r file' marks')
      → Ended (segment_count c) c.l (droplets_on c ws store) p.file p.marks r file' marks'
  ended store r file' marks' p =
      restore-ends c ws fine store.buffer store.count p.file p.marks p.list r file' marks' p.list' p.promise

  pub right-sheet : (file : List ℕ) (store : LentStore) → length file ≡ c.f → GivesAll c.l file (droplets_on c ws store)
      → (r : Sheet) (file' marks' : List ℕ) → SheetFrom c ws store r file' marks' → RightSheet c ws file r file' marks'
  right-sheet file store size gives r file' marks' p =
      let K = segment_count c in
      let L = c.l in
      let ds = droplets_on c ws store in
      let sizes = (legal c ws fine).sizes in
      let end = ended store r file' marks' p in
      let st = state_after K L ds p.file p.marks in
      let right = present_right K L file ds p.file p.marks end.ok gives in
      rw (end.fills, end.sets)
      (record {
        counted = end.presents;
        right = right;
        agrees = end.differs ∙ all-agree K L file st right ds end.ok.droplets gives;
        whole = λ all. same-file K L st.file file sizes.l-least (λ i b. right i b (present-all K st.marks (sym end.presents ∙ all) i b))
            c.f size sizes.file-within (peel_all-sized K L ds p.file p.marks end.ok).file;
      })

  pub more_droplets : (store store' : LentStore) → AllAmong (droplets_on c ws store) (droplets_on c ws store') → NoBetter c ws store store'
  more_droplets store store' among r r' file marks file' marks' p p' i b t =
      let end = ended store r file marks p in
      let end' = ended store' r' file' marks' p' in
      ap (λ (m : List ℕ). marked m i) end'.sets
      ∙ more-present (segment_count c) c.l (droplets_on c ws store) (droplets_on c ws store') p.file p'.file p.marks p'.marks end.ok end'.ok among i b
      (sym (ap (λ (m : List ℕ). marked m i) end.sets) ∙ t)

  pub same_droplets : (store store' : LentStore) → AllAmong (droplets_on c ws store) (droplets_on c ws store')
      → AllAmong (droplets_on c ws store') (droplets_on c ws store) → SameMarks c ws store store'
  same_droplets store store' there back r r' file marks file' marks' p p' =
      let end = ended store r file marks p in
      let end' = ended store' r' file' marks' p' in
      ap (take (segment_count c)) end.sets
      ∙ same-marks (segment_count c) c.l (droplets_on c ws store) (droplets_on c ws store') p.file p'.file p.marks p'.marks end.ok end'.ok there back
      ∙ sym (ap (take (segment_count c)) end'.sets)
