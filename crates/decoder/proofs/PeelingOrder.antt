-- More droplets never hurt, and neither their order nor their repeats matter to the marks. Assumes nothing.
use mathlib.Core.Path.{◌≡◌, refl, sym, ap, ◌∙◌}
use mathlib.Core.Bool.{Bool, true, false, cond, true≢false}
use mathlib.Core.List.{List}
use mathlib.Core.Logic.{inl, inr}
use Prim.Native.Nat.{ℕ, ◌<◌}
use native.Mathlib.Omega.{arith}
use lib.ListN.{take}
use lib.Seq.{length-take-le, get_or-take, ext_get_or}
use Rattle.field.proofs.Tests.{either}
use Rattle.decoder.specs.Restorer.{Droplet, marked}
use Rattle.decoder.specs.Demand3.{hits, Stalls}
use Rattle.decoder.specs.Among.{AllAmong}
use Rattle.decoder.proofs.AllOf.{all_among, among-all}
use Rattle.decoder.proofs.PoolShapes.{Peelable, state_after}
use Rattle.decoder.proofs.FillKeeps.{peel_all-sized}
use Rattle.decoder.proofs.MissingWhen.{left-largest, missing_when}
use Rattle.decoder.proofs.MarkBytes.{mark-byte}

pub fewer-stall : (S : ℕ → Bool) (ds ds' : List Droplet) → AllAmong ds ds' → Stalls S ds' → Stalls S ds
unfolding Stalls
fewer-stall S ds ds' among stalls =
    among-all (λ d. hits S d.segments ≡ 1 → ⊥) ds (λ d a. all_among (λ e. hits S e.segments ≡ 1 → ⊥) ds' stalls d (among d a))

-- two peelings, each over its own buffers
module _ (K L : ℕ) (ds ds' : List Droplet) (file file' marks marks' : List ℕ) (ok : Peelable K L ds file marks) (ok' : Peelable K L ds' file' marks') where
  pub more-present : AllAmong ds ds' → (i : ℕ) → i < K → marked (state_after K L ds file marks).marks i ≡ true
      → marked (state_after K L ds' file' marks').marks i ≡ true
  more-present among i b e =
      elim (either (marked (state_after K L ds' file' marks').marks i)) [
        | inl t ↦ t
        | inr t ↦
            let set = (missing_when K L ds' file' marks' ok' i b).0 t in
            absurd (true≢false (sym e ∙ left-largest K L ds file marks ok set.0 (fewer-stall set.0 ds ds' among set.2) i b set.1))
      ]

both-or-none : (a b : Bool) → (a ≡ true → b ≡ true) → (b ≡ true → a ≡ true) → a ≡ b
both-or-none true b f g = sym (f refl)
both-or-none false true f g = g refl
both-or-none false false f g = refl

module _ (K L : ℕ) (ds ds' : List Droplet) (file file' marks marks' : List ℕ) (ok : Peelable K L ds file marks) (ok' : Peelable K L ds' file' marks')
    (there : AllAmong ds ds') (back : AllAmong ds' ds) where
  pub same-marked : (i : ℕ) → i < K
      → marked (state_after K L ds file marks).marks i ≡ marked (state_after K L ds' file' marks').marks i
  same-marked i b =
      both-or-none _ _ (more-present K L ds ds' file file' marks marks' ok ok' there i b) (more-present K L ds' ds file' file marks' marks ok' ok back i b)

  pub same-marks : take K (state_after K L ds file marks).marks ≡ take K (state_after K L ds' file' marks').marks
  same-marks =
      let m = (state_after K L ds file marks).marks in
      let m' = (state_after K L ds' file' marks').marks in
      let size = length-take-le K m (peel_all-sized K L ds file marks ok).marks in
      let size' = length-take-le K m' (peel_all-sized K L ds' file' marks' ok').marks in
      ext_get_or 0 (take K m) (take K m') (size ∙ sym size')
      (λ i h. let b : i < K = omega arith in
      get_or-take K m i 0 b ∙ mark-byte K L ds file marks ok i b ∙ ap (λ (t : Bool). cond t 1 0) (same-marked i b)
      ∙ sym (mark-byte K L ds' file' marks' ok' i b) ∙ sym (get_or-take K m' i 0 b))
