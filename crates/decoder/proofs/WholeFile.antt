-- With all segments present, contradictions are 0 exactly when some file gives every droplet. Assumes nothing.
use mathlib.Core.Path.{◌≡◌, refl, sym, ◌∙◌}
use mathlib.Core.Bool.{true, true≢false}
use mathlib.Core.List.{List, [], ◌∷◌}
use mathlib.Core.Logic.{◌↔◌, inl, inr}
use Prim.Native.Nat.{ℕ, ◌*◌, ◌<◌}
use native.Mathlib.Nat.{mul-le-mul_right}
use native.Mathlib.Omega.{arith}
use lib.ListN.{take}
use lib.Seq.{length-take-le}
use Rattle.field.specs.Bytes.{All, AllBytes, same_bytes}
use Rattle.field.proofs.Tests.{either}
use Rattle.field.proofs.SameBytes.{same-eq, eq-same}
use Rattle.droplet.specs.Droplet.{segment, payload}
use Rattle.decoder.specs.Restorer.{Droplet, State, marked, present, contradicts, contradictions}
use Rattle.decoder.specs.Demand3.{IsFile, GivesAll}
use Rattle.decoder.proofs.AllOf.{all_map}
use Rattle.decoder.proofs.MarkCounts.{present-all}
use Rattle.decoder.proofs.MissingSegments.{missing-none}
use Rattle.decoder.proofs.PlacedSegment.{segment-front}
use Rattle.decoder.proofs.PoolShapes.{IsDroplet, Peelable, state_after}
use Rattle.decoder.proofs.FillKeeps.{peel_all-sized}
use Rattle.decoder.proofs.PayloadParts.{payload_same}
use Rattle.decoder.proofs.PresentRight.{present_right}
use Rattle.decoder.proofs.FileBytes.{segments-bytes, joined_bytes}

module _ (K L : ℕ) (st : State) (full : (i : ℕ) → i < K → marked st.marks i ≡ true) where
  pub contradictions-none : (ds : List Droplet) → All (IsDroplet K L) ds → (contradictions L ds st ≡ 0) ↔ GivesAll L st.file ds
  unfolding contradictions contradicts GivesAll
  contradictions-none [] w = ((λ e. tt), λ v. refl)
  contradictions-none (d ∷ ds) w =
      let rest = contradictions-none ds w.1 in
      rw (missing-none st.marks K d.segments full w.0.below)
      (elim (either (same_bytes (payload L st.file d.segments) d.payload)) [
        | inl e ↦ rw e ((λ z. (same-eq _ _ e, rest.0 z)), λ v. rest.1 v.1)
        | inr e ↦ rw e ((λ z. absurd (let f : ⊥ = omega arith in f)), λ v. absurd (true≢false (sym (rw v.0 (eq-same d.payload)) ∙ e)))
      ])

-- files with the same K segments give the same droplets
pub gives_same : (K L : ℕ) (f g : List ℕ) → ((i : ℕ) → i < K → segment L f i ≡ segment L g i) → (ds : List Droplet) → All (IsDroplet K L) ds
    → GivesAll L f ds → GivesAll L g ds
unfolding GivesAll
gives_same K L f g same [] w v = tt
gives_same K L f g same (d ∷ ds) w v =
    (sym (payload_same L f g d.segments (all_map _ _ same d.segments w.0.below)) ∙ v.0, gives_same K L f g same ds w.1 v.1)

module _ (K L : ℕ) (ds : List Droplet) (file marks : List ℕ) (ok : Peelable K L ds file marks) (bytes : All (λ d. AllBytes d.payload) ds) where
  pub whole : present K (state_after K L ds file marks).marks ≡ K
      → (contradictions L ds (state_after K L ds file marks) ≡ 0) ↔ ((g : List ℕ) × IsFile K L g × GivesAll L g ds)
  whole p =
      let st = state_after K L ds file marks in
      let full = present-all K st.marks p in
      let none = contradictions-none K L st full ds ok.droplets in (
        (λ z. (
          take (K * L) st.file,
          record {
            size = length-take-le (K * L) st.file (peel_all-sized K L ds file marks ok).file;
            bytes = joined_bytes K L st.file (segments-bytes K L ds file marks ok bytes);
          },
          gives_same K L st.file (take (K * L) st.file)
              (λ i b. sym (segment-front L st.file (K * L) i (omega (arith, mul-le-mul_right L b)))) ds ok.droplets (none.0 z),
        )),
        λ t. none.1 (gives_same K L t.0 st.file (λ i b. sym (present_right K L t.0 ds file marks ok t.2 i b (full i b))) ds ok.droplets t.2),
      )
