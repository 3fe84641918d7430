-- What a peeling leaves alone: bytes past K-as-L and marks past K keep what they had, and missing segments are 0.
-- Assumes nothing.
use mathlib.Core.Path.{◌≡◌, refl, ◌∙◌}
use mathlib.Core.Bool.{false, true≢false}
use mathlib.Core.List.{List}
use Prim.Native.Nat.{ℕ, ◌*◌, ◌<◌}
use native.Mathlib.Nat.{mul-le-mul_right}
use native.Mathlib.Omega.{arith}
use lib.ListN.{drop, replicate, length-replicate}
use lib.Seq.{drop_at, drop-set-lt}
use Rattle.droplet.specs.Droplet.{segment}
use Rattle.decoder.specs.Restorer.{Droplet, State, marked, filled, cleared}
use Rattle.decoder.proofs.PlacedSegment.{placed_past}
use Rattle.decoder.proofs.PoolShapes.{IsDroplet, Peelable, state_after}
use Rattle.decoder.proofs.StepCases.{filling, Fill}
use Rattle.decoder.proofs.FillKeeps.{fills-keep}
use Rattle.decoder.proofs.Segmentwise.{peel_all-each}

-- "Bytes past K·L and past K keep what they had"
pub record SamePast (K L : ℕ) (file marks : List ℕ) (st : State) : Type 0 where
  pub bytes : drop (K * L) st.file ≡ drop (K * L) file
  pub flags : drop K st.marks ≡ drop K marks

module _ (K L : ℕ) (ds : List Droplet) (file marks : List ℕ) (ok : Peelable K L ds file marks) where
  filled-past : (d : Droplet) (st : State) (i : ℕ) → Fill K L d st i → IsDroplet K L d → SamePast K L file marks st → SamePast K L file marks (filled L d st i)
  unfolding filled
  filled-past d st i fill p h = record {
    bytes = placed_past L st.file i (filling L d st) fill.size fill.place (K * L) (omega (arith, mul-le-mul_right L fill.below)) ∙ h.bytes;
    flags = drop-set-lt K st.marks i 1 fill.below ∙ h.flags;
  }

  pub same-past : SamePast K L file marks (state_after K L ds file marks)
  unfolding cleared
  same-past =
      fills-keep K L (SamePast K L file marks) (IsDroplet K L) filled-past ds file marks ok ok.droplets
      (record {
        bytes = drop_at (replicate (K * L) 0) (drop (K * L) file) (K * L) (length-replicate (K * L) 0);
        flags = drop_at (replicate K 0) (drop K marks) K (length-replicate K 0);
      })

  pub missing-zero : (i : ℕ) → i < K → marked (state_after K L ds file marks).marks i ≡ false
      → segment L (state_after K L ds file marks).file i ≡ replicate L 0
  missing-zero =
      peel_all-each K L (λ i m bytes. m ≡ false → bytes ≡ replicate L 0) (IsDroplet K L) (λ d st i fill p h t. absurd (true≢false t))
      ds file marks ok ok.droplets (λ i b t. refl)
