-- Whatever filling one missing segment keeps, a peeling keeps. Assumes nothing.
use mathlib.Core.List.{List}
use Prim.Native.Nat.{ℕ}
use Rattle.field.specs.Bytes.{All}
use Rattle.decoder.specs.Restorer.{Droplet, State, filled, step, cleared}
use Rattle.decoder.proofs.AllOf.{all_both}
use Rattle.decoder.proofs.PoolShapes.{IsDroplet, Sized, Peelable, state_after}
use Rattle.decoder.proofs.StepCases.{stays, fills, step-cases, Fill, fill_known, step-sized}
use Rattle.decoder.proofs.Passes.{peel_all-keeps}
use Rattle.decoder.proofs.ClearedState.{cleared-sized}

pub peel_all-sized : (K L : ℕ) (ds : List Droplet) (file marks : List ℕ) → Peelable K L ds file marks → Sized K L (state_after K L ds file marks)
peel_all-sized K L ds file marks ok =
    peel_all-keeps L (Sized K L) (IsDroplet K L) (step-sized K L) K ds file marks ok.droplets (cleared-sized K L ds file marks ok)

module _ (K L : ℕ) (Inv : State → Type 0) (P : Droplet → Type 0)
    (keeps : (d : Droplet) (st : State) (i : ℕ) → Fill K L d st i → P d → Inv st → Inv (filled L d st i)) where
  step-holds : (d : Droplet) (st : State) → IsDroplet K L d × P d → Sized K L st × Inv st → Sized K L (step L d st) × Inv (step L d st)
  step-holds d st w h = (
    step-sized K L d st w.0 h.0,
    elim (step-cases L d st) [
      | stays e n ↦ rw e h.1
      | fills i e f ↦ rw f (keeps d st i (fill_known K L d st w.0 h.0 i e) w.1 h.1)
    ],
  )

  pub fills-keep : (ds : List Droplet) (file marks : List ℕ) → Peelable K L ds file marks → All P ds → Inv (cleared K L file marks)
      → Inv (state_after K L ds file marks)
  fills-keep ds file marks ok p start =
      (peel_all-keeps L (λ st. Sized K L st × Inv st) (λ d. IsDroplet K L d × P d) step-holds K ds file marks
      (all_both (IsDroplet K L) P ds ok.droplets p) (cleared-sized K L ds file marks ok, start)).1
