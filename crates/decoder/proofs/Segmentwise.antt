-- What is said of each segment apart (its number, whether it is marked, and its bytes) holds after a peeling if it holds
-- of unmarked zeros and of what a droplet fills. Assumes nothing.
use mathlib.Core.Bool.{Bool, true, false}
use mathlib.Core.List.{List}
use Prim.Native.Nat.{ℕ, ◌<◌}
use native.Mathlib.Decide.{ℕ_discrete}
use lib.ListN.{replicate}
use Rattle.field.specs.Bytes.{All}
use Rattle.droplet.specs.Droplet.{segment}
use Rattle.decoder.specs.Restorer.{Droplet, State, marked, filled}
use Rattle.decoder.proofs.MarkCounts.{marked-same, marked_other}
use Rattle.decoder.proofs.PlacedSegment.{placed_same, placed-other}
use Rattle.decoder.proofs.PoolShapes.{Peelable, state_after}
use Rattle.decoder.proofs.StepCases.{filling, Fill}
use Rattle.decoder.proofs.ClearedState.{cleared-marked, cleared-segment}
use Rattle.decoder.proofs.FillKeeps.{fills-keep}

-- Q of each segment
abbrev pub Each : ℕ → ℕ → (ℕ → Bool → List ℕ → Type 0) → State → Type 0
Each K L Q st = (i : ℕ) → i < K → Q i (marked st.marks i) (segment L st.file i)

module _ (K L : ℕ) (Q : ℕ → Bool → List ℕ → Type 0) (P : Droplet → Type 0)
    (right : (d : Droplet) (st : State) (i : ℕ) → Fill K L d st i → P d → Each K L Q st → Q i true (filling L d st)) where
  filled-each : (d : Droplet) (st : State) (i : ℕ) → Fill K L d st i → P d → Each K L Q st → Each K L Q (filled L d st i)
  unfolding filled
  filled-each d st i fill p h j b =
      elim (ℕ_discrete j i) [
        | yes q ↦
            rw (q, marked-same st.marks i fill.mark_fits, placed_same L st.file i (filling L d st) fill.size fill.place)
            (right d st i fill p h)
        | no q ↦
            rw (marked_other st.marks i j q, placed-other L st.file i (filling L d st) fill.size fill.place j q) (h j b)
      ]

  pub peel_all-each : (ds : List Droplet) (file marks : List ℕ) → Peelable K L ds file marks → All P ds
      → ((i : ℕ) → i < K → Q i false (replicate L 0)) → Each K L Q (state_after K L ds file marks)
  peel_all-each ds file marks ok p zeros =
      fills-keep K L (Each K L Q) P filled-each ds file marks ok p
      (λ i b. rw (cleared-marked K L file marks i b, cleared-segment K L file marks i b) (zeros i b))
