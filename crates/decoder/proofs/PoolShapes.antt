-- What the laws over a peeling ask: droplets of a pool of K segments of L bytes, and buffers long enough. Assumes nothing.
use mathlib.Core.Path.{◌≡◌}
use mathlib.Core.List.{List}
use Prim.Native.Nat.{ℕ, ◌*◌, ◌≤◌, ◌<◌}
use lib.ListN.{length}
use Rattle.field.specs.Bytes.{All}
use Rattle.decoder.specs.Restorer.{Droplet, State, peeled_state, peel_all}

pub record IsDroplet (K L : ℕ) (d : Droplet) : Type 0 where
  pub below : All (λ s. s < K) d.segments
  pub size : length d.payload ≡ L

pub record Sized (K L : ℕ) (st : State) : Type 0 where
  pub marks : K ≤ length st.marks
  pub file : K * L ≤ length st.file

pub record Peelable (K L : ℕ) (ds : List Droplet) (file marks : List ℕ) : Type 0 where
  pub droplets : All (IsDroplet K L) ds
  pub file_fits : K * L ≤ length file
  pub marks_fit : K ≤ length marks

-- the file and the marks after a peeling
abbrev pub state_after : ℕ → ℕ → List Droplet → List ℕ → List ℕ → State
state_after K L ds file marks = peeled_state (peel_all K L ds file marks)
