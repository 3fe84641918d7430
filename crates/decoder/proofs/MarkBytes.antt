-- After a peeling each of the first K marks is 1 or 0, as its segment is present or missing. Assumes nothing.
use mathlib.Core.Path.{◌≡◌, refl}
use mathlib.Core.Bool.{cond}
use mathlib.Core.List.{List}
use Prim.Native.Nat.{ℕ, zero, suc, ◌≤◌, ◌<◌, zero-le}
use native.Mathlib.Nat.{le_refl}
use native.Mathlib.Decide.{ℕ_discrete}
use native.Mathlib.Omega.{arith}
use lib.Dec.{eqb}
use lib.ListN.{get_or}
use lib.Seq.{get_or-set_same, get_or-set_other}
use Rattle.decoder.specs.Restorer.{Droplet, State, marked, filled}
use Rattle.decoder.proofs.PoolShapes.{IsDroplet, Peelable, state_after}
use Rattle.decoder.proofs.StepCases.{Fill}
use Rattle.decoder.proofs.ClearedState.{cleared-mark}
use Rattle.decoder.proofs.FillKeeps.{fills-keep}

small-flag : (marks : List ℕ) (i : ℕ) → get_or marks i 0 ≤ 1 → get_or marks i 0 ≡ cond (marked marks i) 1 0
unfolding marked
small-flag marks i = go (get_or marks i 0)
  where
    go : (n : ℕ) → n ≤ 1 → n ≡ cond (eqb n 1) 1 0
    go zero h = refl
    go (suc zero) h = refl
    go (suc (suc n)) h = absurd (let z : ⊥ = omega arith in z)

module _ (K L : ℕ) (ds : List Droplet) (file marks : List ℕ) (ok : Peelable K L ds file marks) where
  abbrev Small : State → Type 0
  Small st = (i : ℕ) → i < K → get_or st.marks i 0 ≤ 1

  filled-small : (d : Droplet) (st : State) (i : ℕ) → Fill K L d st i → IsDroplet K L d → Small st → Small (filled L d st i)
  unfolding filled
  filled-small d st i fill p h j b =
      elim (ℕ_discrete j i) [
        | yes q ↦ rw (q, get_or-set_same st.marks i 1 0 fill.mark_fits) (le_refl 1)
        | no q ↦ rw (get_or-set_other st.marks i j 1 0 q) (h j b)
      ]

  pub mark-byte : (i : ℕ) → i < K → get_or (state_after K L ds file marks).marks i 0 ≡ cond (marked (state_after K L ds file marks).marks i) 1 0
  mark-byte i b =
      small-flag (state_after K L ds file marks).marks i
      (fills-keep K L Small (IsDroplet K L) filled-small ds file marks ok ok.droplets
      (λ j c. rw (cleared-mark K L file marks j c) zero-le) i b)
