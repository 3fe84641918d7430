-- A fill adds one to "present"; a pass never lowers it, and one that leaves it as it was changes nothing. Assumes nothing.
use mathlib.Core.Path.{◌≡◌, refl}
use mathlib.Core.List.{List, [], ◌∷◌}
use Prim.Native.Nat.{ℕ, suc, ◌≤◌}
use native.Mathlib.Nat.{le_refl}
use native.Mathlib.Omega.{arith}
use lib.ListN.{length}
use Rattle.field.specs.Bytes.{All}
use Rattle.decoder.specs.Restorer.{Droplet, State, missing, filled, step, pass, present}
use Rattle.decoder.proofs.MarkCounts.{present-more}
use Rattle.decoder.proofs.PoolShapes.{IsDroplet, Sized}
use Rattle.decoder.proofs.StepCases.{stays, fills, step-cases, fill_known, step-sized}
use Rattle.decoder.proofs.Passes.{pass-cons}

-- no droplet has exactly one missing segment
abbrev pub Still : List Droplet → State → Type 0
Still ds st = All (λ d. length (missing st.marks d.segments) ≡ 1 → ⊥) ds

module _ (K L : ℕ) where
  pub step-fills : (d : Droplet) (st : State) (i : ℕ) → IsDroplet K L d → Sized K L st → missing st.marks d.segments ≡ i ∷ []
      → step L d st ≡ filled L d st i → present K (step L d st).marks ≡ suc (present K st.marks)
  unfolding filled
  step-fills d st i w s e f =
      let fill = fill_known K L d st w s i e in
      rw f (present-more st.marks i K fill.below fill.mark_fits fill.unmarked)

  pub pass-grows : (ds : List Droplet) (st : State) → All (IsDroplet K L) ds → Sized K L st
      → present K st.marks ≤ present K (pass L ds st).marks
  pass-grows [] st w s = unfold pass in le_refl (present K st.marks)
  pass-grows (d ∷ ds) st w s =
      let later = pass-grows ds (step L d st) w.1 (step-sized K L d st w.0 s) in
      rw (pass-cons L d ds st)
      (elim (step-cases L d st) [
        | stays e n ↦ rw e (rw e at later)
        | fills i e f ↦ omega (arith, step-fills d st i w.0 s e f)
      ])

  -- a pass that leaves "present" as it was changes nothing, and no droplet had exactly one missing segment
  pub pass-still : (ds : List Droplet) (st : State) → All (IsDroplet K L) ds → Sized K L st
      → present K (pass L ds st).marks ≡ present K st.marks → (pass L ds st ≡ st) × Still ds st
  pass-still [] st w s h = unfold pass in (refl, tt)
  pass-still (d ∷ ds) st w s h =
      let same : present K (pass L ds (step L d st)).marks ≡ present K st.marks = rw (pass-cons L d ds st) at h in
      rw (pass-cons L d ds st)
      (elim (step-cases L d st) [
        | stays e n ↦
            let rest = pass-still ds st w.1 s (rw e at same) in
            rw e (rest.0, (n, rest.1))
        | fills i e f ↦
            let grows = pass-grows ds (step L d st) w.1 (step-sized K L d st w.0 s) in
            absurd (let z : ⊥ = omega (arith, step-fills d st i w.0 s e f) in z)
      ])
