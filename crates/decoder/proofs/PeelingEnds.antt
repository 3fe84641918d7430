-- Peeling ends: each pass but the last fills a segment, and at the end no droplet has exactly one missing segment.
-- Assumes nothing.
use mathlib.Core.Path.{◌≡◌, sym, ◌∙◌}
use mathlib.Core.List.{List}
use mathlib.Core.Logic.{inl, inr}
use Prim.Native.Nat.{ℕ, zero, suc, ◌+◌, ◌≤◌, ◌<◌}
use native.Mathlib.Nat.{suc-add}
use native.Mathlib.Omega.{arith}
use borrow.Author.Tests.{eqb-true, eqb-false}
use lib.Dec.{eqb}
use Rattle.field.specs.Bytes.{All}
use Rattle.field.proofs.Tests.{either}
use Rattle.decoder.specs.Restorer.{Droplet, State, pass, present, peeled, peeled_passes, peeled_state, peel, cleared, peel_all}
use Rattle.decoder.proofs.MarkCounts.{present-most}
use Rattle.decoder.proofs.PoolShapes.{IsDroplet, Sized, Peelable, state_after}
use Rattle.decoder.proofs.StepCases.{step-sized}
use Rattle.decoder.proofs.Passes.{pass-keeps, peel-stop, peel-more}
use Rattle.decoder.proofs.ClearedState.{cleared-present, cleared-sized}
use Rattle.decoder.proofs.PassProgress.{Still, pass-grows, pass-still}

-- one more pass fills nothing and is the last, or "present" grows and peeling goes on
pub data NextPass (K L : ℕ) (ds : List Droplet) (st : State) : Type 0 where
  last : ((fuel done : ℕ) → peel (suc fuel) K L ds done st ≡ peeled (suc done) st) → Still ds st → NextPass K L ds st
  more : ((fuel done : ℕ) → peel (suc fuel) K L ds done st ≡ peel fuel K L ds (suc done) (pass L ds st))
      → present K st.marks < present K (pass L ds st).marks → Sized K L (pass L ds st) → NextPass K L ds st

module _ (K L : ℕ) (ds : List Droplet) (w : All (IsDroplet K L) ds) where
  pub next-pass : (st : State) → Sized K L st → NextPass K L ds st
  next-pass st s =
      let before = present K st.marks in
      let after = present K (pass L ds st).marks in
      let grows = pass-grows K L ds st w s in
      elim (either (eqb after before)) [
        | inl e ↦
            let still = pass-still K L ds st w s (eqb-true after before e) in
            last (λ fuel done. rw (peel-stop fuel K L ds done st e, still.0)) still.1
        | inr e ↦
            let fills = eqb-false after before e in
            more (λ fuel done. peel-more fuel K L ds done st e) (omega arith) (pass-keeps L (Sized K L) (IsDroplet K L) (step-sized K L) ds st w s)
      ]

  pub peel-still : (fuel done : ℕ) (st : State) → Sized K L st → K < fuel + present K st.marks → Still ds (peeled_state (peel fuel K L ds done st))
  peel-still zero done st s h = absurd (let z : ⊥ = omega (arith, present-most K st.marks) in z)
  peel-still (suc fuel) done st s h =
      elim (next-pass st s) [
        | last e still ↦ rw (e fuel done) still
        | more e grows sized ↦ rw (e fuel done) (peel-still fuel (suc done) (pass L ds st) sized (omega arith))
      ]

  pub peel-passes : (fuel done : ℕ) (st : State) → Sized K L st
      → peeled_passes (peel fuel K L ds done st) + present K st.marks ≤ done + present K (peeled_state (peel fuel K L ds done st)).marks + 1
  peel-passes zero done st s = unfold peel in omega arith
  peel-passes (suc fuel) done st s =
      elim (next-pass st s) [
        | last e still ↦ rw (e fuel done) (omega arith)
        | more e grows sized ↦ rw (e fuel done) (omega (arith, peel-passes fuel (suc done) (pass L ds st) sized))
      ]

  -- fuel past the last pass changes nothing
  pub peel-enough : (fuel spare done : ℕ) (st : State) → Sized K L st → K < fuel + present K st.marks
      → peel (fuel + spare) K L ds done st ≡ peel fuel K L ds done st
  peel-enough zero spare done st s h = absurd (let z : ⊥ = omega (arith, present-most K st.marks) in z)
  peel-enough (suc fuel) spare done st s h =
      rw (suc-add fuel spare)
      (elim (next-pass st s) [
        | last e still ↦ e (fuel + spare) done ∙ sym (e fuel done)
        | more e grows sized ↦
            e (fuel + spare) done ∙ peel-enough fuel spare (suc done) (pass L ds st) sized (omega arith) ∙ sym (e fuel done)
      ])

module _ (K L : ℕ) (ds : List Droplet) (file marks : List ℕ) (ok : Peelable K L ds file marks) where
  pub peel_all-still : Still ds (state_after K L ds file marks)
  unfolding peel_all
  peel_all-still = peel-still K L ds ok.droplets _ 0 (cleared K L file marks) (cleared-sized K L ds file marks ok) (omega arith)

  -- "at most the segments it answers as present, plus one"
  pub peel_all-passes : peeled_passes (peel_all K L ds file marks) ≤ present K (state_after K L ds file marks).marks + 1
  unfolding peel_all
  peel_all-passes =
      omega (arith, peel-passes K L ds ok.droplets (suc K) 0 (cleared K L file marks) (cleared-sized K L ds file marks ok), cleared-present K L file marks)

  -- the K + 1 passes that the definition allows are no limit
  pub peel_all-enough : (spare : ℕ) → peel (suc K + spare) K L ds 0 (cleared K L file marks) ≡ peel_all K L ds file marks
  unfolding peel_all
  peel_all-enough spare =
      peel-enough K L ds ok.droplets _ spare 0 (cleared K L file marks) (cleared-sized K L ds file marks ok) (omega arith)
