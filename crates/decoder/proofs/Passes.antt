-- Whatever a step keeps, a pass and all passes together keep. Assumes nothing.
use mathlib.Core.Path.{◌≡◌, refl}
use mathlib.Core.Bool.{true, false}
use mathlib.Core.List.{List, [], ◌∷◌}
use mathlib.Core.Logic.{inl, inr}
use Prim.Native.Nat.{ℕ, zero, suc}
use lib.Dec.{eqb}
use Rattle.field.specs.Bytes.{All}
use Rattle.field.proofs.Tests.{either}
use Rattle.decoder.specs.Restorer.{Droplet, State, step, pass, present, peeled, peeled_state, peel, cleared, peel_all}

-- the clauses of `pass` and `peel`, as equations
pub pass-cons : (L : ℕ) (d : Droplet) (ds : List Droplet) (st : State) → pass L (d ∷ ds) st ≡ pass L ds (step L d st)
unfolding pass
pass-cons L d ds st = refl

module _ (fuel K L : ℕ) (ds : List Droplet) (done : ℕ) (st : State) where
  pub peel-stop : eqb (present K (pass L ds st).marks) (present K st.marks) ≡ true
      → peel (suc fuel) K L ds done st ≡ peeled (suc done) (pass L ds st)
  unfolding peel
  peel-stop e = rw (e, peel)

  pub peel-more : eqb (present K (pass L ds st).marks) (present K st.marks) ≡ false
      → peel (suc fuel) K L ds done st ≡ peel fuel K L ds (suc done) (pass L ds st)
  unfolding peel
  peel-more e = rw (e, peel)

module _ (L : ℕ) (Inv : State → Type 0) (P : Droplet → Type 0) (keeps : (d : Droplet) (st : State) → P d → Inv st → Inv (step L d st)) where
  pub pass-keeps : (ds : List Droplet) (st : State) → All P ds → Inv st → Inv (pass L ds st)
  unfolding pass
  pass-keeps [] st h i = i
  pass-keeps (d ∷ ds) st h i = pass-keeps ds (step L d st) h.1 (keeps d st h.0 i)

  pub peel-keeps : (fuel K : ℕ) (ds : List Droplet) (done : ℕ) (st : State) → All P ds → Inv st → Inv (peeled_state (peel fuel K L ds done st))
  unfolding peel
  peel-keeps zero K ds done st h i = i
  peel-keeps (suc fuel) K ds done st h i =
      let next = pass-keeps ds st h i in
      elim (either (eqb (present K (pass L ds st).marks) (present K st.marks))) [
        | inl e ↦ rw (peel-stop fuel K L ds done st e) next
        | inr e ↦ rw (peel-more fuel K L ds done st e) (peel-keeps fuel K ds (suc done) (pass L ds st) h next)
      ]

  pub peel_all-keeps : (K : ℕ) (ds : List Droplet) (file marks : List ℕ) → All P ds → Inv (cleared K L file marks)
      → Inv (peeled_state (peel_all K L ds file marks))
  unfolding peel_all
  peel_all-keeps K ds file marks = peel-keeps _ K ds 0 (cleared K L file marks)
