-- A step leaves the state as it is, or fills the one missing segment of its droplet. Assumes nothing.
use mathlib.Core.Path.{◌≡◌, refl, sym, ap, ◌∙◌}
use mathlib.Core.Bool.{false}
use mathlib.Core.List.{List, [], ◌∷◌}
use Prim.Native.Nat.{ℕ, ◌+◌, ◌*◌, ◌≤◌, ◌<◌}
use native.Mathlib.Nat.{mul-le-mul_right}
use native.Mathlib.Omega.{arith}
use lib.ListN.{length, length-set}
use Rattle.field.specs.Bytes.{xor_lists}
use Rattle.field.proofs.ByteLists.{xor_lists-length}
use Rattle.droplet.specs.Droplet.{payload}
use Rattle.droplet.proofs.Payload.{payload-length}
use Rattle.decoder.specs.Restorer.{Droplet, State, marked, missing, known, filled, filled_by, step}
use Rattle.decoder.proofs.MissingSegments.{missing-one}
use Rattle.decoder.proofs.PlacedSegment.{placed-length}
use Rattle.decoder.proofs.PoolShapes.{IsDroplet, Sized}

pub data Stepped (L : ℕ) (d : Droplet) (st : State) : Type 0 where
  stays : step L d st ≡ st → (length (missing st.marks d.segments) ≡ 1 → ⊥) → Stepped L d st
  fills : (i : ℕ) → missing st.marks d.segments ≡ i ∷ [] → step L d st ≡ filled L d st i → Stepped L d st

pub step-cases : (L : ℕ) (d : Droplet) (st : State) → Stepped L d st
unfolding step filled_by
step-cases L d st = of (missing st.marks d.segments) refl
  where
    of : (l : List ℕ) → missing st.marks d.segments ≡ l → Stepped L d st
    of [] e = stays (ap (filled_by L d st) e) (rw e (omega arith))
    of (i ∷ []) e = fills i e (ap (filled_by L d st) e)
    of (i ∷ (j ∷ l)) e = stays (ap (filled_by L d st) e) (rw e (omega arith))

-- what a droplet fills its one missing segment with
abbrev pub filling : ℕ → Droplet → State → List ℕ
filling L d st = xor_lists d.payload (payload L st.file (known st.marks d.segments))

-- what is known where a droplet fills segment i
pub record Fill (K L : ℕ) (d : Droplet) (st : State) (i : ℕ) : Type 0 where
  pub droplet : IsDroplet K L d
  pub only : missing st.marks d.segments ≡ i ∷ []
  pub below : i < K
  pub unmarked : marked st.marks i ≡ false
  pub mark_fits : i < length st.marks
  pub place : i * L + L ≤ length st.file
  pub size : length (filling L d st) ≡ L

module _ (K L : ℕ) (d : Droplet) (st : State) (w : IsDroplet K L d) (s : Sized K L st) where
  pub fill_known : (i : ℕ) → missing st.marks d.segments ≡ i ∷ [] → Fill K L d st i
  fill_known i e =
      let one = missing-one st.marks K i d.segments w.below e in
      let sum = payload L st.file (known st.marks d.segments) in
      record {
        droplet = w;
        only = e;
        below = one.0;
        unmarked = one.1;
        mark_fits = omega (arith, one.0);
        place = omega (arith, mul-le-mul_right L one.0);
        size = xor_lists-length d.payload sum (w.size ∙ sym (payload-length L st.file (known st.marks d.segments))) ∙ w.size;
      }

  -- the sizes of the buffers stay
  pub step-sized : Sized K L (step L d st)
  unfolding filled
  step-sized =
      elim (step-cases L d st) [
        | stays e n ↦ rw e s
        | fills i e f ↦
            let fill = fill_known i e in
            rw f (record {
              marks = rw length-set s.marks;
              file = rw (placed-length L st.file i (filling L d st) fill.size fill.place) s.file;
            })
      ]
