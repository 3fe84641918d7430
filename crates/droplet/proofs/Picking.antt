-- The loop that writes the set of segments into a list: where it begins, a turn, and its end. Assumes nothing.
use mathlib.Core.Path.{◌≡◌, refl, sym, ◌∙◌}
use mathlib.Core.Bool.{true, false}
use mathlib.Core.List.{List, [], ◌∷◌, ◌++◌}
use Prim.Native.Nat.{ℕ, suc, ◌+◌, ◌-◌, ◌%◌, ◌≤◌, ◌<◌, zero-le}
use native.Mathlib.Nat.{add-zero, sub-zero, sub_self}
use native.Mathlib.Numerals.{add-one}
use native.Mathlib.Omega.{arith}
use lib.ListN.{length, take, drop, set, take-append-drop, length-set}
use lib.Seq.{take-suc-set, drop-set-lt}
use Rattle.field.specs.declared.generator.Draw.{Draw}
use Rattle.field.specs.Generator.{after_draw, number_drawn}
use Rattle.droplet.specs.Droplet.{member, joining, pick_from}

-- after i draws what has joined stands in the list's first i places, and the draws left make it the set
pub record Picking (k d : ℕ) (first : Draw) (lent : List ℕ) (state : Draw) (list : List ℕ) (i : ℕ) : Type 0 where
  pub at_most : i ≤ d
  pub long : length list ≡ length lent
  pub goes_on : pick_from (d - i) state (k - d + i) (take i list) ++ drop d list ≡ pick_from d first (k - d) [] ++ drop d lent

pub take_more : (l : List ℕ) (i s : ℕ) → i < length l → take (i + 1) (set l i s) ≡ take i l ++ (s ∷ [])
take_more l i s h = rw add-one (take-suc-set l i s h)

-- what joins, by a test
pub joins-taken : (set : List ℕ) (j t : ℕ) → member t set ≡ true → joining set j t ≡ j
joins-taken set j t e = rw e

pub joins-free : (set : List ℕ) (j t : ℕ) → member t set ≡ false → joining set j t ≡ t
joins-free set j t e = rw e

pick_next : (d i : ℕ) (state : Draw) (j : ℕ) (xs : List ℕ) → i < d
    → pick_from (d - i) state j xs
    ≡ pick_from (d - (i + 1)) (after_draw state) (suc j) (xs ++ (joining xs j (number_drawn (after_draw state) % (j + 1)) ∷ []))
unfolding pick_from
pick_next d i state j xs h =
    let e : d - i ≡ suc (d - (i + 1)) = omega arith in
    rw (e, add-one j)

module _ (k d : ℕ) (first : Draw) (lent : List ℕ) where
  pub picking-begins : Picking k d first lent first lent 0
  picking-begins = record { at_most = zero-le; long = refl; goes_on = rw (sub-zero, add-zero) }

  module _ (state : Draw) (list : List ℕ) (i : ℕ) (now : Picking k d first lent state list i) where
    pub picking-turns : (state' : Draw) (v s : ℕ) → d ≤ length lent → i < d → state' ≡ after_draw state → v ≡ number_drawn state'
        → s ≡ joining (take i list) (k - d + i) (v % (k - d + i + 1)) → Picking k d first lent state' (set list i s) (i + 1)
    picking-turns state' v s room h next drawn joins = record {
      at_most = omega arith;
      long = length-set list i s ∙ now.long;
      goes_on =
          let e : k - d + (i + 1) ≡ suc (k - d + i) = omega arith in
          rw (
            take_more list i s (omega arith),
            drop-set-lt d list i s h,
            joins,
            drawn,
            next,
            e,
            ← pick_next d i state (k - d + i) (take i list) h,
          )
          now.goes_on;
    }

    pub picking-ends : d ≤ i → list ≡ pick_from d first (k - d) [] ++ drop d lent
    unfolding pick_from
    picking-ends h =
        let e : i ≡ d = omega arith in
        let g = now.goes_on in
        sym (take-append-drop d list) ∙ rw (e, sub_self) at g
