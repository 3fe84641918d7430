-- Both directions at once: which byte goes where, lengths and bytes are kept, and each direction undoes the other. Assumes nothing.
use mathlib.Core.Path.{◌≡◌, refl, ap, ◌∙◌}
use mathlib.Core.Bool.{Bool, true, false, not}
use mathlib.Core.List.{List}
use Prim.Native.Nat.{ℕ, ◌≤◌, ◌<◌}
use native.Mathlib.Omega.{arith}
use lib.ListN.{length, get_or}
use lib.Seq.{ext_get_or}
use Rattle.field.specs.Bytes.{IsByte, AllBytes}
use Rattle.field.proofs.ByteLists.{all-at, all_from}
use Rattle.interleave.specs.Interleaving.{reordered}
use Rattle.interleave.specs.Moves.{to_place, from_place}
use Rattle.interleave.specs.InterleaveRoundTrip.{InterleaveBack, DeinterleaveBack}
use Rattle.interleave.proofs.Interleaving.{place-lt, place-injective, located, interleave-length, interleave-at, deinterleave-length, deinterleave-at}

-- the byte that goes to place p
pub record Arrives (back : Bool) (W F p : ℕ) : Type 0 where
  pub byte : ℕ
  pub within : byte < F
  pub there : to_place back W F byte ≡ p

-- where one direction puts a byte the other finds it
to-is-from : (back : Bool) (W F j : ℕ) → from_place (not back) W F j ≡ to_place back W F j
unfolding to_place from_place
to-is-from true W F j = refl
to-is-from false W F j = refl

from-is-to : (back : Bool) (W F j : ℕ) → from_place back W F j ≡ to_place (not back) W F j
unfolding to_place from_place
from-is-to true W F j = refl
from-is-to false W F j = refl

module _ (W : ℕ) (least : 1 ≤ W) where
  -- ---- places

  pub to-lt : (back : Bool) (F j : ℕ) → j < F → to_place back W F j < F
  unfolding to_place
  to-lt true F j h = h
  to-lt false F j h = place-lt W least F j h

  pub from-lt : (back : Bool) (F j : ℕ) → j < F → from_place back W F j < F
  from-lt back F j h = rw (from-is-to back W F j) (to-lt (not back) F j h)

  pub to-injective : (back : Bool) (F j k : ℕ) → j < F → k < F → to_place back W F j ≡ to_place back W F k → j ≡ k
  unfolding to_place
  to-injective true F j k hj hk e = e
  to-injective false F j k hj hk e = place-injective W least F j k hj hk e

  -- every place is that of a byte
  pub arrives : (back : Bool) (F p : ℕ) → p < F → Arrives back W F p
  unfolding to_place
  arrives true F p h = record { byte = p; within = h; there = refl }
  arrives false F p h = let l = located W least F p h in record { byte = l.byte; within = l.within; there = l.there }

  -- ---- a file

  pub reordered-length : (back : Bool) (file : List ℕ) → length (reordered back W file) ≡ length file
  unfolding reordered
  reordered-length true file = omega (arith, interleave-length W least file, deinterleave-length W least file)
  reordered-length false file = omega (arith, interleave-length W least file, deinterleave-length W least file)

  pub reordered-at : (back : Bool) (file : List ℕ) (F j : ℕ) → length file ≡ F → j < F
      → get_or (reordered back W file) (to_place back W F j) 0 ≡ get_or file (from_place back W F j) 0
  unfolding reordered to_place from_place
  reordered-at true file F j l h = rw (← l) (deinterleave-at W least file j (omega arith))
  reordered-at false file F j l h = rw (← l) (interleave-at W least file j (omega arith))

  -- ---- what is kept

  pub reordered-bytes : (back : Bool) (file : List ℕ) → AllBytes file → AllBytes (reordered back W file)
  reordered-bytes back file h =
      all_from IsByte (reordered back W file) 0 (λ p b.
      let l = reordered-length back file in
      let at = arrives back (length file) p (omega arith) in
      let from = from-lt back (length file) at.byte at.within in
      rw (← at.there, reordered-at back file (length file) at.byte refl at.within) (all-at IsByte file 0 h _ from))

  -- ---- each direction undoes the other

  pub reordered-back : (back : Bool) (file : List ℕ) → reordered (not back) W (reordered back W file) ≡ file
  reordered-back back file =
      let l = reordered-length back file in
      let m = reordered-length (not back) (reordered back W file) in
      ext_get_or 0 (reordered (not back) W (reordered back W file)) file (m ∙ l) (λ p h.
      let F = length file in
      let at = arrives (not back) F p (omega arith) in
      let j = at.byte in
      rw (← at.there)
      (reordered-at (not back) (reordered back W file) F j l at.within ∙ ap (λ (q : ℕ). get_or (reordered back W file) q 0) (to-is-from back W F j)
      ∙ reordered-at back file F j refl at.within ∙ ap (λ (q : ℕ). get_or file q 0) (from-is-to back W F j)))

pub interleave-back : InterleaveBack
unfolding reordered
interleave-back W file least = reordered-back W least false file

pub deinterleave-back : DeinterleaveBack
unfolding reordered
deinterleave-back W file least = reordered-back W least true file
