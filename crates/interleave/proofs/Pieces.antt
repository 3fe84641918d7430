-- Bytes of a file that stand a step apart, both in the file and in the interleaved file: copying them fits, and then they are moved.
-- Assumes nothing.
use mathlib.Core.Path.{◌≡◌}
use mathlib.Core.Bool.{Bool}
use mathlib.Core.List.{List}
use Prim.Native.Nat.{ℕ, ◌^◌, ◌≤◌, ◌<◌}
use native.Mathlib.Omega.{arith}
use lib.ListN.{length}
use Rattle.interleave.specs.Interleaving.{interleaved_place}
use Rattle.interleave.specs.Moves.{to_place, from_place, FileMoved, strided, Fits, StridedMoved}
use Rattle.interleave.proofs.Interleaving.{place-lt}
use Rattle.interleave.proofs.Moved.{moved_as}

-- the bytes of the set Q have the numbers below `count`, and stand there in the file and in the interleaved file
pub record Piece (W F : ℕ) (Q : ℕ → Type 0) (count i by at up : ℕ) : Type 0 where
  pub byte : ℕ → ℕ
  pub number : ℕ → ℕ
  pub least : 1 ≤ W
  pub inside : (j : ℕ) → Q j → j < F
  pub holds : (x : ℕ) → x < count → Q (byte x)
  pub below : (j : ℕ) → Q j → number j < count
  pub same : (j : ℕ) → Q j → byte (number j) ≡ j
  pub in-file : (x : ℕ) → x < count → strided i by x ≡ byte x
  pub in_place : (x : ℕ) → x < count → strided at up x ≡ interleaved_place W F (byte x)
  pub apart : (x : ℕ) → x < count → (1 ≤ by) × (1 ≤ up)
  pub small : (by ≤ 2 ^ 32) × (up ≤ 2 ^ 32)

module _ {W F : ℕ} {Q : ℕ → Type 0} {count i by at up : ℕ} (p : Piece W F Q count i by at up) where
  within : (x : ℕ) → x < count → p.byte x < F
  within x b = p.inside _ (p.holds x b)

  fits-file : (bytes : List ℕ) → F ≤ length bytes → Fits count i by bytes
  fits-file bytes enough = record {
    apart = λ x b. (p.apart x b).0;
    small = p.small.0;
    inside = λ x b. let e = p.in-file x b in let k = within x b in omega arith;
  }

  fits-place : (bytes : List ℕ) → F ≤ length bytes → Fits count at up bytes
  fits-place bytes enough = record {
    apart = λ x b. (p.apart x b).1;
    small = p.small.1;
    inside = λ x b. let e = p.in_place x b in let k = place-lt W p.least F _ (within x b) in omega arith;
  }

  pub piece-fits : (source target : List ℕ) → F ≤ length source → F ≤ length target
      → (Fits count i by source) × (Fits count i by target) × (Fits count at up source) × (Fits count at up target)
  piece-fits source target enough room = (fits-file source enough, fits-file target room, fits-place source enough, fits-place target room)

  pub piece-moved : (back : Bool) {source before after : List ℕ} → StridedMoved back count i by at up source before after
      → FileMoved back W F Q source before after
  unfolding to_place from_place
  piece-moved back =
      moved_as
      (λ j q.
      let b = p.below j q in
      record {
        index = p.number j;
        holds = b;
        goes = rw (p.in-file _ b, p.in_place _ b, p.same j q);
        comes = rw (p.in-file _ b, p.in_place _ b, p.same j q);
      })
      (λ x b. record { index = p.byte x; holds = p.holds x b; goes = rw (p.in-file x b, p.in_place x b); comes = rw (p.in-file x b, p.in_place x b) })
