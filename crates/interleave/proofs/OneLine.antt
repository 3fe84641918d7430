-- The bytes of one line, in order: in the interleaved file those of the longer columns and those of the others each stand a step apart.
-- Assumes nothing.
use mathlib.Core.Path.{◌≡◌, refl}
use mathlib.Core.Bool.{Bool}
use mathlib.Core.List.{List}
use mathlib.Core.Logic.{inl, inr}
use Prim.Native.Nat.{ℕ, ◌+◌, ◌-◌, ◌*◌, ◌/◌, ◌%◌, ◌^◌, ◌≤◌, ◌<◌, min}
use native.Mathlib.Nat.{mul-le-mul_right, div-le_self, div-add-mod'}
use native.Mathlib.Omega.{arith}
use lib.Dec.{lit≤}
use Rattle.interleave.specs.Interleaving.{column_start}
use Rattle.interleave.specs.Moves.{FileMoved, strided, StridedMoved, InLines, Lines}
use Rattle.interleave.proofs.Remainders.{less-or-not, remainder_of, quotient-of}
use Rattle.interleave.proofs.Columns.{start-zero, start-le, start-longer, start-shorter}
use Rattle.interleave.proofs.Interleaving.{place_of}
use Rattle.interleave.proofs.Moved.{Together, file-then}
use Rattle.interleave.proofs.Pieces.{Piece, piece-moved}

-- byte j stands in this line, in one of `count` columns, from column r on
pub record InPart (W line r count j : ℕ) : Type 0 where
  pub here : j / W ≡ line
  pub from : r ≤ j % W
  pub left : j % W < r + count

module _ {W F line columns : ℕ} (l : Lines W F line 1 columns) where
  -- ---- columns of one length

  in-line : {r count j : ℕ} → r + count ≤ columns → InPart W line r count j → InLines W line 1 columns j
  in-line fits b = let here = b.here in let left = b.left in record { from = omega arith; to = omega arith; left = omega arith }

  -- a byte of a shorter column is in a whole line, so there is one
  some-whole : (j : ℕ) → InLines W line 1 columns j → F % W ≤ j % W → 1 ≤ F / W
  some-whole j b shorter =
      elim (less-or-not (j / W) (F / W)) [
        | inl whole ↦ omega arith
        | inr last ↦
            let m = mul-le-mul_right W last in
            let d = div-add-mod' j W in
            let e = div-add-mod' F W in
            let i = l.inside j b in
            absurd (let z : ⊥ = omega arith in z)
      ]

  module _ (r count step : ℕ) (fits : r + count ≤ columns) {i at : ℕ} (first : i ≡ line * W + r) (start : at ≡ column_start W F r + line) where
    narrow : (x : ℕ) → x < count → r + x < W
    narrow x b = let m = l.most in omega arith

    in-part : (x : ℕ) → x < count → InPart W line r count (r + x + line * W)
    in-part x b =
        let e = remainder_of W (r + x) line (narrow x b) in
        record { here = quotient-of W (r + x) line (narrow x b); from = omega arith; left = omega arith }

    -- the bytes of these columns stand together, and in the interleaved file a column apart
    part : ((x : ℕ) → x < count → column_start W F (r + x) ≡ column_start W F r + x * step) → ((j : ℕ) → InPart W line r count j → 1 ≤ step)
        → step ≤ 2 ^ 32 → Piece W F (InPart W line r count) count i 1 at step
    unfolding strided
    part steps apart small = record {
      byte = λ x. r + x + line * W;
      number = λ j. j % W - r;
      least = l.least;
      inside = λ j b. l.inside j (in-line fits b);
      holds = in-part;
      below = λ j b. let from = b.from in let left = b.left in omega arith;
      same = λ j b. let from = b.from in let d = div-add-mod' j W in rw (← b.here) (omega arith);
      in-file = λ x b. omega arith;
      in_place = λ x b. let s = steps x b in let p = place_of W l.least F (r + x) line (narrow x b) in omega arith;
      apart = λ x b. (omega arith, apart _ (in-part x b));
      small = (lit≤ tt, small);
    }

  -- ---- the longer columns, and then the others

  module _ {longer : ℕ} (fewer : longer ≡ min columns (F % W)) where
    pub longer-start : longer * (F / W) + longer ≤ F
    unfolding column_start
    longer-start = let m = l.most in let s = start-le W F l.least longer (omega arith) in omega arith

    pub longer-part : Piece W F (InPart W line 0 longer) longer (line * W) 1 line (F / W + 1)
    longer-part =
        let z = start-zero W F in
        let d = div-le_self F W in
        let s = l.short in
        part 0 longer (F / W + 1) (omega arith) (omega arith) (omega arith) (λ x b. start-longer W F 0 x (omega arith)) (λ j b. omega arith) (omega arith)

    pub shorter-part : Piece W F (InPart W line longer (columns - longer)) (columns - longer)
        (line * W + longer) 1 (longer * (F / W) + longer + line) (F / W)
    unfolding column_start
    shorter-part =
        let d = div-le_self F W in
        let s = l.short in
        let fits : longer + (columns - longer) ≤ columns = omega arith in
        part longer (columns - longer) (F / W) fits refl (omega arith) (λ x b. start-shorter W F longer x (omega arith))
        (λ j b. let from = b.from in let left = b.left in some-whole j (in-line fits b) (omega arith))
        (omega arith)

    both-parts : Together (InPart W line 0 longer) (InPart W line longer (columns - longer)) (InLines W line 1 columns)
    both-parts = record {
      split = λ j b.
          let from = b.from in
          let to = b.to in
          let left = b.left in
          elim (less-or-not (j % W) longer) [
            | inl before ↦ inl (record { here = omega arith; from = omega arith; left = omega arith })
            | inr after ↦ inr (record { here = omega arith; from = after; left = omega arith })
          ];
      first = λ j b. in-line (omega arith) b;
      second = λ j b. in-line (omega arith) b;
    }

    pub line-moved : (back : Bool) {source before mid after : List ℕ} → StridedMoved back longer (line * W) 1 line (F / W + 1) source before mid
        → StridedMoved back (columns - longer) (line * W + longer) 1 (longer * (F / W) + longer + line) (F / W) source mid after
        → FileMoved back W F (InLines W line 1 columns) source before after
    line-moved back m n =
        file-then back W F l.least both-parts l.inside (λ j b c. let left = b.left in let from = c.from in omega arith)
        (piece-moved longer-part back m)
        (piece-moved shorter-part back n)
