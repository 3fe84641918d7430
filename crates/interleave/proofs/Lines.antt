-- The bytes of some lines, column by column: where a column's bytes stand, and a turn of the loop over the columns. Assumes nothing.
use mathlib.Core.Path.{◌≡◌}
use mathlib.Core.Bool.{Bool}
use mathlib.Core.List.{List}
use mathlib.Core.Logic.{inl, inr}
use Prim.Native.Nat.{ℕ, ◌+◌, ◌-◌, ◌*◌, ◌/◌, ◌%◌, ◌≤◌, ◌<◌}
use native.Mathlib.Nat.{add-mul, mul-le-mul_right, div-mul-le_self, div-add-mod'}
use native.Mathlib.Omega.{arith}
use lib.Dec.{lit≤}
use Rattle.interleave.specs.Interleaving.{column_start}
use Rattle.interleave.specs.Moves.{FileMoved, strided, StridedMoved, InLines, Lines}
use Rattle.interleave.proofs.Remainders.{remainder_of, quotient-of}
use Rattle.interleave.proofs.Interleaving.{place_of}
use Rattle.interleave.proofs.Moved.{Together, file-then}
use Rattle.interleave.proofs.Strides.{before-or-last}
use Rattle.interleave.proofs.Pieces.{Piece, piece-moved}

-- byte j stands in column r of these lines
pub record InColumn (W line lines r j : ℕ) : Type 0 where
  pub from : line ≤ j / W
  pub to : j / W < line + lines
  pub here : j % W ≡ r

more-columns : {W line lines r columns j : ℕ} → r ≤ columns → InLines W line lines r j → InLines W line lines columns j
more-columns h b = let left = b.left in record { from = b.from; to = b.to; left = omega arith }

its-column : {W line lines r columns j : ℕ} → r < columns → InColumn W line lines r j → InLines W line lines columns j
its-column h b = let here = b.here in record { from = b.from; to = b.to; left = omega arith }

one-column-more : (W line lines r : ℕ) → Together (InLines W line lines r) (InColumn W line lines r) (InLines W line lines (r + 1))
one-column-more W line lines r = record {
  split = λ j b.
      elim (before-or-last r (j % W) b.left) [
        | inl before ↦ inl (record { from = b.from; to = b.to; left = before })
        | inr last ↦ inr (record { from = b.from; to = b.to; here = last })
      ];
  first = λ j b. more-columns (omega arith) b;
  second = λ j b. its-column (omega arith) b;
}

module _ {W F line lines columns : ℕ} (l : Lines W F line lines columns) where
  -- the lines begin in the file
  pub lines_start : line * W ≤ F
  lines_start = let m = mul-le-mul_right W l.whole in let d = div-mul-le_self F W in omega arith

  module _ {r i at : ℕ} (h : r < columns) (first : i ≡ line * W + r) (start : at ≡ column_start W F r + line) where
    narrow : r < W
    narrow = let m = l.most in omega arith

    in-column : (x : ℕ) → x < lines → InColumn W line lines r (r + (line + x) * W)
    in-column x b =
        let q = quotient-of W r (line + x) narrow in
        record { from = omega arith; to = omega arith; here = remainder_of W r (line + x) narrow }

    -- its bytes are a line apart, and in the interleaved file they stand together
    pub column : Piece W F (InColumn W line lines r) lines i W at 1
    unfolding strided
    column = record {
      byte = λ x. r + (line + x) * W;
      number = λ j. j / W - line;
      least = l.least;
      inside = λ j b. l.inside j (its-column h b);
      holds = in-column;
      below = λ j b. let from = b.from in let to = b.to in omega arith;
      same = λ j b.
          let from = b.from in
          let here = b.here in
          let d = div-add-mod' j W in
          let q : line + (j / W - line) ≡ j / W = omega arith in
          rw q (omega arith);
      in-file = λ x b. omega (arith, add-mul line x W);
      in_place = λ x b. let p = place_of W l.least F r (line + x) narrow in omega arith;
      apart = λ x b. (l.least, omega arith);
      small = (let s = l.small in omega arith, lit≤ tt);
    }

    -- the columns before it, and then this one
    pub column-turn : (back : Bool) {source before mid after : List ℕ} → FileMoved back W F (InLines W line lines r) source before mid
        → StridedMoved back lines i W at 1 source mid after → FileMoved back W F (InLines W line lines (r + 1)) source before after
    column-turn back done m =
        file-then back W F l.least (one-column-more W line lines r) (λ j b. l.inside j (more-columns (omega arith) b))
        (λ j b c. let left = b.left in let here = c.here in omega arith)
        done
        (piece-moved column back m)
