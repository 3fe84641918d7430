-- All lines of a file, a band of them after another, and then the last line, which is short or empty. Assumes nothing.
use mathlib.Core.Path.{◌≡◌, ap}
use mathlib.Core.Bool.{Bool}
use mathlib.Core.List.{List}
use mathlib.Core.Logic.{inl, inr}
use Prim.Native.Nat.{ℕ, ◌+◌, ◌*◌, ◌/◌, ◌%◌, ◌^◌, ◌≤◌, ◌<◌}
use native.Mathlib.Nat.{add-mul, mul-le-mul_right, div-mul-le_self, div-add-mod', div-lt_iff_lt-mul, mod-lt}
use native.Mathlib.Omega.{arith}
use Rattle.interleave.specs.Moves.{FileMoved, InLines, Lines}
use Rattle.interleave.proofs.Remainders.{less-or-not}
use Rattle.interleave.proofs.Moved.{Together, file-then}

module _ (W F : ℕ) (least : 1 ≤ W) where
  -- ---- which bytes they are

  in_whole : (k j : ℕ) → k ≤ F / W → j / W < k → j < F
  in_whole k j h b =
      let m = mul-le-mul_right W h in
      let d = div-mul-le_self F W in
      let i = (div-lt_iff_lt-mul {k = W} {x = j} {y = k} least).0 b in
      omega arith

  in-last : (j : ℕ) → InLines W (F / W) 1 (F % W) j → j < F
  in-last j b =
      let from = b.from in
      let to = b.to in
      let left = b.left in
      let same : j / W * W ≡ F / W * W = ap (λ (n : ℕ). n * W) (omega arith) in
      let d = div-add-mod' j W in
      let e = div-add-mod' F W in
      omega arith

  -- a byte of the file that no whole line has
  rest-last : (j : ℕ) → j < F → F / W ≤ j / W → InLines W (F / W) 1 (F % W) j
  rest-last j h from =
      let d = div-add-mod' j W in
      let e = div-add-mod' F W in
      let m = mod-lt F {m = W} least in
      let s = add-mul (F / W) 1 W in
      let to : j / W < F / W + 1 = (div-lt_iff_lt-mul {k = W} {x = j} {y = F / W + 1} least).1 (omega arith) in
      let same : j / W * W ≡ F / W * W = ap (λ (n : ℕ). n * W) (omega arith) in
      record { from = from; to = to; left = omega arith }

  -- ---- what moving them asks

  module _ (small : W < 2 ^ 32) (short : F < 2 ^ 32) where
    pub band : (line lines : ℕ) → line + lines ≤ F / W → Lines W F line lines W
    band line lines h = record {
      least = least;
      small = small;
      short = short;
      most = omega arith;
      whole = omega arith;
      inside = λ j b. in_whole (line + lines) j h b.to;
    }

    pub last_line : {columns : ℕ} → columns ≤ F % W → Lines W F (F / W) 1 columns
    last_line h = record {
      least = least;
      small = small;
      short = short;
      most = (let m = mod-lt F {m = W} least in omega arith);
      whole = omega arith;
      inside = λ j b. in-last j (record { from = b.from; to = b.to; left = (let left = b.left in omega arith) });
    }

  -- ---- one after another

  more-lines : (line lines : ℕ) → Together (λ j. j / W < line) (InLines W line lines W) (λ j. j / W < line + lines)
  more-lines line lines = record {
    split = λ j b.
        elim (less-or-not (j / W) line) [
          | inl earlier ↦ inl earlier
          | inr from ↦ inr (record { from = from; to = b; left = mod-lt j least })
        ];
    first = λ j b. omega arith;
    second = λ j b. b.to;
  }

  with-last : Together (λ j. j / W < F / W) (InLines W (F / W) 1 (F % W)) (λ j. j < F)
  with-last = record {
    split = λ j b.
        elim (less-or-not (j / W) (F / W)) [
          | inl earlier ↦ inl earlier
          | inr from ↦ inr (rest-last j b from)
        ];
    first = λ j b. in_whole (F / W) j (omega arith) b;
    second = in-last;
  }

  module _ (back : Bool) {source before mid after : List ℕ} where
    pub band-turn : (line lines : ℕ) → line + lines ≤ F / W → FileMoved back W F (λ j. j / W < line) source before mid
        → FileMoved back W F (InLines W line lines W) source mid after → FileMoved back W F (λ j. j / W < line + lines) source before after
    band-turn line lines h =
        file-then back W F least (more-lines line lines) (λ j b. in_whole (line + lines) j h b) (λ j b c. let from = c.from in omega arith)

    pub last_turn : FileMoved back W F (λ j. j / W < F / W) source before mid → FileMoved back W F (InLines W (F / W) 1 (F % W)) source mid after
        → FileMoved back W F (λ j. j < F) source before after
    last_turn = file-then back W F least with-last (λ j b. b) (λ j b c. let from = c.from in omega arith)
