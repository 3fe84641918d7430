-- What the contracts of the loops cite besides document 02's sentences: which bytes of a list are moved where in another, and a part of
-- the file's lines. Assumes nothing.
use Rattle.std.specs.Prelude.{◌≡◌, Bool, cond, List, ℕ, ◌+◌, ◌*◌, ◌/◌, ◌%◌, ◌^◌, ◌≤◌, ◌<◌, length, get_or}
use Rattle.interleave.specs.Interleaving.{interleaved_place}

-- ---- both directions

-- where byte j of the file in order goes to, and where it comes from
unfoldable pub to_place : Bool → ℕ → ℕ → ℕ → ℕ
to_place back W F j = cond back j (interleaved_place W F j)

unfoldable pub from_place : Bool → ℕ → ℕ → ℕ → ℕ
from_place back W F j = cond back (interleaved_place W F j) j

-- ---- moves

-- for each j of a set, byte `from j` of the source now stands at place `to j`; all other places keep what they had
pub record Moved (to from : ℕ → ℕ) (P : ℕ → Type 0) (source before after : List ℕ) : Type 0 where
  pub moved : (j : ℕ) → P j → get_or after (to j) 0 ≡ get_or source (from j) 0
  pub kept : (p : ℕ) → ((j : ℕ) → P j → to j ≡ p → ⊥) → get_or after p 0 ≡ get_or before p 0
  pub long : length after ≡ length before

-- the same of the bytes of a file, in one of the directions
abbrev pub FileMoved : Bool → ℕ → ℕ → (ℕ → Type 0) → List ℕ → List ℕ → List ℕ → Type 0
FileMoved back W F = Moved (to_place back W F) (from_place back W F)

-- place x of those that stand `step` apart, from a first one on
unfoldable pub strided : ℕ → ℕ → ℕ → ℕ
strided first step x = first + x * step

-- the first `count` of them lie in a list and, if there are any, differ; the step is small, so that the place after the last one is
-- still a number of 64 bits
pub record Fits (count first step : ℕ) (bytes : List ℕ) : Type 0 where
  pub apart : (x : ℕ) → x < count → 1 ≤ step
  pub small : step ≤ 2 ^ 32
  pub inside : (x : ℕ) → x < count → strided first step x < length bytes

-- `count` bytes are moved: in the file they stand from i on, `by` apart, and in the interleaved file from `at` on, `up` apart
abbrev pub StridedMoved : Bool → ℕ → ℕ → ℕ → ℕ → ℕ → List ℕ → List ℕ → List ℕ → Type 0
StridedMoved back count i by at up =
    Moved (λ x. cond back (strided i by x) (strided at up x)) (λ x. cond back (strided at up x) (strided i by x)) (λ x. x < count)

-- ---- lines

-- byte j stands in one of `lines` lines, from line `line` on, and there in one of the first columns
pub record InLines (W line lines columns j : ℕ) : Type 0 where
  pub from : line ≤ j / W
  pub to : j / W < line + lines
  pub left : j % W < columns

-- such bytes lie in a file of F bytes
pub record Lines (W F line lines columns : ℕ) : Type 0 where
  pub least : 1 ≤ W
  pub small : W < 2 ^ 32
  pub short : F < 2 ^ 32
  pub most : columns ≤ W
  pub whole : line ≤ F / W
  pub inside : (j : ℕ) → InLines W line lines columns j → j < F
