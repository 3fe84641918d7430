-- Document 02, Item 14, "Dealing before cutting": a block interleaver. The file is written in lines of W bytes and read by columns;
-- column r holds the bytes whose place modulo W is r. Assumes nothing.
use Rattle.std.specs.Prelude.{Bool, cond, List, [], ◌∷◌, ◌++◌, ℕ, zero, suc, ◌+◌, ◌*◌, ◌/◌, ◌%◌, min, eqb, length, get_or}
use Rattle.field.specs.Bytes.{table_of}

-- of bytes that stand from a place of the file on, "all bytes whose place modulo W is" r, "in order"
unfoldable pub with_remainder : ℕ → ℕ → ℕ → List ℕ → List ℕ
with_remainder W r place [] = []
with_remainder W r place (b ∷ bytes) =
    cond (eqb (place % W) r) (b ∷ with_remainder W r (suc place) bytes) (with_remainder W r (suc place) bytes)

-- "first" those of remainder 0, "then those with 1, and so on": the first n columns
unfoldable pub first_columns : ℕ → ℕ → List ℕ → List ℕ
first_columns W zero file = []
first_columns W (suc n) file = first_columns W n file ++ with_remainder W n 0 file

-- all W columns: the dealt file
unfoldable pub interleave : ℕ → List ℕ → List ℕ
interleave W file = first_columns W W file

-- how many of F bytes stand in the columns before column r: where it begins in the interleaved file
unfoldable pub column_start : ℕ → ℕ → ℕ → ℕ
column_start W F r = r * (F / W) + min r (F % W)

-- where byte i of the file stands in the interleaved file: byte i / W of column i % W
unfoldable pub interleaved_place : ℕ → ℕ → ℕ → ℕ
interleaved_place W F i = column_start W F (i % W) + i / W

-- the inverse, undealing: byte i is taken from where it stands in the interleaved file
unfoldable pub deinterleave : ℕ → List ℕ → List ℕ
deinterleave W file = table_of (length file) (λ i. get_or file (interleaved_place W (length file) i) 0)

-- a file in one of the two directions: dealt, or a dealt one put back in order
unfoldable pub reordered : Bool → ℕ → List ℕ → List ℕ
reordered back W file = cond back (deinterleave W file) (interleave W file)
