-- `remainder_of` meets its contract: what is left of the word, a multiple of eight bytes, takes the number's values to the word's.
-- Assumes nothing.
use Rattle.std.proofs.Common.{◌≡◌, ◌%◌, length}
use Rattle.std.specs.Slice.Iter.{chunks_exact_rest, chunks_exact_size}
use Rattle.field.specs.Bytes.{AllBytes}
use Rattle.field.proofs.Remainders.{Goes}
use Rattle.field.proofs.check_four.remainder_of.Given as goal

abbrev pub invariant-loop-eight : goal.invariant-loop-eight
invariant-loop-eight l =
    let left = chunks_exact_rest l.eight-iterator in
    record {
      size : chunks_exact_size l.eight-iterator ≡ 8;
      whole : length left % 8 ≡ 0;
      bytes : AllBytes left;
      goes : Goes l.word l.r left;
    }
