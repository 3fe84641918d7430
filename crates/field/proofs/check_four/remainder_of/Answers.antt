-- What the search leaves. Assumes nothing.
use Rattle.std.proofs.Common.{◌≡◌, ℕ, ◌+◌, ◌%◌, List, ◌++◌, length, take, drop, ap, ◌∙◌, append_assoc, arith, length-append, length-drop, take-append-drop, drop_of_length-le}
use Rattle.std.specs.Slice.Iter.{chunks_exact_rest}
use lib.Seq.{take_at, drop_at}
use Rattle.field.specs.Bytes.{IsByte, AllBytes, from_big_endian, to_big_endian}
use Rattle.field.proofs.ByteLists.{all_from, all_take, all_drop}
use Rattle.field.proofs.BigEndian.{spelt_twice}
use Rattle.field.proofs.Remainders.{goes-from, goes_end, eight-turn}
use Rattle.field.proofs.check_four.remainder_of.Goals as goal

pub loop-eight-init : goal.loop-eight-init
loop-eight-init c =
    let w = c.args.word.now in
    let n = length w % 8 in
    let s = c.split_at.ensures in
    let i = c.into_iter-eight-iterator.ensures.into_iter_gives in
    let e = c.chunks_exact-eight-items.ensures in
    rw (i, e.rest, s.back) record {
      size = e.size;
      whole = simp length-drop (omega arith);
      bytes = all_drop IsByte n w (all_from IsByte w 0 (λ k h. omega (arith, c.type_inv.word k)));
      goes = goes-from w (take n w) (drop n w) c.start_of-r.result (take-append-drop n w) (rw s.front at c.start_of-r.ensures);
    }

-- a turn takes eight bytes off what is left
module _ (left eight left' : List ℕ) (e : left ≡ eight ++ left') (n : length eight ≡ 8) where
  whole-less : length left % 8 ≡ 0 → length left' % 8 ≡ 0
  whole-less h = let m : length left ≡ 8 + length left' = ap length e ∙ simp (length-append, n) in omega arith

  module _ (hs : AllBytes left) where
    bytes-less : AllBytes left'
    bytes-less = rw (drop_at eight left' 8 n) at (all_drop IsByte 8 (eight ++ left') (rw (← e) hs))

    both-spelt : (x y : ℕ) → x ≡ from_big_endian (take 4 eight) → y ≡ from_big_endian (take 4 (drop 4 eight))
        → left ≡ to_big_endian x ++ (to_big_endian y ++ left')
    both-spelt x y ex ey =
        let bytes : AllBytes eight = rw (take_at eight left' 8 n) at (all_take IsByte 8 (eight ++ left') (rw (← e) hs)) in
        e ∙ ap (λ (l : List ℕ). l ++ left') (spelt_twice eight x y n bytes ex ey) ∙ append_assoc (to_big_endian x) (to_big_endian y) left'

pub loop-eight-preserved : goal.loop-eight-preserved
loop-eight-preserved c =
    let l = c.loop-eight in
    let step = c.in-Some.ensures.steps in
    let n = step.1.1 ∙ l.invariant.size in
    record {
      size = step.0 ∙ l.invariant.size;
      whole = whole-less _ _ _ step.1.0 n l.invariant.whole;
      bytes = bytes-less _ _ _ step.1.0 n l.invariant.bytes;
      goes = rw (c.up_eight.ensures, c.up_four-high.ensures)
          (eight-turn c.args.word.now _ _ l.r c.number_at.result c.number_at-in-loop-eight.result
          (both-spelt _ _ _ step.1.0 n l.invariant.bytes _ _ c.number_at.ensures c.number_at-in-loop-eight.ensures) l.invariant.goes);
    }

pub returns : goal.returns
returns c =
    let l = c.loop-eight in
    let step = c.in-None.ensures.steps in
    goes_end c.args.word.now _ l.r (drop_of_length-le (chunks_exact_rest l.eight-iterator) {i = 0} (omega (arith, step.1.0))) l.invariant.goes
