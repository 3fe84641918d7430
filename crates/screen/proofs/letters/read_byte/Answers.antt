-- `read_byte` meets its contract: four numbers add up to less than 32 where each is two bits. Assumes nothing.
use mathlib.Core.Path.{◌≡◌, sym}
use mathlib.Core.Logic.{◌⊎◌, inl, inr}
use Prim.Native.Nat.{ℕ, ◌+◌, ◌*◌, ◌<◌, ◌≤◌}
use native.Mathlib.Omega.{arith}
use borrow.Author.Tests.{lt-ltb, le-ltb, ltb-true, ltb-false}
use lib.Dec.{ltb}
use Rattle.field.proofs.Tests.{either}
use Rattle.std.proofs.Common.{Some, None}
use Rattle.screen.specs.Letters.{Bits, Other, letter_bits, all_letters, letters_byte}
use Rattle.screen.specs.Loops.{letter_in, Reads, spelled}
use Rattle.screen.proofs.letters.read_byte.Goals as goal

module _ {x n : ℕ} (r : Reads x n) where
  is-letter : n < 32 → letter_bits x ≡ Bits n
  unfolding letter_in
  is-letter h = rw (lt-ltb n 32 h) at r.letter

  no_letter : 32 ≤ n → letter_bits x ≡ Other
  unfolding letter_in
  no_letter h = rw (le-ltb n 32 h) at r.letter

  either_way : (n < 32) ⊎ (32 ≤ n)
  either_way = elim (either (ltb n 32)) [ inl e ↦ inl (ltb-true n 32 e) | inr e ↦ inr (ltb-false n 32 e) ]

module _ {a b c d w x y z : ℕ} (p : Reads a w) (q : Reads b x) (r : Reads c y) (s : Reads d z) where
  is_byte : w + x + y + z < 32 → spelled a b c d ≡ Some (((w * 4 + x) * 4 + y) * 4 + z)
  unfolding spelled all_letters letters_byte
  is_byte h = rw (is-letter p (omega arith), is-letter q (omega arith), is-letter r (omega arith), is-letter s (omega arith))

  -- the first of the four that is no letter
  is-none : 32 ≤ w + x + y + z → spelled a b c d ≡ None
  unfolding spelled all_letters
  is-none h =
      elim (either_way p) [
        | inr e ↦ rw (no_letter p e)
        | inl i ↦ elim (either_way q) [
          | inr e ↦ rw (is-letter p i, no_letter q e)
          | inl j ↦ elim (either_way r) [
            | inr e ↦ rw (is-letter p i, is-letter q j, no_letter r e)
            | inl k ↦ rw (is-letter p i, is-letter q j, is-letter r k, no_letter s (omega arith))
          ]
        ]
      ]

pub returns-then-w-x-lt32 : goal.returns-then-w-x-lt32
returns-then-w-x-lt32 c =
    rw c.bases_byte.ensures
    (sym (is_byte c.letter_bits-w.ensures c.letter_bits-x.ensures c.letter_bits-y.ensures c.letter_bits-z.ensures c.if-w-x-lt32.true))

pub returns : goal.returns
returns c =
    sym (is-none c.letter_bits-w.ensures c.letter_bits-x.ensures c.letter_bits-y.ensures c.letter_bits-z.ensures c.if-w-x-lt32.false)
