-- `write_letters`: a turn writes the letters of one byte, and behind the last turn nothing is left. Assumes nothing.
use mathlib.Core.Path.{◌≡◌, ◌∙◌}
use mathlib.Core.List.{List, ◌++◌, append_assoc, append-nil}
use Prim.Native.Nat.{ℕ, ◌+◌, ◌*◌, ◌<◌, ◌≤◌}
use native.Mathlib.Numerals.{add-one}
use native.Mathlib.Omega.{arith}
use lib.ListN.{length, get_or, take, drop, drop_of_length-le}
use lib.Seq.{take_all, drop-cons}
use Rattle.std.proofs.lemmas.Slice.{take-put_mid}
use borrow.Rule.Slice.PartMut.{put_mid}
use Rattle.screen.specs.Letters.{byte_letters, word_letters}
use Rattle.screen.proofs.letters.write_letters.Goals as goal

module _ (word out : List ℕ) (i : ℕ) (room : length out ≡ 4 * length word)
    (now : take (4 * i) out ++ word_letters (drop i word) ≡ word_letters word) where
  -- a turn: four letters more
  turned : (k : ℕ) (four : List ℕ) → i < length word → four ≡ byte_letters (get_or word i 0)
      → take (4 * (i + 1)) (put_mid (4 * i) k out four) ++ word_letters (drop (i + 1) word) ≡ word_letters word
  unfolding word_letters byte_letters
  turned k four inside f =
      let m : 4 * (i + 1) ≡ 4 * i + length four = rw f (omega arith) in
      rw (take-put_mid (4 * i) k out four (4 * (i + 1)) m (omega arith), append_assoc, add-one, f) (rw (drop-cons word i 0 inside) at now)

  finished : length word ≤ i → out ≡ word_letters word
  unfolding word_letters
  finished h = rw (drop_of_length-le word h, take_all (4 * i) out (omega arith), append-nil) at now

pub loop-i-preserved : goal.loop-i-preserved
loop-i-preserved c =
    let l = c.loop-i in
    turned c.args.word.now l.out l.i (omega (arith, l.auto.out)) l.invariant _ _ c.loop-i-test.true (c.copy_from_slice.ensures.after ∙ c.byte_letters.ensures)

pub returns : goal.returns
returns c =
    let l = c.loop-i in
    finished c.args.word.now l.out l.i (omega (arith, l.auto.out)) l.invariant c.loop-i-test.false
