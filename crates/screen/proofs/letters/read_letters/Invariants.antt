-- `read_letters` meets its contract. The invariant: all that was read so far are letters, and what is written, with the word
-- that the rest spells, is the word of the read. Assumes nothing.
use mathlib.Core.Path.{◌≡◌}
use mathlib.Core.List.{List, ◌++◌}
use Prim.Native.Nat.{ℕ, ◌*◌}
use lib.ListN.{length, take, drop}
use Rattle.screen.specs.Letters.{all_letters, letters_word}
use Rattle.screen.proofs.letters.read_letters.Given as goal

pub record Stands (read word₀ word : List ℕ) (i : ℕ) : Type 0 where
  pub long : length word ≡ length word₀
  pub letters : all_letters (drop (4 * i) read) ≡ all_letters read
  pub spells : take i word ++ letters_word (drop (4 * i) read) ≡ letters_word read

abbrev pub invariant-loop-i : goal.invariant-loop-i
invariant-loop-i l = Stands l.read l.initial.word l.word l.i
