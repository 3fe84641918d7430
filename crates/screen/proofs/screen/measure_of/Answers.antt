-- `measure_of` meets its contract: ten numbers have room for the matches of 72 bytes. Assumes nothing.
use mathlib.Core.Path.{◌≡◌, refl, sym, ◌∙◌}
use mathlib.Core.List.{List, [], ◌∷◌}
use Prim.Native.Nat.{ℕ}
use native.Mathlib.Omega.{arith}
use borrow.Author.Tests.{eqb-true}
use lib.ListN.{length}
use Rattle.screen.specs.Letters.{letter_bits, text_letters, letters_bases, word_bases}
use Rattle.screen.specs.Sites.{site_before, site_after}
use Rattle.screen.specs.Screen.{with_base, longest_of, order_of, longest_run, gc_count, measure_of}
use Rattle.screen.proofs.screen.measure_of.Goals as goal

empty : (word : List ℕ) → length word ≡ 0 → record { longest = 0; gc = 0 } ≡ measure_of word
unfolding word_bases site_before site_after text_letters letter_bits letters_bases with_base longest_of order_of longest_run gc_count measure_of
empty [] e = refl
empty (b ∷ bs) e = absurd (let z : ⊥ = omega arith in z)

pub returns-then-is_empty : goal.returns-then-is_empty
returns-then-is_empty c = empty _ (eqb-true _ _ (sym c.is_empty.ensures ∙ c.if-is_empty.true))
