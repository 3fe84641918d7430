-- The numbers under which the read check refuses, of an accepted card: each a question's, and none above 13. Assumes nothing.
use mathlib.Core.Path.{◌≡◌, refl}
use mathlib.Core.Bool.{Bool, true, false, cond}
use mathlib.Core.List.{List}
use Prim.Native.Nat.{ℕ, ◌≤◌}
use native.Mathlib.Omega.{arith}
use lib.Dec.{eqb}
use lib.ListN.{length}
use Rattle.droplet.specs.declared.card.Card.{Card}
use Rattle.droplet.specs.PoolCard.{strand_bases}
use Rattle.droplet.specs.Questions.{card_refusal}
use Rattle.droplet.proofs.Refusals.{refusal_of, IsQuestion}
use Rattle.droplet.specs.Refusals.{refusal_number}
use Rattle.correction.specs.Correction.{Corrected, codeword, none, corrected}
use Rattle.screen.specs.Letters.{all_letters, letters_word}
use Rattle.screen.specs.Screen.{screen_passes}
use Rattle.strand.specs.ReadCheck.{Reading, droplet, refused, word_seed, strand_reading, corrected_reading, word_reading, letters_reading, read_check}

pub record Own (q : ℕ) : Type 0 where
  pub most : q ≤ 13
  pub question : IsQuestion q

abbrev pub OwnNumber : Reading → Type 0
OwnNumber (droplet s p k) = Unit {0}
OwnNumber (refused q) = Own q

own : (q : ℕ) → q ≤ 13 → refusal_number (refusal_of q) ≡ q → Own q
own q h e = record { most = h; question = record { back = e } }

-- of an answer by a test, each of its two cases
of_test : (b : Bool) (x y : Reading) → OwnNumber x → OwnNumber y → OwnNumber (cond b x y)
of_test true x y f g = f
of_test false x y f g = g

module _ (c : Card) (ws : List ℕ) (fine : card_refusal c ws ≡ 0) where
  word_number : (a : Corrected) → OwnNumber (corrected_reading c a)
  unfolding strand_reading
  word_number (codeword word k) =
      of_test (eqb (word_seed word) 0) _ _ (own 12 (omega arith) refl) (of_test (screen_passes c word) _ _ tt (own 13 (omega arith) refl))
  word_number none = own 11 (omega arith) refl

  pub read_number : (read : List ℕ) → OwnNumber (read_check c ws read)
  unfolding read_check letters_reading word_reading
  read_number read =
      rw fine
      (of_test (eqb (length read) (strand_bases c)) _ _
      (of_test (all_letters read) _ _ (word_number (corrected c.r (letters_word read))) (own 10 (omega arith) refl)) (own 9 (omega arith) refl))
