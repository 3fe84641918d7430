-- The read check's cases, one equation for each answer; the lengths of a word and of a read. Assumes nothing.
use mathlib.Core.Path.{◌≡◌}
use mathlib.Core.Bool.{true, false}
use mathlib.Core.List.{List}
use mathlib.Core.Logic.{⊎_elim}
use Prim.Native.Nat.{ℕ, ◌+◌, ◌*◌, ◌≤◌}
use native.Mathlib.Omega.{arith}
use borrow.Author.Tests.{eq-eqb, ne_eqb}
use lib.ListN.{length}
use Rattle.droplet.specs.declared.card.Card.{Card}
use Rattle.droplet.specs.PoolCard.{strand_bytes}
use Rattle.droplet.specs.Questions.{card_refusal}
use Rattle.correction.specs.Correction.{codeword, none, corrected}
use Rattle.screen.specs.Letters.{all_letters, letters_word}
use Rattle.screen.specs.Screen.{screen_passes}
use Rattle.strand.specs.ReadCheck.{word_seed, word_payload, strand_reading, word_reading, letters_reading, read_check}
use Rattle.strand.specs.ReadCheck.Reading.{droplet, refused}
use Rattle.strand.specs.Loops.{InRange, IsWord}

-- ---- lengths

pub strand-fits : (c : Card) → InRange c → (4 + c.l ≤ strand_bytes c) × (strand_bytes c ≤ 72)
unfolding strand_bytes
strand-fits c h =
    ⊎_elim (λ e. (omega (arith, h.l_most), omega (arith, h.l_most))) (λ e. (omega (arith, h.l_most), omega (arith, h.l_most))) h.check_count

pub word_fits : (c : Card) (word : List ℕ) → IsWord c word → (4 + c.l ≤ length word) × (length word ≤ 72)
word_fits c word h = rw h.long (strand-fits c h.card)

-- ---- 11

module _ (c : Card) (word : List ℕ) where
  pub case-11 : corrected c.r word ≡ none → word_reading c word ≡ refused 11
  unfolding word_reading
  case-11 e = rw e

  pub case-corrected : (v : List ℕ) (k : ℕ) → corrected c.r word ≡ codeword v k → word_reading c word ≡ strand_reading c v k
  unfolding word_reading
  case-corrected v k e = rw e

-- ---- 12 and 13

module _ (c : Card) (word : List ℕ) (k : ℕ) where
  pub case-12 : word_seed word ≡ 0 → strand_reading c word k ≡ refused 12
  unfolding strand_reading
  case-12 s = rw (eq-eqb _ _ s)

  pub case-13 : (word_seed word ≡ 0 → ⊥) → screen_passes c word ≡ false → strand_reading c word k ≡ refused 13
  unfolding strand_reading
  case-13 s p = rw (ne_eqb _ _ s, p)

  pub case-droplet : (word_seed word ≡ 0 → ⊥) → screen_passes c word ≡ true
      → strand_reading c word k ≡ droplet (word_seed word) (word_payload c word) k
  unfolding strand_reading
  case-droplet s p = rw (ne_eqb _ _ s, p)

-- ---- 9 and 10

module _ (c : Card) (read : List ℕ) where
  pub case-9 : (length read ≡ strand_bytes c * 4 → ⊥) → letters_reading c read ≡ refused 9
  unfolding letters_reading
  case-9 n = rw (ne_eqb _ _ n)

  pub case-10 : length read ≡ strand_bytes c * 4 → all_letters read ≡ false → letters_reading c read ≡ refused 10
  unfolding letters_reading
  case-10 n a = rw (eq-eqb _ _ n, a)

  pub case-word : length read ≡ strand_bytes c * 4 → all_letters read ≡ true → letters_reading c read ≡ word_reading c (letters_word read)
  unfolding letters_reading
  case-word n a = rw (eq-eqb _ _ n, a)

-- ---- 2 to 4 and 27

module _ (c : Card) (weights read : List ℕ) where
  pub case-card : (n : ℕ) → card_refusal c weights ≡ n → (n ≡ 0 → ⊥) → read_check c weights read ≡ refused n
  unfolding read_check
  case-card n e z = rw (e, ne_eqb _ _ z)

  pub case-letters : card_refusal c weights ≡ 0 → read_check c weights read ≡ letters_reading c read
  unfolding read_check
  case-letters e = rw e
