-- What the questions 9 to 13 said of a read that they let through: its codeword, and that it is within R/2 bytes. Assumes nothing.
use mathlib.Core.Path.{◌≡◌, refl, ap, ◌∙◌}
use mathlib.Core.Bool.{true, false}
use mathlib.Core.List.{List}
use mathlib.Core.Logic.{inl, inr}
use Prim.Native.Nat.{ℕ, ◌*◌}
use native.Mathlib.Omega.{arith}
use borrow.Author.Tests.{eqb-true}
use lib.Dec.{eqb}
use lib.ListN.{length}
use Rattle.field.proofs.Tests.{either}
use Rattle.field.proofs.Syndromes.{checks-bounds}
use Rattle.droplet.specs.declared.card.Card.{Card}
use Rattle.droplet.specs.PoolCard.{strand_bytes, strand_bases}
use Rattle.correction.specs.Correction.{distance, Corrected, codeword, none, corrected, Near}
use Rattle.correction.proofs.ExactCorrection.{corrects-exactly}
use Rattle.screen.specs.Letters.{all_letters, letters_word}
use Rattle.screen.specs.Screen.{screen_passes}
use Rattle.screen.proofs.Spelling.{spelled-bytes, spelled-length}
use Rattle.strand.specs.ReadCheck.{droplet, refused, word_seed, word_payload, strand_reading, corrected_reading, word_reading, letters_reading}
use Rattle.strand.specs.Loops.{InRange}
use Rattle.strand.proofs.ReadingCases.{strand-fits}
use Rattle.strand.proofs.CodewordParts.{payload-size}

pub not-refused : {n s k : ℕ} {p : List ℕ} → refused n ≡ droplet s p k → ⊥
not-refused e = let z : ◌≡◌ {A = ℕ} 0 1 = cc in omega arith

-- 12 and 13, of a codeword
pub record StrandThrough (c : Card) (word : List ℕ) (seed : ℕ) (p : List ℕ) : Type 0 where
  pub nonzero : eqb (word_seed word) 0 ≡ false
  pub passes : screen_passes c word ≡ true
  pub seed-is : word_seed word ≡ seed
  pub payload-is : word_payload c word ≡ p

strand-through : (c : Card) (word : List ℕ) (j seed : ℕ) (p : List ℕ) (k : ℕ) → strand_reading c word j ≡ droplet seed p k
    → StrandThrough c word seed p × (j ≡ k)
unfolding strand_reading
strand-through c word j seed p k reads =
    elim (either (eqb (word_seed word) 0)) [
      | inl z ↦ absurd (not-refused (simp z at reads))
      | inr z ↦
          elim (either (screen_passes c word)) [
            | inr x ↦ absurd (not-refused (simp (z, x) at reads))
            | inl x ↦
                let same : droplet (word_seed word) (word_payload c word) j ≡ droplet seed p k = simp (z, x) at reads in
                (record { nonzero = z; passes = x; seed-is = cc same; payload-is = cc same }, cc same)
          ]
    ]

-- 11, of a word: the codeword, which is as far from it as was answered
pub record WordThrough (c : Card) (read_word : List ℕ) (seed : ℕ) (p : List ℕ) (k : ℕ) : Type 0 where
  pub word : List ℕ
  pub found : corrected c.r read_word ≡ codeword word k
  pub through : StrandThrough c word seed p

module _ (c : Card) (read_word : List ℕ) (seed : ℕ) (p : List ℕ) (k : ℕ) where
  word-answer : (a : Corrected) → corrected c.r read_word ≡ a → corrected_reading c a ≡ droplet seed p k → WordThrough c read_word seed p k
  word-answer (codeword word j) e reads =
      let through = strand-through c word j seed p k reads in
      record { word = word; found = e ∙ ap (codeword word) through.1; through = through.0 }
  word-answer none e reads = absurd (not-refused reads)

  word-through : word_reading c read_word ≡ droplet seed p k → WordThrough c read_word seed p k
  unfolding word_reading
  word-through = word-answer (corrected c.r read_word) refl

-- 9 and 10, of the letters
pub record LetThrough (c : Card) (read : List ℕ) (seed : ℕ) (p : List ℕ) (k : ℕ) : Type 0 where
  pub bases : length read ≡ 4 * strand_bytes c
  pub all : all_letters read ≡ true
  pub through : WordThrough c (letters_word read) seed p k

module _ (c : Card) (read : List ℕ) (seed : ℕ) (p : List ℕ) (k : ℕ) (reads : letters_reading c read ≡ droplet seed p k) where
  pub let_through : LetThrough c read seed p k
  unfolding letters_reading
  let_through =
      elim (either (eqb (length read) (strand_bases c))) [
        | inr n ↦ absurd (not-refused (simp n at reads))
        | inl n ↦
            elim (either (all_letters read)) [
              | inr l ↦ absurd (not-refused (simp (n, l) at reads))
              | inl l ↦
                  record {
                    bases = omega (arith, eqb-true (length read) (strand_bases c) n);
                    all = l;
                    through = word-through c (letters_word read) seed p k (simp (n, l) at reads);
                  }
            ]
      ]

  module _ (range : InRange c) where
    spelled : length (letters_word read) ≡ strand_bytes c
    spelled = spelled-length (strand_bytes c) read let_through.bases

    -- the codeword: within R/2 bytes, and k bytes away
    pub word : List ℕ
    word = let_through.through.word

    pub word-said : StrandThrough c word seed p
    unfolding word
    word-said = let_through.through.through

    pub near : Near c.r (letters_word read) word × (distance word (letters_word read) ≡ k)
    unfolding word
    near =
        let small = (strand-fits c range).1 in
        ((corrects-exactly c.r (letters_word read) (checks-bounds range.check_count).1 (omega (arith, spelled)) (spelled-bytes read)).found word k).0
        let_through.through.found

    pub word_size : length word ≡ strand_bytes c
    word_size = near.0.size ∙ spelled

    pub letters-payload : length p ≡ c.l
    unfolding word
    letters-payload = rw let_through.through.through.payload-is at (payload-size c word word_size)
