-- Document 02, "Mending misread bytes" (Item 3), here error correction: the word that a read becomes. A word is a list of bytes; its
-- check sums are the syndromes of document 01. Assumes nothing.
use Rattle.std.specs.Prelude.{◌≡◌, Bool, true, cond, ◌&&◌, List, [], ◌∷◌, ◌↔◌, ℕ, zero, suc, ◌+◌, ◌/◌, ◌≤◌, eqb, length, set, Option, Some, None}
use Rattle.field.specs.Bytes.{AllBytes}
use Rattle.field.specs.CheckBytes.{Vanishes, syndromes}

abbrev pub all_zero : List ℕ → Bool
all_zero [] = true
all_zero (x ∷ xs) = eqb x 0 && all_zero xs

-- "Check sums all 0?": the word is a codeword
unfoldable pub sums_zero : ℕ → List ℕ → Bool
sums_zero R word = all_zero (syndromes R word)

-- 1 where two bytes differ
unfoldable pub differs : ℕ → ℕ → ℕ
differs x y = cond (eqb x y) 0 1

-- the number of bytes in which two words of one length differ
unfoldable pub distance : List ℕ → List ℕ → ℕ
distance [] ys = 0
distance (x ∷ xs) [] = 0
distance (x ∷ xs) (y ∷ ys) = differs x y + distance xs ys

-- a codeword and the number of bytes in which the read differs from it, or none
pub data Corrected : Type 0 where
  codeword : List ℕ → ℕ → Corrected
  none : Corrected

abbrev pub or_else : Corrected → Corrected → Corrected
or_else (codeword word k) other = codeword word k
or_else none other = other

-- the first of f 0, f 1, .., n of them, that is not none
unfoldable pub first_of : ℕ → (ℕ → Corrected) → Corrected
first_of zero f = none
first_of (suc n) f = or_else (f zero) (first_of n (λ k. f (suc k)))

-- the first codeword among `word` and the words that differ from it in at most t bytes, with its distance from the read
unfoldable pub within : ℕ → List ℕ → ℕ → List ℕ → Corrected
within R read zero word = cond (sums_zero R word) (codeword word (distance word read)) none
within R read (suc t) word =
    or_else (within R read t word) (first_of (length word) (λ j. first_of 256 (λ b. within R read t (set word j b))))

-- "A read of n legal letters becomes the word with all check sums 0 that differs from it in at most R/2 bytes"
unfoldable pub corrected : ℕ → List ℕ → Corrected
corrected R read = within R read (R / 2) read

-- ---- "one fact over R"

-- a word of bytes "with all check sums 0 that differs from it in at most R/2 bytes"
pub record Near (R : ℕ) (read word : List ℕ) : Type 0 where
  pub bytes : AllBytes word
  pub size : length word ≡ length read
  pub sums : Vanishes R word
  pub close : distance word read ≤ R / 2

-- what the definition comes to
pub record Exact (R : ℕ) (read : List ℕ) : Type 0 where
  -- there is at most one such word
  pub at_most_one : (word word' : List ℕ) → Near R read word → Near R read word' → word ≡ word'
  -- it is found, with the number of bytes in which it differs
  pub found : (word : List ℕ) (k : ℕ) → (corrected R read ≡ codeword word k) ↔ (Near R read word × (distance word read ≡ k))
  -- and none is found exactly if there is none
  pub missing : (corrected R read ≡ none) ↔ ((word : List ℕ) → Near R read word → ⊥)

-- for every R up to 4, and every read of at most 255 bytes
abbrev pub CorrectsExactly : Type 0
CorrectsExactly = (R : ℕ) (read : List ℕ) → R ≤ 4 → length read ≤ 255 → AllBytes read → Exact R read

-- ---- the promise of the code: its answer and the word at exit

abbrev pub answered : Option ℕ → List ℕ → Corrected
answered (Some k) word = codeword word k
answered None word = none

-- a read of which there is no such word stays as it is
abbrev pub word_after : Corrected → List ℕ → List ℕ
word_after (codeword word k) read = word
word_after none read = read

pub record Corrects (R : ℕ) (read : List ℕ) (r : Option ℕ) (word : List ℕ) : Type 0 where
  pub says : answered r word ≡ corrected R read
  pub leaves : word ≡ word_after (corrected R read) read
