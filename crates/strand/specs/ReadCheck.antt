-- Document 01, "Questions in their order": the read check, 2 to 4 and 27, then 9 to 13, and what it answers; with document 02's Item 3, by
-- which 11 asks for a codeword within R/2 bytes, and 12 and 13 are asked of that. Assumes nothing.
use Rattle.std.specs.Prelude.{◌≡◌, cond, List, ◌++◌, ℕ, eqb, length, take, drop, Result, Ok, Err}
use Rattle.field.specs.Bytes.{from_big_endian, to_big_endian, padded}
use Rattle.field.specs.CheckBytes.{parity}
use Rattle.droplet.specs.declared.card.Card.{Card}
use Rattle.droplet.specs.PoolCard.{strand_bases}
use Rattle.droplet.specs.Questions.{card_refusal}
use Rattle.correction.specs.Correction.{Corrected, codeword, none, corrected}
use Rattle.screen.specs.Letters.{all_letters, letters_word}
use Rattle.screen.specs.Screen.{screen_passes}
use Rattle.droplet.specs.declared.refusal.Refusal.{Refusal}
use Rattle.droplet.specs.Refusals.{refusal_number}
use Rattle.strand.specs.declared.read_check.ReadDroplet.{ReadDroplet}

-- what the read check says of a read: the droplet's seed, its L payload bytes and "the number of bytes mended", or the refusal number
pub data Reading : Type 0 where
  droplet : ℕ → List ℕ → ℕ → Reading
  refused : ℕ → Reading

-- "Seed (four bytes, most significant first), payload and R check bytes": the parts of a strand's word
abbrev pub word_seed : List ℕ → ℕ
word_seed word = from_big_endian (take 4 word)

abbrev pub word_payload : Card → List ℕ → List ℕ
word_payload c word = take c.l (drop 4 word)

-- "the seed and screen questions look at the mended strand": 12 and 13, asked of its word, in which k bytes were corrected
unfoldable pub strand_reading : Card → List ℕ → ℕ → Reading
strand_reading c word k =
    cond (eqb (word_seed word) 0) (refused 12)
    (cond (screen_passes c word) (droplet (word_seed word) (word_payload c word) k) (refused 13))

-- "Question 11 now says no exactly if there is no such word"
abbrev pub corrected_reading : Card → Corrected → Reading
corrected_reading c (codeword word k) = strand_reading c word k
corrected_reading c none = refused 11

-- 11 to 13, asked of the word that a read spells
unfoldable pub word_reading : Card → List ℕ → Reading
word_reading c word = corrected_reading c (corrected c.r word)

-- 9 and 10, asked of the letters, and then 11 to 13
unfoldable pub letters_reading : Card → List ℕ → Reading
letters_reading c read =
    cond (eqb (length read) (strand_bases c)) (cond (all_letters read) (word_reading c (letters_word read)) (refused 10)) (refused 9)

-- the read check
unfoldable pub read_check : Card → List ℕ → List ℕ → Reading
read_check c weights read = cond (eqb (card_refusal c weights) 0) (letters_reading c read) (refused (card_refusal c weights))

-- what the code answers
abbrev pub read_answer : Result ReadDroplet Refusal → Reading
read_answer (Ok d) = droplet d.seed d.payload d.corrected
read_answer (Err q) = refused (refusal_number q)

-- "a read check's payload is 64 bytes, those past L being 0"
abbrev pub in_64_bytes : Reading → Reading
in_64_bytes (droplet seed payload k) = droplet seed (padded 64 payload) k
in_64_bytes (refused n) = refused n

-- the promise of the read check
pub record Answers (reading : Reading) (r : Result ReadDroplet Refusal) : Type 0 where
  pub says : read_answer r ≡ in_64_bytes reading

-- "Seed, payload and R check bytes": the word of a strand
unfoldable pub strand_word : Card → ℕ → List ℕ → List ℕ
strand_word c seed payload = (to_big_endian seed ++ payload) ++ parity c.r (to_big_endian seed ++ payload)
