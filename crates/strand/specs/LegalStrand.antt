-- What the read check accepts, as document 02's Item 3 restates demand 2: "the strings accepted are those of n legal letters within R/2 bytes
-- of a legal strand, and its seed and payload come back". Assumes nothing.
use Rattle.std.specs.Prelude.{◌≡◌, true, List, ◌↔◌, ℕ, ◌/◌, ◌^◌, ◌<◌, ◌≤◌, length}
use Rattle.field.specs.Bytes.{AllBytes}
use Rattle.droplet.specs.declared.card.Card.{Card}
use Rattle.droplet.specs.PoolCard.{strand_bases}
use Rattle.droplet.specs.Questions.{card_refusal}
use Rattle.correction.specs.Correction.{sums_zero, distance, Near}
use Rattle.screen.specs.Letters.{all_letters, letters_word, word_letters}
use Rattle.screen.specs.Screen.{screen_passes}
use Rattle.strand.specs.ReadCheck.{droplet, refused, word_seed, read_check, strand_word}

-- "A string is a legal strand if questions 9 to 13, as they are written below, all say yes of it" (document 01, where 11 is "Check sums all
-- 0?"), under a card that is not refused
pub record IsLegal (c : Card) (weights string : List ℕ) : Type 0 where
  pub card : card_refusal c weights ≡ 0
  pub bases : length string ≡ strand_bases c
  pub letters : all_letters string ≡ true
  pub sums : sums_zero c.r (letters_word string) ≡ true
  pub nonzero : 0 < word_seed (letters_word string)
  pub screened : screen_passes c (letters_word string) ≡ true

-- the strand of seed, payload and check bytes is legal: the seed is not 0, the payload has L bytes, and the strand passes the screen
pub record LegalStrand (c : Card) (weights : List ℕ) (seed : ℕ) (payload : List ℕ) : Type 0 where
  pub card : card_refusal c weights ≡ 0
  pub nonzero : 0 < seed
  pub fits : seed < 2 ^ 32
  pub size : length payload ≡ c.l
  pub bytes : AllBytes payload
  pub screened : screen_passes c (strand_word c seed payload) ≡ true

-- the legal strings are the letters of such strands
abbrev pub LegalExactly : Type 0
LegalExactly = (c : Card) (weights string : List ℕ) → IsLegal c weights string
    ↔ ((seed : ℕ) × (payload : List ℕ) × LegalStrand c weights seed payload × (string ≡ word_letters (strand_word c seed payload)))

-- the number of bytes in which two strings of letters differ, four letters being a byte
abbrev pub bytes_apart : List ℕ → List ℕ → ℕ
bytes_apart strand read = distance (letters_word strand) (letters_word read)

-- a read of n legal letters that differs from a strand, of n letters too, in at most R/2 bytes
pub record NearStrand (c : Card) (strand read : List ℕ) : Type 0 where
  pub bases : length read ≡ strand_bases c
  pub letters : all_letters read ≡ true
  pub close : bytes_apart strand read ≤ c.r / 2

-- a read is near the legal strand of seed and payload, from which it differs in k bytes
pub record NearLegal (c : Card) (weights read : List ℕ) (seed : ℕ) (payload : List ℕ) (k : ℕ) : Type 0 where
  pub strand : LegalStrand c weights seed payload
  pub near : NearStrand c (word_letters (strand_word c seed payload)) read
  pub number : bytes_apart (word_letters (strand_word c seed payload)) read ≡ k

-- "Question 11 now says no exactly if there is no such word", asked of n legal letters
abbrev pub ElevenExactly : Type 0
ElevenExactly = (c : Card) (weights read : List ℕ) → card_refusal c weights ≡ 0 → length read ≡ strand_bases c → all_letters read ≡ true
    → (read_check c weights read ≡ refused 11) ↔ ((word : List ℕ) → Near c.r (letters_word read) word → ⊥)

-- and what is accepted is just what is near to a legal strand, whose seed and payload come back
abbrev pub AcceptsExactly : Type 0
AcceptsExactly = (c : Card) (weights read : List ℕ) (seed : ℕ) (payload : List ℕ) (k : ℕ)
    → (read_check c weights read ≡ droplet seed payload k) ↔ NearLegal c weights read seed payload k
