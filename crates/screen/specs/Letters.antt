-- Document 01, "Check bytes, letters, screen": letters. A base is a number of two bits. Assumes nothing.
use Rattle.std.specs.Prelude.{Bool, true, false, cond, ◌&&◌, List, [], ◌∷◌, ◌++◌, map, ℕ, ◌+◌, ◌*◌, ◌/◌, ◌%◌, eqb}
use Prim.Native.Char.{code}
use Prim.Native.String.{String, [] as []ᵗ, ◌∷◌ as ◌∷ᵗ◌}

-- "00 is A, 01 C, 10 G, 11 T": the letter of a base
unfoldable pub letter_of : ℕ → ℕ
letter_of base = cond (eqb base 0) 65 (cond (eqb base 1) 67 (cond (eqb base 2) 71 84))

-- what a letter is: the two bits of a base, or none
pub data Letter : Type 0 where
  Bits : ℕ → Letter
  Other : Letter

-- the base of a letter; "any other letter, N and small letters included, is refused"
unfoldable pub letter_bits : ℕ → Letter
letter_bits x = cond (eqb x 65) (Bits 0) (cond (eqb x 67) (Bits 1) (cond (eqb x 71) (Bits 2) (cond (eqb x 84) (Bits 3) Other)))

abbrev pub is_bits : Letter → Bool
is_bits (Bits b) = true
is_bits Other = false

abbrev pub bits_or0 : Letter → ℕ
bits_or0 (Bits b) = b
bits_or0 Other = 0

-- the letters of a quoted text, and the bases of letters
unfoldable pub text_letters : String → List ℕ
text_letters []ᵗ = []
text_letters (c ∷ᵗ text) = code c ∷ text_letters text

unfoldable pub letters_bases : List ℕ → List ℕ
letters_bases = map (λ x. bits_or0 (letter_bits x))

-- all of A, C, G, T
unfoldable pub all_letters : List ℕ → Bool
all_letters [] = true
all_letters (x ∷ xs) = is_bits (letter_bits x) && all_letters xs

-- "Two bits are one base, highest pair first": the four bases of a byte
unfoldable pub byte_bases : ℕ → List ℕ
byte_bases b = b / 64 % 4 ∷ b / 16 % 4 ∷ b / 4 % 4 ∷ b % 4 ∷ []

-- the bases of a word, and its letters
unfoldable pub word_bases : List ℕ → List ℕ
word_bases [] = []
word_bases (b ∷ bs) = byte_bases b ++ word_bases bs

unfoldable pub byte_letters : ℕ → List ℕ
byte_letters b = letter_of (b / 64 % 4) ∷ letter_of (b / 16 % 4) ∷ letter_of (b / 4 % 4) ∷ letter_of (b % 4) ∷ []

unfoldable pub word_letters : List ℕ → List ℕ
word_letters [] = []
word_letters (b ∷ bs) = byte_letters b ++ word_letters bs

-- the byte of four letters, and the word that letters spell, four to a byte
unfoldable pub letters_byte : ℕ → ℕ → ℕ → ℕ → ℕ
letters_byte a b c d = ((bits_or0 (letter_bits a) * 4 + bits_or0 (letter_bits b)) * 4 + bits_or0 (letter_bits c)) * 4 + bits_or0 (letter_bits d)

unfoldable pub letters_word : List ℕ → List ℕ
letters_word [] = []
letters_word (a ∷ []) = []
letters_word (a ∷ (b ∷ [])) = []
letters_word (a ∷ (b ∷ (c ∷ []))) = []
letters_word (a ∷ (b ∷ (c ∷ (d ∷ rest)))) = letters_byte a b c d ∷ letters_word rest
