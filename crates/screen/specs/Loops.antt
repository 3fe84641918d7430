-- What the contracts of private functions cite: a letter as a number, and the bases of a word as one number, with a flag for each that
-- matches. No sentence of document 01 stands here. Assumes nothing.
use Rattle.std.specs.Prelude.{◌≡◌, cond, Option, Some, None, ℕ, zero, suc, max, ◌≤◌, ◌<◌, ◌+◌, ◌*◌, ◌/◌, ◌%◌, ◌^◌, eqb, ltb, length}
use mathlib.Core.List.{List, [], ◌∷◌, foldl}
use Rattle.std.specs.Int.Bits.{bit_and, bit_xor}
use Rattle.screen.specs.Letters.{Letter, Bits, Other, letter_bits, all_letters, letters_byte}
use Rattle.screen.specs.Screen.{gc_count}

-- the letter that a number stands for: two bits, and 32 or more for none
unfoldable pub letter_in : ℕ → Letter
letter_in n = cond (ltb n 32) (Bits n) Other

-- a number for a letter or what is none
pub record Reads (x n : ℕ) : Type 0 where
  pub letter : letter_bits x ≡ letter_in n
  pub two_bits : n % 32 < 4
  pub small : n < 64

-- the byte of four letters, or none
unfoldable pub spelled : ℕ → ℕ → ℕ → ℕ → Option ℕ
spelled a b c d = cond (all_letters (a ∷ b ∷ c ∷ d ∷ [])) (Some (letters_byte a b c d)) None

-- ---- the bases of a word as one number, two bits to a base

-- a number with bytes behind it
unfoldable pub number_after : ℕ → List ℕ → ℕ
number_after n [] = n
number_after n (b ∷ bs) = number_after (n * 256 + b) bs

-- numbers of 64 bits as one number
unfoldable pub chunks_number : List ℕ → ℕ
chunks_number = foldl (λ n c. n * 2 ^ 64 + c) 0

-- the lower bit of each of k bases
unfoldable pub low_bits : ℕ → ℕ
low_bits zero = 0
low_bits (suc k) = low_bits k * 4 + 1

-- how many of a number's k last bases are C or G
unfoldable pub gc_in : ℕ → ℕ → ℕ
gc_in zero n = 0
gc_in (suc k) n = gc_in k (n / 4) + gc_count (n % 4 ∷ [])

-- a flag for each of the k last pairs of bits: set where both are 0
unfoldable pub zero_pairs : ℕ → ℕ → ℕ
zero_pairs zero d = 0
zero_pairs (suc k) d = zero_pairs k (d / 4) * 4 + cond (eqb (d % 4) 0) 1 0

-- a flag for each of the k last bases: set where it matches, which is to be equal to the base before it
abbrev pub matches : ℕ → ℕ → ℕ
matches k n = zero_pairs k (bit_xor n (n / 4))

-- k flags, each 0 or 1, two bits to a flag
unfoldable pub Flags : ℕ → ℕ → Type 0
Flags zero n = n ≡ 0
Flags (suc k) n = (n % 4 ≤ 1) × Flags k (n / 4)

-- the row of set flags at the end of k, and the longest row
unfoldable pub end_row : ℕ → ℕ → ℕ
end_row zero n = 0
end_row (suc k) n = cond (eqb (n % 4) 1) (suc (end_row k (n / 4))) 0

unfoldable pub longest_row : ℕ → ℕ → ℕ
longest_row zero n = 0
longest_row (suc k) n = max (longest_row k (n / 4)) (end_row (suc k) n)

-- of the set flags those that stand behind another
unfoldable pub thinned : ℕ → ℕ
thinned n = bit_and n (n / 4)

-- the matches of a word and the base after it, behind another base, as numbers of 64 bits; and how many of the word's are C or G
pub record MatchesOf (before : ℕ) (word : List ℕ) (after gc : ℕ) (chunks : List ℕ) : Type 0 where
  pub flags : chunks_number chunks ≡ matches (4 * length word + 1) (number_after before word * 4 + after)
  pub counts : gc ≡ gc_in (4 * length word) (number_after before word)
