-- What contracts and laws cite besides document 01's sentences: what picking a set asks and gives, a bitmap, a list XORed
-- into the front of another, and the XOR of one byte of each segment. Assumes nothing.
use Rattle.std.specs.Prelude.{◌≡◌, Bool, List, [], ◌∷◌, ◌++◌, ℕ, ◌+◌, ◌*◌, ◌/◌, ◌%◌, ◌^◌, ◌≤◌, ◌<◌, eqb, length, get_or, take, drop, set}
use Rattle.std.specs.Int.Bits.{bit_or, bit_xor}
use Rattle.field.specs.Bytes.{xor_lists}
use Rattle.droplet.specs.PoolCard.{weight_count, weight_sum}
use Rattle.droplet.specs.Droplet.{member, degree_of, segments_of}

-- what picking a set asks: weights that the questions let through, with their sum, and a list with a place for each degree
pub record Drawable (weights : List ℕ) (K sum : ℕ) (list : List ℕ) : Type 0 where
  pub short : length weights ≤ 4096
  pub summed : sum ≡ weight_sum weights
  pub positive : 1 ≤ weight_sum weights
  pub few : K ≤ 131072
  pub degrees : weight_count weights ≤ K
  pub places : weight_count weights ≤ length list

-- the set of a seed stands in the first places of a list, and the others are as they were; its degree is d
pub record Picked (weights : List ℕ) (K seed d : ℕ) (before after : List ℕ) : Type 0 where
  pub degree : d ≡ degree_of weights seed
  pub placed : after ≡ segments_of weights K seed ++ drop d before

-- bit x of a list of words of 64 bits, and the list with that bit set
unfoldable pub bit_at : List ℕ → ℕ → Bool
bit_at words x = eqb (get_or words (x / 64) 0 / 2 ^ (x % 64) % 2) 1

unfoldable pub with_bit : List ℕ → ℕ → List ℕ
with_bit words x = set words (x / 64) (bit_or (get_or words (x / 64) 0) (2 ^ (x % 64)))

-- of the numbers that the words have a bit for, those of a list are set, and no others
pub record Marked (words list : List ℕ) : Type 0 where
  pub at : (x : ℕ) → x / 64 < length words → bit_at words x ≡ member x list

-- p with q XORed into its front
unfoldable pub xor_front : List ℕ → List ℕ → List ℕ
xor_front p q = xor_lists (take (length q) p) q ++ drop (length q) p

-- the XOR of byte j of each segment of a set
unfoldable pub byte_sum : ℕ → List ℕ → ℕ → List ℕ → ℕ
byte_sum L file j [] = 0
byte_sum L file j (s ∷ set) = bit_xor (get_or file (s * L + j) 0) (byte_sum L file j set)
