-- What the functions that look for the wrong bytes of a word promise. A place is counted from the last byte, so that the byte at place p
-- stands for x^p. No sentence of a document stands here. Assumes nothing.
use Rattle.std.specs.Prelude.{◌≡◌, Bool, false, ◌&&◌, ◌||◌, List, ℕ, suc, ◌-◌, ◌<◌, ◌≤◌, eqb, leb, length, get_or, set}
use Rattle.std.specs.Int.Bits.{bit_xor}
use Rattle.field.specs.CheckBytes.{CheckCount, times_power, syndromes}
use Rattle.field.specs.Products.{field_product}
use Rattle.correction.specs.Correction.{all_zero}

-- the numbers of a list, 0 past its end
abbrev pub at : List ℕ → ℕ → ℕ
at l i = get_or l i 0

-- each of the first m numbers but the first is the one before it times a^p: so are the syndromes that one wrong byte at place p leaves
abbrev pub Fits : ℕ → (ℕ → ℕ) → ℕ → Type 0
Fits m s p = (i : ℕ) → suc i < m → s (suc i) ≡ times_power p (s i)

-- what syndromes leave where place p is taken out of them
unfoldable pub without : ℕ → (ℕ → ℕ) → ℕ → ℕ
without p s i = bit_xor (s (suc i)) (times_power p (s i))

-- whether y0, y1, y2 are the numbers after the first of the m numbers of s
unfoldable pub follows : ℕ → List ℕ → ℕ → ℕ → ℕ → Bool
follows m s y0 y1 y2 = eqb y0 (at s 1) && (leb m 2 || (eqb y1 (at s 2) && (leb m 3 || eqb y2 (at s 3))))

-- no place below n fits the m numbers of s
abbrev pub NoPlace : ℕ → List ℕ → ℕ → Type 0
NoPlace m s n = (k : ℕ) → k < n → Fits m (at s) k → ⊥

-- p is the first place below n that fits them
pub record FirstPlace (m : ℕ) (s : List ℕ) (n p : ℕ) : Type 0 where
  pub below : p < n
  pub before : NoPlace m s p
  pub here : Fits m (at s) p

-- the error locator of four syndromes without its division: square x^2 + linear x + constant is 0 at a^p, for each of the places p of two
-- wrong bytes
abbrev pub square_of : (ℕ → ℕ) → ℕ
square_of s = bit_xor (field_product (s 0) (s 2)) (field_product (s 1) (s 1))

abbrev pub square : List ℕ → ℕ
square s = square_of (at s)

abbrev pub linear : List ℕ → ℕ
linear s = bit_xor (field_product (at s 0) (at s 3)) (field_product (at s 1) (at s 2))

abbrev pub constant : List ℕ → ℕ
constant s = bit_xor (field_product (at s 1) (at s 3)) (field_product (at s 2) (at s 2))

-- one wrong byte is all that is looked for: with R = 2 always, with R = 4 where there is no square term, which two wrong bytes would leave
abbrev pub single_error : ℕ → List ℕ → Bool
single_error R s = eqb R 2 || eqb (square s) 0

-- no place below n fits with a place below it
abbrev pub NoTwoPlaces : List ℕ → ℕ → Type 0
NoTwoPlaces s n = (k : ℕ) → k < n → (j : ℕ) → j < k → Fits 3 (without k (at s)) j → ⊥

-- p is the first place below n that fits with a place q below it, and `rest` the first number that p taken out leaves
pub record FirstTwo (s : List ℕ) (n p q rest : ℕ) : Type 0 where
  pub below : p < n
  pub before : NoTwoPlaces s p
  pub order : q < p
  pub here : Fits 3 (without p (at s)) q
  pub left : rest ≡ without p (at s) 0

-- the word with e XORed into its byte at place p
unfoldable pub changed : List ℕ → ℕ → ℕ → List ℕ
changed word p e = set word (length word - suc p) (bit_xor (at word (length word - suc p)) e)

-- a word of at most 255 bytes and its syndromes, not all 0
pub record Damaged (R : ℕ) (word s : List ℕ) : Type 0 where
  pub check_count : CheckCount R
  pub size : length word ≤ 255
  pub sums : s ≡ syndromes R word
  pub nonzero : all_zero s ≡ false
