-- Document 01, "Check bytes, letters, screen": the field, the check sums (syndromes) and the check bytes (parity).
-- A word is a list of bytes, "first byte the highest coefficient". Assumes nothing.
use Rattle.std.specs.Prelude.{◌≡◌, refl, ℕ, zero, suc, ◌<◌, Bool, true, false, ◌⊎◌, List, [], ◌∷◌, ◌++◌, replicate, bit_xor, nat_lt}
use mathlib.Core.List.{foldl}
use Rattle.field.specs.Bytes.{xor_lists}
use Rattle.field.specs.Shift.{shift_up}

-- "polynomial hex 11D" without its highest term
abbrev pub field_polynomial : ℕ
field_polynomial = 0x1D

-- R, the number of check bytes, is 2 or 4
abbrev pub CheckCount : ℕ → Type 0
CheckCount R = (R ≡ 2) ⊎ (R ≡ 4)

-- x times the root a = 2
unfoldable pub double : ℕ → ℕ
double = shift_up 7 field_polynomial

pub double-shifts : (x : ℕ) → double x ≡ shift_up 7 field_polynomial x
unfolding double
double-shifts x = refl

-- x times a^i
unfoldable pub times_power : ℕ → ℕ → ℕ
times_power zero x = x
times_power (suc i) x = times_power i (double x)

-- Horner's rule at a^i, where `acc` is the value of the bytes before
unfoldable pub horner : ℕ → ℕ → List ℕ → ℕ
horner i acc word = foldl (λ a b. bit_xor (times_power i a) b) acc word

-- the value of a word at a^i
abbrev pub value_at : ℕ → List ℕ → ℕ
value_at i word = horner i 0 word

-- the word "is 0 at a^0 .. a^(R-1)"
abbrev pub Vanishes : ℕ → List ℕ → Type 0
Vanishes R word = (i : ℕ) → i < R → value_at i word ≡ 0

abbrev pub or_zero : Bool → ℕ → ℕ
or_zero true n = n
or_zero false n = 0

-- check sum i, and 0 from R on
abbrev pub syndrome_at : ℕ → List ℕ → ℕ → ℕ
syndrome_at R word i = or_zero (nat_lt i R) (value_at i word)

-- the check sums: "they travel as four bytes, those past R being 0"
unfoldable pub syndromes : ℕ → List ℕ → List ℕ
syndromes R word = syndrome_at R word 0 ∷ syndrome_at R word 1 ∷ syndrome_at R word 2 ∷ syndrome_at R word 3 ∷ []

-- the coefficients after the first of (p x^n + l)(x + a^i), l having n of them
unfoldable pub by_root : ℕ → ℕ → List ℕ → List ℕ
by_root i p [] = times_power i p ∷ []
by_root i p (x ∷ xs) = bit_xor x (times_power i p) ∷ by_root i x xs

-- the coefficients after the first, f, of f times the generator polynomial (x + 1)(x + a) .. (x + a^(R-1))
unfoldable pub multiple : ℕ → ℕ → List ℕ
multiple zero f = []
multiple (suc r) f = by_root r f (multiple r f)

-- the remainder of long division by the generator polynomial, after one more byte
unfoldable pub remainder_after : ℕ → List ℕ → ℕ → List ℕ
remainder_after R [] b = []
remainder_after R (x ∷ xs) b = xor_lists (xs ++ (0 ∷ [])) (multiple R (bit_xor x b))

-- the R check bytes of a message
unfoldable pub parity : ℕ → List ℕ → List ℕ
parity R message = foldl (remainder_after R) (replicate R 0) message
