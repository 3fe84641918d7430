-- Horner's rule: over two words after each other, linear over XOR, and within a byte. Assumes nothing.
use Rattle.std.proofs.Common.{◌≡◌, ℕ, zero, suc, ◌^◌, ◌<◌, List, [], ◌∷◌, ◌++◌, length, replicate, refl, ap, ◌∙◌, arith}
use lib.Bits.{bit_xor, xor_lt}
use Rattle.field.specs.Bytes.{AllBytes, xor_lists}
use Rattle.field.specs.CheckBytes.{times_power, horner}
use Rattle.field.proofs.Xor.{xors}
use Rattle.field.proofs.Powers.{power-xor, power_zero, power-lt}

pub horner-append : (i s : ℕ) (l m : List ℕ) → horner i s (l ++ m) ≡ horner i (horner i s l) m
unfolding horner
horner-append i s [] m = refl
horner-append i s (b ∷ bs) m = horner-append i (bit_xor (times_power i s) b) bs m

-- linear: the XOR of two words has the XOR of their values
pub horner-xor : (i u v : ℕ) (xs ys : List ℕ) → length xs ≡ length ys
    → horner i (bit_xor u v) (xor_lists xs ys) ≡ bit_xor (horner i u xs) (horner i v ys)
unfolding horner xor_lists
horner-xor i u v [] [] e = refl
horner-xor i u v [] (y ∷ ys) e = omega arith
horner-xor i u v (x ∷ xs) [] e = omega arith
horner-xor i u v (x ∷ xs) (y ∷ ys) e =
    let m : bit_xor (times_power i (bit_xor u v)) (bit_xor x y) ≡ bit_xor (bit_xor (times_power i u) x) (bit_xor (times_power i v) y) = simp (power-xor, xors) in
    ap (λ (w : ℕ). horner i w (xor_lists xs ys)) m
    ∙ horner-xor i (bit_xor (times_power i u) x) (bit_xor (times_power i v) y) xs ys (omega arith)

pub horner-zeros : (i n : ℕ) → horner i 0 (replicate n 0) ≡ 0
unfolding horner
horner-zeros i zero = refl
horner-zeros i (suc n) = ap (λ (y : ℕ). horner i (bit_xor y 0) (replicate n 0)) (power_zero i) ∙ horner-zeros i n

-- a first byte is the value so far
pub horner-first : (i b : ℕ) (bs : List ℕ) → horner i 0 (b ∷ bs) ≡ horner i b bs
unfolding horner
horner-first i b bs = ap (λ (y : ℕ). horner i (bit_xor y b) bs) (power_zero i)

pub turn-lt : (i a b : ℕ) → a < 2 ^ 8 → b < 2 ^ 8 → bit_xor (times_power i a) b < 2 ^ 8
turn-lt i a b ha hb = xor_lt 8 (times_power i a) b (power-lt i a ha) hb

pub horner-lt : (i a : ℕ) (l : List ℕ) → a < 2 ^ 8 → AllBytes l → horner i a l < 2 ^ 8
unfolding horner
horner-lt i a [] h hs = h
horner-lt i a (b ∷ bs) h hs = horner-lt i (bit_xor (times_power i a) b) bs (turn-lt i a b h hs.0) hs.1
