-- Bytes and letters: a word and its letters give each other back, and a word has four letters to a byte. Assumes nothing.
use mathlib.Core.Path.{◌≡◌, refl, sym, ap, ap₂}
use mathlib.Core.Bool.{Bool, true, false, cond, ◌&&◌}
use mathlib.Core.List.{List, [], ◌∷◌}
use Prim.Native.Nat.{ℕ, zero, suc, ◌+◌, ◌*◌, ◌/◌, ◌%◌, ◌^◌, ◌<◌}
use native.Mathlib.Nat.{mod-lt, zero-lt-suc}
use native.Mathlib.Omega.{arith}
use borrow.Author.Tests.{eqb-true}
use lib.Dec.{eqb, lit<}
use lib.ListN.{length}
use Rattle.field.specs.Bytes.{AllBytes}
use Rattle.screen.specs.Letters.{Bits, Other, letter_of, letter_bits, is_bits, bits_or0, all_letters, byte_bases, word_bases, byte_letters, word_letters, letters_byte, letters_word}

-- ---- one letter

pair_lt : (n : ℕ) → n % 4 < 4
pair_lt n = mod-lt n (zero-lt-suc 3)

letter-cases : (p q r s : Bool) → bits_or0 (cond p (Bits 0) (cond q (Bits 1) (cond r (Bits 2) (cond s (Bits 3) Other)))) < 4
letter-cases true q r s = lit< tt
letter-cases false true r s = lit< tt
letter-cases false false true s = lit< tt
letter-cases false false false true = lit< tt
letter-cases false false false false = lit< tt

-- a letter is two bits
base-lt : (x : ℕ) → bits_or0 (letter_bits x) < 4
unfolding letter_bits
base-lt x = letter-cases (eqb x _) (eqb x _) (eqb x _) (eqb x _)

-- the letter of a base spells it
base_back : (base : ℕ) → base < 4 → letter_bits (letter_of base) ≡ Bits base
unfolding letter_bits letter_of
base_back zero h = refl
base_back (suc zero) h = refl
base_back (suc (suc zero)) h = refl
base_back (suc (suc (suc zero))) h = refl
base_back (suc (suc (suc (suc n)))) h = absurd (let z : ⊥ = omega arith in z)

pub pair-back : (n : ℕ) → letter_bits (letter_of (n % 4)) ≡ Bits (n % 4)
pair-back n = base_back (n % 4) (pair_lt n)

-- a letter is that of its base
letter-cases-back : (x : ℕ) (p q r s : Bool) → (p ≡ true → x ≡ letter_of 0) → (q ≡ true → x ≡ letter_of 1) → (r ≡ true → x ≡ letter_of 2) → (s ≡ true → x ≡ letter_of 3)
    → (let l = cond p (Bits 0) (cond q (Bits 1) (cond r (Bits 2) (cond s (Bits 3) Other))) in is_bits l ≡ true → letter_of (bits_or0 l) ≡ x)
letter-cases-back x true q r s a c g t h = sym (a refl)
letter-cases-back x false true r s a c g t h = sym (c refl)
letter-cases-back x false false true s a c g t h = sym (g refl)
letter-cases-back x false false false true a c g t h = sym (t refl)
letter-cases-back x false false false false a c g t h = cc

letter-back : (x : ℕ) → is_bits (letter_bits x) ≡ true → letter_of (bits_or0 (letter_bits x)) ≡ x
unfolding letter_bits letter_of
letter-back x = letter-cases-back x _ _ _ _ (eqb-true x _) (eqb-true x _) (eqb-true x _) (eqb-true x _)

-- ---- four letters

byte-back : (b : ℕ) → b < 2 ^ 8
    → letters_byte (letter_of (b / 64 % 4)) (letter_of (b / 16 % 4)) (letter_of (b / 4 % 4)) (letter_of (b % 4)) ≡ b
unfolding letters_byte
byte-back b h =
    let e : b / 64 % 4 * 4 + b / 16 % 4 ≡ b / 16 = omega arith in
    let f : b / 16 * 4 + b / 4 % 4 ≡ b / 4 = omega arith in
    let g : b / 4 * 4 + b % 4 ≡ b = omega arith in
    simp (pair-back, e, f, g)

and_both : (a b : Bool) → (a && b) ≡ true → (a ≡ true) × (b ≡ true)
and_both true b e = (refl, e)
and_both false b e = (e, cc)

letters-cons : (x : ℕ) (xs : List ℕ) → all_letters (x ∷ xs) ≡ true → (is_bits (letter_bits x) ≡ true) × (all_letters xs ≡ true)
unfolding all_letters
letters-cons x xs = and_both (is_bits (letter_bits x)) (all_letters xs)

module _ (a b c d : ℕ) where
  abbrev n : ℕ
  n = ((a * 4 + b) * 4 + c) * 4 + d

  bases-back : a < 4 → b < 4 → c < 4 → d < 4 → (n / 64 % 4 ≡ a) × (n / 16 % 4 ≡ b) × (n / 4 % 4 ≡ c) × (n % 4 ≡ d)
  bases-back ha hb hc hd = (omega arith, omega arith, omega arith, omega arith)

letters-back : (a b c d : ℕ) → is_bits (letter_bits a) ≡ true → is_bits (letter_bits b) ≡ true → is_bits (letter_bits c) ≡ true
    → is_bits (letter_bits d) ≡ true → byte_letters (letters_byte a b c d) ≡ a ∷ b ∷ c ∷ d ∷ []
unfolding byte_letters letters_byte
letters-back a b c d ha hb hc hd =
    let e = bases-back (bits_or0 (letter_bits a)) (bits_or0 (letter_bits b)) (bits_or0 (letter_bits c)) (bits_or0 (letter_bits d)) (base-lt a) (base-lt b) (base-lt c) (base-lt d) in
    rw (e.0, e.1, e.2, e.3, letter-back a ha, letter-back b hb, letter-back c hc, letter-back d hd)

byte-lt : (a b c d : ℕ) → letters_byte a b c d < 2 ^ 8
unfolding letters_byte
byte-lt a b c d = omega (arith, base-lt a, base-lt b, base-lt c, base-lt d)

-- ---- words

-- a word is spelled by its letters
pub word_back : (w : List ℕ) → AllBytes w → letters_word (word_letters w) ≡ w
unfolding word_letters byte_letters letters_word
word_back [] h = refl
word_back (b ∷ bs) h = ap₂ ◌∷◌ (byte-back b h.0) (word_back bs h.1)

-- its letters are letters
pub letters-all : (w : List ℕ) → all_letters (word_letters w) ≡ true
unfolding word_letters byte_letters all_letters
letters-all [] = refl
letters-all (b ∷ bs) = simp (pair-back, letters-all bs)

pub letters-length : (w : List ℕ) → length (word_letters w) ≡ 4 * length w
unfolding word_letters byte_letters
letters-length [] = refl
letters-length (b ∷ bs) = omega (arith, letters-length bs)

pub bases-length : (w : List ℕ) → length (word_bases w) ≡ 4 * length w
unfolding word_bases byte_bases
bases-length [] = refl
bases-length (b ∷ bs) = omega (arith, bases-length bs)

pub spelled-bytes : (read : List ℕ) → AllBytes (letters_word read)
unfolding letters_word
spelled-bytes [] = tt
spelled-bytes (a ∷ []) = tt
spelled-bytes (a ∷ (b ∷ [])) = tt
spelled-bytes (a ∷ (b ∷ (c ∷ []))) = tt
spelled-bytes (a ∷ (b ∷ (c ∷ (d ∷ rest)))) = (byte-lt a b c d, spelled-bytes rest)

pub spelled-length : (k : ℕ) (read : List ℕ) → length read ≡ 4 * k → length (letters_word read) ≡ k
unfolding letters_word
spelled-length zero [] e = refl
spelled-length (suc k) [] e = omega arith
spelled-length k (a ∷ []) e = omega arith
spelled-length k (a ∷ (b ∷ [])) e = omega arith
spelled-length k (a ∷ (b ∷ (c ∷ []))) e = omega arith
spelled-length zero (a ∷ (b ∷ (c ∷ (d ∷ rest)))) e = omega arith
spelled-length (suc k) (a ∷ (b ∷ (c ∷ (d ∷ rest)))) e = ap suc (spelled-length k rest (omega arith))

-- a read of letters is what its word spells
pub read_back : (k : ℕ) (read : List ℕ) → length read ≡ 4 * k → all_letters read ≡ true → word_letters (letters_word read) ≡ read
unfolding letters_word word_letters
read_back zero [] e h = refl
read_back (suc k) [] e h = refl
read_back k (a ∷ []) e h = absurd (let z : ⊥ = omega arith in z)
read_back k (a ∷ (b ∷ [])) e h = absurd (let z : ⊥ = omega arith in z)
read_back k (a ∷ (b ∷ (c ∷ []))) e h = absurd (let z : ⊥ = omega arith in z)
read_back zero (a ∷ (b ∷ (c ∷ (d ∷ rest)))) e h = absurd (let z : ⊥ = omega arith in z)
read_back (suc k) (a ∷ (b ∷ (c ∷ (d ∷ rest)))) e h =
    let ha = letters-cons a (b ∷ c ∷ d ∷ rest) h in
    let hb = letters-cons b (c ∷ d ∷ rest) ha.1 in
    let hc = letters-cons c (d ∷ rest) hb.1 in
    let hd = letters-cons d rest hc.1 in
    rw (letters-back a b c d ha.0 hb.0 hc.0 hd.0)
    (ap (λ (l : List ℕ). a ∷ b ∷ c ∷ d ∷ l) (read_back k rest (omega arith) hd.1))
