-- A number of 32 bits and the four bytes that spell it give each other back. Assumes nothing.
use Rattle.std.proofs.Common.{◌≡◌, ℕ, suc, ◌+◌, ◌*◌, ◌/◌, ◌%◌, ◌^◌, ◌<◌, ◌≤◌, List, [], ◌∷◌, ◌++◌, length, get_or, take, drop, sym, refl, append-nil, ap, ◌∙◌, subst, zero-add, add-one, arith, length-drop, length-take-le, take-append-drop, drop_of_length-le, drop-cons}
use Rattle.std.specs.Int.{w32, from_be_bytes, to_be_bytes}
use Rattle.field.specs.Bytes.{IsByte, AllBytes, from_big_endian, to_big_endian}
use Rattle.field.proofs.ByteLists.{all_take, all_drop, four}

pub to-from : (n : ℕ) → n < 2 ^ 32 → from_big_endian (to_big_endian n) ≡ n
unfolding from_big_endian to_big_endian
to-from n h =
    let e : n / 16777216 % 256 * 256 + n / 65536 % 256 ≡ n / 65536 = omega arith in
    let f : n / 65536 * 256 + n / 256 % 256 ≡ n / 256 = omega arith in
    let g : n / 256 * 256 + n % 256 ≡ n = omega arith in
    rw (zero-add, e, f, g)

pub from-to : (a b c d : ℕ) → AllBytes (a ∷ b ∷ c ∷ d ∷ []) → to_big_endian (from_big_endian (a ∷ b ∷ c ∷ d ∷ [])) ≡ a ∷ b ∷ c ∷ d ∷ []
unfolding from_big_endian to_big_endian
from-to a b c d h =
    let n = ((a * 256 + b) * 256 + c) * 256 + d in
    let ea : n / 16777216 % 256 ≡ a = omega arith in
    let eb : n / 65536 % 256 ≡ b = omega arith in
    let ec : n / 256 % 256 ≡ c = omega arith in
    let ed : n % 256 ≡ d = omega arith in
    rw (zero-add, ea, eb, ec, ed)

from-lt : (a b c d : ℕ) → AllBytes (a ∷ b ∷ c ∷ d ∷ []) → from_big_endian (a ∷ b ∷ c ∷ d ∷ []) < 2 ^ 32
unfolding from_big_endian
from-lt a b c d h = omega arith

-- any four bytes spell a number of 32 bits that gives them back
pub four-back : (l : List ℕ) → length l ≡ 4 → AllBytes l → (to_big_endian (from_big_endian l) ≡ l) × (from_big_endian l < 2 ^ 32)
four-back l e =
    subst (λ (m : List ℕ). AllBytes m → (to_big_endian (from_big_endian m) ≡ m) × (from_big_endian m < 2 ^ 32)) (sym (four l e))
    (λ h. (from-to _ _ _ _ h, from-lt _ _ _ _ h))

-- so bytes are those of the number that the first four spell, and the others
pub spelt : (l : List ℕ) (x : ℕ) → 4 ≤ length l → AllBytes l → x ≡ from_big_endian (take 4 l) → l ≡ to_big_endian x ++ drop 4 l
spelt l x h hs e = rw (e, (four-back (take 4 l) (length-take-le 4 l h) (all_take IsByte 4 l hs)).0, take-append-drop)

-- and eight bytes are those of two numbers
pub spelt_twice : (l : List ℕ) (x y : ℕ) → length l ≡ 8 → AllBytes l → x ≡ from_big_endian (take 4 l) → y ≡ from_big_endian (take 4 (drop 4 l))
    → l ≡ to_big_endian x ++ to_big_endian y
spelt_twice l x y h hs e f =
    let n : length (drop 4 l) ≡ 4 = simp length-drop (omega arith) in
    let none : drop 4 (drop 4 l) ≡ [] = drop_of_length-le (drop 4 l) {i = 4} (omega arith) in
    let second : drop 4 l ≡ to_big_endian y = rw (spelt (drop 4 l) y (omega arith) (all_drop IsByte 4 l hs) f, none) (append-nil (to_big_endian y)) in
    spelt l x (omega arith) hs e ∙ ap (λ (m : List ℕ). to_big_endian x ++ m) second

pub to-length : (n : ℕ) → length (to_big_endian n) ≡ 4
unfolding to_big_endian
to-length n = refl

pub to-bytes : (n : ℕ) → AllBytes (to_big_endian n)
unfolding to_big_endian
to-bytes n = (omega arith, (omega arith, (omega arith, (omega arith, tt))))

-- ---- as the library has them

pub to_be-big_endian : (n : ℕ) → to_be_bytes w32 n ≡ to_big_endian n
unfolding to_big_endian
to_be-big_endian n = search arith

module _ (bytes : List ℕ) where
  part-cons : (i j n : ℕ) → j ≡ i + 1 → i < length bytes → take (suc n) (drop i bytes) ≡ get_or bytes i 0 ∷ take n (drop j bytes)
  part-cons i j n e h = rw (e, add-one i, drop-cons bytes i 0 h)

  -- four bytes of a list from a place on
  pub take-four : (i : ℕ) → i + 4 ≤ length bytes
      → take 4 (drop i bytes) ≡ get_or bytes i 0 ∷ get_or bytes (i + 1) 0 ∷ get_or bytes (i + 2) 0 ∷ get_or bytes (i + 3) 0 ∷ []
  take-four i h =
      rw (
        part-cons i (i + 1) 3 (omega arith) (omega arith),
        part-cons (i + 1) (i + 2) 2 (omega arith) (omega arith),
        part-cons (i + 2) (i + 3) 1 (omega arith) (omega arith),
        part-cons (i + 3) (i + 4) 0 (omega arith) (omega arith),
      )

  pub from_be-big_endian : (i : ℕ) → i + 4 ≤ length bytes
      → from_be_bytes w32 (get_or bytes i 0 ∷ get_or bytes (i + 1) 0 ∷ get_or bytes (i + 2) 0 ∷ get_or bytes (i + 3) 0 ∷ [])
      ≡ from_big_endian (take 4 (drop i bytes))
  unfolding from_big_endian
  from_be-big_endian i h = rw (take-four i h) (omega arith)
