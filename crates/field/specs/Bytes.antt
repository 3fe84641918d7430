-- Bytes and lists of bytes, which every section of document 01 rests on. Assumes nothing.
use Rattle.std.specs.Prelude.{ℕ, zero, suc, ◌+◌, ◌-◌, ◌*◌, ◌/◌, ◌%◌, ◌^◌, ◌<◌, Bool, true, false, ◌&&◌, List, [], ◌∷◌, ◌++◌, length, replicate, ◌==◌, bit_xor}
use mathlib.Core.List.{foldl}

-- P holds of each element of a list
abbrev pub All : {A : Type 0} → (A → Type 0) → List A → Type 0
All P [] = Unit {0}
All P (x ∷ xs) = P x × All P xs

abbrev pub IsByte : ℕ → Type 0
IsByte b = b < 2 ^ 8

abbrev pub AllBytes : List ℕ → Type 0
AllBytes = All IsByte

-- "Every number is most significant byte first": the number that bytes spell
unfoldable pub from_big_endian : List ℕ → ℕ
from_big_endian = foldl (λ n b. n * 256 + b) 0

-- the four bytes that spell a number of 32 bits
unfoldable pub to_big_endian : ℕ → List ℕ
to_big_endian n = n / 16777216 % 256 ∷ n / 65536 % 256 ∷ n / 256 % 256 ∷ n % 256 ∷ []

-- two lists of one length, XORed byte by byte
unfoldable pub xor_lists : List ℕ → List ℕ → List ℕ
xor_lists [] ys = []
xor_lists (x ∷ xs) [] = []
xor_lists (x ∷ xs) (y ∷ ys) = bit_xor x y ∷ xor_lists xs ys

-- a list as n bytes, those past its end being 0
unfoldable pub padded : ℕ → List ℕ → List ℕ
padded n l = l ++ replicate (n - length l) 0

-- whether two lists are equal
unfoldable pub same_bytes : List ℕ → List ℕ → Bool
same_bytes [] [] = true
same_bytes [] (y ∷ ys) = false
same_bytes (x ∷ xs) [] = false
same_bytes (x ∷ xs) (y ∷ ys) = x == y && same_bytes xs ys

-- f at each number below n
unfoldable pub table_of : ℕ → (ℕ → ℕ) → List ℕ
table_of zero f = []
table_of (suc n) f = f zero ∷ table_of n (λ k. f (suc k))
