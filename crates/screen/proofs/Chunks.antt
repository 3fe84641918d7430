-- Numbers of 64 bits as one number, a number more at a time. Assumes nothing.
use mathlib.Core.Path.{◌≡◌}
use mathlib.Core.List.{List, [], ◌∷◌, ◌++◌, foldl-append}
use Prim.Native.Nat.{ℕ, ◌+◌, ◌*◌, ◌^◌, ◌<◌}
use native.Mathlib.Numerals.{add-one}
use lib.ListN.{length, get_or, set, take}
use lib.Seq.{take-suc, take-suc-set}
use Rattle.screen.specs.Loops.{chunks_number}

-- a number behind others
chunks-snoc : (xs : List ℕ) (y : ℕ) → chunks_number (xs ++ (y ∷ [])) ≡ chunks_number xs * 2 ^ 64 + y
unfolding chunks_number
chunks-snoc xs y = foldl-append _ 0 xs (y ∷ [])

-- the first i + 1 numbers
pub chunks-next : (xs : List ℕ) (i : ℕ) → i < length xs
    → chunks_number (take (i + 1) xs) ≡ chunks_number (take i xs) * 2 ^ 64 + get_or xs i 0
chunks-next xs i h = rw (add-one i, take-suc xs i 0 h) (chunks-snoc (take i xs) (get_or xs i 0))

-- the same where the last of them is stored
pub chunks-set : (xs : List ℕ) (i y : ℕ) → i < length xs
    → chunks_number (take (i + 1) (set xs i y)) ≡ chunks_number (take i xs) * 2 ^ 64 + y
chunks-set xs i y h = rw (add-one i, take-suc-set xs i y h) (chunks-snoc (take i xs) y)
