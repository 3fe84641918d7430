-- The number that stands in one, two or four bytes of a list, by those bytes. Assumes nothing.
use mathlib.Core.Path.{◌≡◌, ap}
use mathlib.Core.List.{List, [], ◌∷◌}
use Prim.Native.Nat.{ℕ, suc, ◌+◌, ◌*◌, ◌<◌}
use native.Mathlib.Nat.{zero-add}
use native.Mathlib.Numerals.{add-one}
use native.Mathlib.Omega.{arith}
use lib.ListN.{length, get_or, take, drop}
use lib.Seq.{drop-cons}
use Rattle.field.specs.Bytes.{from_big_endian}
use Rattle.field.proofs.BigEndian.{take-four}
use Rattle.droplet.specs.PoolCard.{number_at}

module _ (bytes : List ℕ) where
  part-cons : (i j n : ℕ) → j ≡ i + 1 → i < length bytes → take (suc n) (drop i bytes) ≡ get_or bytes i 0 ∷ take n (drop j bytes)
  part-cons i j n e h = rw (e, add-one i, drop-cons bytes i 0 h)

  pub number-one : (i : ℕ) → i < length bytes → number_at i 1 bytes ≡ get_or bytes i 0
  unfolding number_at from_big_endian
  number-one i h = rw (part-cons i (i + 1) 0 (omega arith) h, zero-add)

  pub number-two : (i : ℕ) → i + 1 < length bytes → number_at i 2 bytes ≡ get_or bytes i 0 * 256 + get_or bytes (i + 1) 0
  unfolding number_at from_big_endian
  number-two i h = rw (part-cons i (i + 1) 1 (omega arith) (omega arith), part-cons (i + 1) (i + 2) 0 (omega arith) h, zero-add)

  pub number-four : (i : ℕ) → i + 3 < length bytes
      → number_at i 4 bytes ≡ from_big_endian (get_or bytes i 0 ∷ get_or bytes (i + 1) 0 ∷ get_or bytes (i + 2) 0 ∷ get_or bytes (i + 3) 0 ∷ [])
  unfolding number_at
  number-four i h = ap from_big_endian (take-four bytes i (omega arith))
