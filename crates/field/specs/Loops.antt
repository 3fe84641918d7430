-- Remainders by the generator polynomial for R = 4, as the number that four bytes spell, which the contracts of private functions
-- cite. No sentence of document 01 stands here. Assumes nothing.
use Rattle.std.specs.Prelude.{◌≡◌, ℕ, zero, suc, ◌+◌, ◌*◌, ◌/◌, ◌%◌, ◌^◌, ◌<◌, List, bit_xor, slice_index}
use Rattle.field.specs.Bytes.{from_big_endian, to_big_endian, table_of}
use Rattle.field.specs.CheckBytes.{value_at, parity}

-- the value of a number's four bytes at a^i
abbrev pub number_at : ℕ → ℕ → ℕ
number_at i x = value_at i (to_big_endian x)

-- x is the word's remainder: it has the word's values at a^0 .. a^3
abbrev pub Leaves : List ℕ → ℕ → Type 0
Leaves word x = (i : ℕ) → i < 4 → number_at i x ≡ value_at i word

-- the remainder of a number's bytes with four bytes 0 behind them, and with eight
unfoldable pub up_four : ℕ → ℕ
up_four x = from_big_endian (parity 4 (to_big_endian x))

unfoldable pub up_eight : ℕ → ℕ
up_eight x = up_four (up_four x)

-- the table of 128 entries: f at each value of each of eight half bytes, the lowest half byte first
unfoldable pub halves_table : (ℕ → ℕ) → List ℕ
halves_table f = table_of 128 (λ k. f (k % 16 * 2 ^ (4 * (k / 16))))

-- the XOR of a table's entries for the lowest k half bytes of a number
unfoldable pub at_halves : ℕ → List ℕ → ℕ → ℕ
at_halves zero table x = 0
at_halves (suc k) table x = bit_xor (at_halves k table x) (slice_index table (x / 2 ^ (4 * k) % 16 + 16 * k))
