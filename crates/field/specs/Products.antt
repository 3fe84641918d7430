-- Numbers as polynomials over the field of two elements, modulo that of a step: bit i stands for x^i, and a step is times x. So there are
-- products: of seeds, over the step of the schedule, and of bytes in the field of the check bytes, over the doubling there.
-- Private functions and proofs cite them. No sentence of a document stands here. Assumes nothing.
use Rattle.std.specs.Prelude.{ℕ, zero, suc, ◌/◌, ◌%◌, bit_xor}
use Rattle.field.specs.Generator.{seed_after}
use Rattle.field.specs.CheckBytes.{double}

-- v for the bit 1, and 0 for the bit 0
abbrev pub bit_times : ℕ → ℕ → ℕ
bit_times zero v = 0
bit_times (suc d) v = v

-- the polynomial of the n lowest bits of a, times v
unfoldable pub times : (ℕ → ℕ) → ℕ → ℕ → ℕ → ℕ
times step zero a v = 0
times step (suc n) a v = bit_xor (bit_times (a % 2) v) (step (times step n (a / 2) v))

-- the product of two seeds
abbrev pub seed_product : ℕ → ℕ → ℕ
seed_product = times seed_after 32

-- the product of two bytes in the field
abbrev pub field_product : ℕ → ℕ → ℕ
field_product = times double 8
