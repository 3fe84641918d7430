-- A word shifted left one bit, modulo a polynomial over the field of two elements: the step of the seed schedule at 32 bits,
-- and the field's multiplication by its root at 8. Assumes nothing.
use Rattle.std.specs.Prelude.{ℕ, zero, suc, ◌*◌, ◌/◌, ◌%◌, ◌^◌, bit_xor}

-- `up`, with the polynomial p XORed in if `out`, the bit that fell out, is a one
abbrev pub folded : ℕ → ℕ → ℕ → ℕ
folded p zero up = up
folded p (suc out) up = bit_xor up p

-- x shifted left one bit, k being the place of the top bit and p the polynomial without its highest term
unfoldable pub shift_up : ℕ → ℕ → ℕ → ℕ
shift_up k p x = folded p (x / 2 ^ k % 2) (x * 2 % 2 ^ suc k)
