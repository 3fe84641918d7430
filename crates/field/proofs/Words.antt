-- Every word and every number drawn stays below 2^32. Assumes nothing.
use Rattle.std.proofs.Common.{ℕ, ◌+◌, ◌*◌, ◌/◌, ◌%◌, ◌^◌, ◌<◌, lt_of_le_of_lt, mod-lt, pow_pos}
use lib.Bits.{bit_xor, xor_lt}
use lib.Pow.{shr_le}
use Rattle.field.specs.declared.generator.Draw.{Draw}
use Rattle.field.specs.Generator.{xorshift, after_draw, number_drawn, of_seed, weyl_step}

pub xorshift-lt : (x : ℕ) → x < 2 ^ 32 → xorshift x < 2 ^ 32
unfolding xorshift
xorshift-lt x h =
    let a = bit_xor x (x * 2 ^ 13 % 2 ^ 32) in
    let b = bit_xor a (a / 2 ^ 17) in
    let ha : a < 2 ^ 32 = xor_lt 32 x (x * 2 ^ 13 % 2 ^ 32) h (mod-lt (x * 2 ^ 13) (pow_pos 32)) in
    let hb : b < 2 ^ 32 = xor_lt 32 a (a / 2 ^ 17) ha (lt_of_le_of_lt (shr_le a 17) ha) in
    xor_lt 32 b (b * 2 ^ 5 % 2 ^ 32) hb (mod-lt (b * 2 ^ 5) (pow_pos 32))

-- both words of a draw state
pub record Fits (d : Draw) : Type 0 where
  pub word : d.x < 2 ^ 32
  pub weyl : d.w < 2 ^ 32

pub seed-fits : (s : ℕ) → s < 2 ^ 32 → Fits (of_seed s)
unfolding of_seed
seed-fits s h = record { word = h; weyl = pow_pos 32 }

pub draw-fits : (d : Draw) → Fits d → Fits (after_draw d)
unfolding after_draw
draw-fits d h = record { word = xorshift-lt d.x h.word; weyl = mod-lt (d.w + weyl_step) (pow_pos 32) }

pub number_lt : (d : Draw) → number_drawn d < 2 ^ 32
unfolding number_drawn
number_lt d = mod-lt (d.x + d.w) (pow_pos 32)
