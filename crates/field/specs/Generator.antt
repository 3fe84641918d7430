-- Document 01, "Generator and seed schedule". All state is 32 bits wide. Assumes nothing.
use Rattle.std.specs.Prelude.{◌≡◌, refl, ℕ, zero, suc, ◌+◌, ◌*◌, ◌/◌, ◌%◌, ◌^◌, ◌<◌, List, [], ◌∷◌, bit_xor}
use Rattle.field.specs.declared.generator.Draw.{Draw}
use Rattle.field.specs.Shift.{shift_up}

-- "x shifted left, low 32 bits", and right
abbrev pub shift_left : ℕ → ℕ → ℕ
shift_left x k = x * 2 ^ k % 2 ^ 32

abbrev pub shift_right : ℕ → ℕ → ℕ
shift_right x k = x / 2 ^ k

-- Marsaglia's xorshift
unfoldable pub xorshift : ℕ → ℕ
xorshift x =
    let a = bit_xor x (shift_left x 13) in
    let b = bit_xor a (shift_right a 17) in
    bit_xor b (shift_left b 5)

abbrev pub weyl_step : ℕ
weyl_step = 362437

-- the draw state of a seed: "x is the seed and w is 0"
unfoldable pub of_seed : ℕ → Draw
of_seed s = record { x = s; w = 0 }

-- the state after one draw
unfoldable pub after_draw : Draw → Draw
after_draw d = record { x = xorshift d.x; w = (d.w + weyl_step) % 2 ^ 32 }

-- "the number drawn is x + w", of the state after the draw
unfoldable pub number_drawn : Draw → ℕ
number_drawn d = (d.x + d.w) % 2 ^ 32

-- x^32 + x^7 + x^6 + x^2 + 1 without its highest term
abbrev pub schedule_polynomial : ℕ
schedule_polynomial = 0xC5

-- "Seed 0 is never legal": a seed is no 0, and of 32 bits
abbrev pub IsSeed : ℕ → Type 0
IsSeed s = (0 < s) × (s < 2 ^ 32)

-- "The schedule steps a seed": the seed after s
unfoldable pub seed_after : ℕ → ℕ
seed_after = shift_up 31 schedule_polynomial

pub seed_after-shifts : (s : ℕ) → seed_after s ≡ shift_up 31 schedule_polynomial s
unfolding seed_after
seed_after-shifts s = refl

-- f applied k times: with `seed_after`, the seed after k steps
unfoldable pub iterate : ℕ → (ℕ → ℕ) → ℕ → ℕ
iterate zero f s = s
iterate (suc k) f s = iterate k f (f s)

-- the n seeds from s on, in schedule order
unfoldable pub seeds_from : ℕ → ℕ → List ℕ
seeds_from zero s = []
seeds_from (suc n) s = s ∷ seeds_from n (seed_after s)
