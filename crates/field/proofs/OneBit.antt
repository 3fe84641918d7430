-- One bit of a number, set by OR: that bit is 1, and every other is as it was. Assumes nothing.
use Rattle.std.proofs.Common.{◌≡◌, ℕ, zero, suc, ◌+◌, ◌-◌, ◌*◌, ◌/◌, ◌%◌, ◌^◌, ◌<◌, sym, refl, ap, ◌∙◌, one-mul, pow-suc, arith, pow-add}
use native.Mathlib.Nat.{div-eq_of_lt}
use native.Mathlib.Decide.{dec_lt}
use lib.Bits.{bit_or, or_shr, or_mod, or_zero_r}
use lib.Pow.{shl-shr, pow-lt}

bit-or : (w v c : ℕ) → bit_or w v / 2 ^ c % 2 ≡ bit_or (w / 2 ^ c % 2) (v / 2 ^ c % 2)
bit-or w v c = rw (or_shr w v c) (or_mod (w / 2 ^ c) (v / 2 ^ c) 1)

or-one : (x : ℕ) → x < 2 → bit_or x 1 ≡ 1
or-one zero h = refl
or-one (suc zero) h = refl
or-one (suc (suc x)) h = omega arith

power-same : (c : ℕ) → 2 ^ c / 2 ^ c % 2 ≡ 1
power-same c =
    let e : 2 ^ c / 2 ^ c ≡ 1 = ap (λ (n : ℕ). n / 2 ^ c) (sym (one-mul (2 ^ c))) ∙ shl-shr 1 c in
    rw e

power-above : (n c : ℕ) → 2 ^ (suc n + c) / 2 ^ c ≡ 2 ^ n * 2
power-above n c = ap (λ (k : ℕ). k / 2 ^ c) (pow-add 2 (suc n) c) ∙ shl-shr (2 ^ suc n) c ∙ pow-suc 2 n

power-other : (m c : ℕ) → (m ≡ c → ⊥) → 2 ^ m / 2 ^ c % 2 ≡ 0
power-other m c h =
    elim (dec_lt m c) [
      | yes l ↦ let e : 2 ^ m / 2 ^ c ≡ 0 = div-eq_of_lt (pow-lt l) in rw e
      | no l ↦ let e : m ≡ suc (m - suc c) + c = omega arith in rw (e, power-above (m - suc c) c) (omega arith)
    ]

pub bit-same : (w c : ℕ) → bit_or w (2 ^ c) / 2 ^ c % 2 ≡ 1
bit-same w c = rw (bit-or w (2 ^ c) c, power-same c) (or-one (w / 2 ^ c % 2) (omega arith))

pub bit-other : (w m c : ℕ) → (m ≡ c → ⊥) → bit_or w (2 ^ m) / 2 ^ c % 2 ≡ w / 2 ^ c % 2
bit-other w m c h = rw (bit-or w (2 ^ m) c, power-other m c h, or_zero_r)
