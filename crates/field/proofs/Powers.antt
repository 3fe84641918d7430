-- Multiplication by powers of the root: linear, commuting, adding up, and different at each byte but 0. Assumes nothing.
use Rattle.std.proofs.Common.{◌≡◌, ℕ, zero, suc, ◌+◌, ◌*◌, ◌^◌, ◌<◌, Bool, T, eqb, ltb, sym, refl, ap, ◌∙◌, subst, suc-add, zero-add, arith, lit<, eqb→eq, lt→ltb}
use lib.Bits.{bit_xor}
use lib.Dec.{eqb_refl}
use Rattle.field.specs.Shift.{shift_up}
use Rattle.field.specs.CheckBytes.{double, times_power}
use Rattle.field.proofs.Tests.{below, at, implies, modus}
use Rattle.field.proofs.Xor.{shift_up-xor, shift_up-lt, shift_up-low}

pub double-xor : (x y : ℕ) → double (bit_xor x y) ≡ bit_xor (double x) (double y)
unfolding double
double-xor x y = shift_up-xor 7 _ x y

pub double-lt : (x : ℕ) → double x < 2 ^ 8
unfolding double
double-lt x = shift_up-lt 7 _ x (lit< tt)

-- a byte with room above is doubled as a number
pub double-low : (x : ℕ) → x < 2 ^ 7 → double x ≡ x * 2
unfolding double
double-low = shift_up-low 7 _

pub power-xor : (i x y : ℕ) → times_power i (bit_xor x y) ≡ bit_xor (times_power i x) (times_power i y)
unfolding times_power
power-xor zero x y = refl
power-xor (suc i) x y = ap (times_power i) (double-xor x y) ∙ power-xor i (double x) (double y)

pub power_zero : (i : ℕ) → times_power i 0 ≡ 0
unfolding times_power double shift_up
power_zero zero = refl
power_zero (suc i) = power_zero i

pub power-lt : (i x : ℕ) → x < 2 ^ 8 → times_power i x < 2 ^ 8
unfolding times_power
power-lt zero x h = h
power-lt (suc i) x h = power-lt i (double x) (double-lt x)

pub power-double : (i x : ℕ) → times_power i (double x) ≡ double (times_power i x)
unfolding times_power
power-double zero x = refl
power-double (suc i) x = power-double i (double x)

pub power-comm : (i j x : ℕ) → times_power i (times_power j x) ≡ times_power j (times_power i x)
unfolding times_power
power-comm zero j x = refl
power-comm (suc i) j x = ap (times_power i) (sym (power-double j x)) ∙ power-comm i j (double x)

pub power-add : (i j x : ℕ) → times_power (i + j) x ≡ times_power j (times_power i x)
unfolding times_power
power-add zero j x = ap (λ (n : ℕ). times_power n x) (zero-add j)
power-add (suc i) j x = ap (λ (n : ℕ). times_power n x) (suc-add i j) ∙ power-add i j (double x)

-- ---- the first four powers differ, by a test of every byte

differ-test : ℕ → ℕ → ℕ → Bool
differ-test i j x = implies (ltb i j) (implies (eqb (times_power i x) (times_power j x)) (eqb x 0))

all-differ : T (below 4 (λ i. below 4 (λ j. below 256 (differ-test i j))))
unfolding differ-test times_power double shift_up
all-differ = tt

pub powers-differ : (i j x : ℕ) → i < j → j < 4 → x < 2 ^ 8 → times_power i x ≡ times_power j x → x ≡ 0
unfolding differ-test
powers-differ i j x h hj hx e =
    let tested = at 256 (differ-test i j)
    (at 4 (λ m. below 256 (differ-test i m))
    (at 4 (λ k. below 4 (λ m. below 256 (differ-test k m))) all-differ i (omega arith)) j hj) x hx in
    eqb→eq x 0
    (modus (eqb (times_power i x) (times_power j x)) (eqb x 0)
    (modus (ltb i j) (implies (eqb (times_power i x) (times_power j x)) (eqb x 0)) tested (lt→ltb i j h))
    (subst (λ (y : ℕ). T (eqb (times_power i x) y)) e (eqb_refl (times_power i x))))
