-- XOR is a group in which each number is its own inverse; `xors` settles any rearrangement; `shift_up` is linear.
-- Assumes nothing.
use Rattle.std.proofs.Common.{◌≡◌, ℕ, zero, suc, ◌+◌, ◌*◌, ◌/◌, ◌%◌, ◌^◌, ◌<◌, Bool, eqb, sym, refl, ap, ◌∙◌, ap₂, add-zero, mod-lt, mod-eq_of_lt, zero-lt-suc, pow-suc, arith, eqb→eq, pow_pos}
use native.Mathlib.Nat.{div-eq_of_lt}
use lib.Arith.{bin_ind}
use lib.Bits.{bit_xor, differ, xor_step, xor_shr, xor_mod, xor_comm, xor_self, xor_zero_r, xor_block, xor_lt}
use Rattle.field.specs.Shift.{folded, shift_up}
use Rattle.field.proofs.Tests.{below, at}

bit : (n : ℕ) → n % 2 < 2
bit n = mod-lt n (zero-lt-suc 1)

-- at digits, by test
digit-test : ℕ → ℕ → ℕ → Bool
digit-test x y z = eqb (differ (bit_xor x y) z) (differ x (bit_xor y z))

digit_assoc : (x y z : ℕ) → x < 2 → y < 2 → z < 2 → differ (bit_xor x y) z ≡ differ x (bit_xor y z)
unfolding digit-test
digit_assoc x y z hx hy hz =
    eqb→eq _ _
    (at 2 (digit-test x y)
    (at 2 (λ v. below 2 (digit-test x v)) (at 2 (λ u. below 2 (λ v. below 2 (digit-test u v))) tt x hx) y hy) z hz)

pub xor_assoc : (a b c : ℕ) → bit_xor (bit_xor a b) c ≡ bit_xor a (bit_xor b c)
xor_assoc a =
    bin_ind (λ (n : ℕ). (b c : ℕ) → bit_xor (bit_xor n b) c ≡ bit_xor n (bit_xor b c)) (λ b c. refl)
    (λ n ih b c. xor_step (bit_xor n b) c
    ∙ ap₂ (λ (x y : ℕ). x * 2 + y)
    (ap (λ (x : ℕ). bit_xor x (c / 2)) (xor_shr n b 1) ∙ ih (b / 2) (c / 2) ∙ ap (bit_xor (n / 2)) (sym (xor_shr b c 1)))
    (ap (λ (x : ℕ). differ x (c % 2)) (xor_mod n b 1) ∙ digit_assoc (n % 2) (b % 2) (c % 2) (bit n) (bit b) (bit c)
    ∙ ap (differ (n % 2)) (sym (xor_mod b c 1)))
    ∙ sym (xor_step n (bit_xor b c))) a

pub xor-left-comm : (a b c : ℕ) → bit_xor a (bit_xor b c) ≡ bit_xor b (bit_xor a c)
xor-left-comm a b c = sym (xor_assoc a b c) ∙ ap (λ (x : ℕ). bit_xor x c) (xor_comm a b) ∙ xor_assoc b a c

pub xor-cancel : (a b : ℕ) → bit_xor a (bit_xor a b) ≡ b
xor-cancel a b = sym (xor_assoc a a b) ∙ ap (λ (x : ℕ). bit_xor x b) (xor_self a)

pub ruleset xors = (xor_assoc, xor_comm, xor-left-comm, xor_self, xor-cancel, xor_zero_r)

-- two numbers are equal where their XOR is 0
pub xor-zero-eq : (a b : ℕ) → bit_xor a b ≡ 0 → a ≡ b
xor-zero-eq a b e = sym (xor_zero_r a) ∙ ap (bit_xor a) (sym e) ∙ xor-cancel a b

pub xor-through : (a x b : ℕ) → bit_xor a b ≡ bit_xor (bit_xor a x) (bit_xor x b)
xor-through a x b = simp xors

-- XOR passes through a shift
xor-double : (a b : ℕ) → bit_xor a b * 2 ≡ bit_xor (a * 2) (b * 2)
xor-double a b = simp add-zero at (sym (xor_block 1 a b 0 0 (zero-lt-suc 1) (zero-lt-suc 1)))

folded-xor : (p o o' u u' : ℕ) → o < 2 → o' < 2 → folded p (bit_xor o o') (bit_xor u u') ≡ bit_xor (folded p o u) (folded p o' u')
folded-xor p zero zero u u' h h' = refl
folded-xor p zero (suc zero) u u' h h' = xor_assoc u u' p
folded-xor p (suc zero) zero u u' h h' = let e : bit_xor (bit_xor u u') p ≡ bit_xor (bit_xor u p) u' = simp xors in e
folded-xor p (suc zero) (suc zero) u u' h h' = let e : bit_xor u u' ≡ bit_xor (bit_xor u p) (bit_xor u' p) = simp xors in e
folded-xor p zero (suc (suc o')) u u' h h' = omega arith
folded-xor p (suc zero) (suc (suc o')) u u' h h' = omega arith
folded-xor p (suc (suc o)) o' u u' h h' = omega arith

pub shift_up-xor : (k p x y : ℕ) → shift_up k p (bit_xor x y) ≡ bit_xor (shift_up k p x) (shift_up k p y)
unfolding shift_up
shift_up-xor k p x y =
    ap₂ (folded p) (ap (λ (v : ℕ). v % 2) (xor_shr x y k) ∙ xor_mod (x / 2 ^ k) (y / 2 ^ k) 1)
    (ap (λ (v : ℕ). v % 2 ^ suc k) (xor-double x y) ∙ xor_mod (x * 2) (y * 2) (suc k))
    ∙ folded-xor p (x / 2 ^ k % 2) (y / 2 ^ k % 2) (x * 2 % 2 ^ suc k) (y * 2 % 2 ^ suc k) (bit (x / 2 ^ k)) (bit (y / 2 ^ k))

folded-lt : (k p o u : ℕ) → p < 2 ^ k → u < 2 ^ k → folded p o u < 2 ^ k
folded-lt k p zero u hp h = h
folded-lt k p (suc o) u hp h = xor_lt k u p h hp

pub shift_up-lt : (k p x : ℕ) → p < 2 ^ suc k → shift_up k p x < 2 ^ suc k
unfolding shift_up
shift_up-lt k p x h = folded-lt (suc k) p (x / 2 ^ k % 2) (x * 2 % 2 ^ suc k) h (mod-lt (x * 2) (pow_pos (suc k)))

-- a word with room above is doubled
pub shift_up-low : (k p x : ℕ) → x < 2 ^ k → shift_up k p x ≡ x * 2
unfolding shift_up
shift_up-low k p x h =
    let u : x * 2 % 2 ^ suc k ≡ x * 2 = mod-eq_of_lt (omega (arith, pow-suc 2 k)) in
    rw (div-eq_of_lt h, u)
