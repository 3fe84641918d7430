-- A map that keeps XOR and commutes with the step is the product with its value at 1; and the loop over the terms that computes a product.
-- Over any step, and then for seeds. Assumes nothing.
use Rattle.std.proofs.Common.{◌≡◌, ℕ, zero, suc, ◌+◌, ◌-◌, ◌*◌, ◌/◌, ◌%◌, ◌^◌, ◌<◌, ◌≤◌, sym, refl, ap, ◌∙◌, ap₂, pow-suc, arith}
use lib.Bits.{bit_xor, xor_self, xor_shifted, xor_comm, xor_zero_r}
use lib.Pow.{shr-shr}
use Rattle.field.specs.Shift.{shift_up}
use Rattle.field.specs.Generator.{seed_after, seed_after-shifts, iterate}
use Rattle.field.specs.Products.{bit_times, times, seed_product}
use Rattle.field.proofs.Xor.{xors, xor_assoc, shift_up-xor, shift_up-low}

-- what is asked of a step on numbers of `width` bits: it keeps XOR, and doubles a number whose double fits
pub record IsStep (step : ℕ → ℕ) (width : ℕ) : Type 0 where
  pub keeps : (a b : ℕ) → step (bit_xor a b) ≡ bit_xor (step a) (step b)
  pub doubles : (a : ℕ) → a * 2 < 2 ^ width → step a ≡ a * 2

-- a shift left modulo a polynomial is one
pub shift-step : (step : ℕ → ℕ) (k p : ℕ) → ((v : ℕ) → step v ≡ shift_up k p v) → IsStep step (suc k)
shift-step step k p is = record {
  keeps = λ a b. is (bit_xor a b) ∙ shift_up-xor k p a b ∙ sym (ap₂ bit_xor (is a) (is b));
  doubles = λ a h. is a ∙ shift_up-low k p a (omega (arith, pow-suc 2 k));
}

pub record Linear (step f : ℕ → ℕ) : Type 0 where
  pub sums : (a b : ℕ) → f (bit_xor a b) ≡ bit_xor (f a) (f b)
  pub steps : (a : ℕ) → f (step a) ≡ step (f a)

pub at_zero : {step : ℕ → ℕ} (f : ℕ → ℕ) → Linear step f → f 0 ≡ 0
at_zero f l = l.sums 0 0 ∙ xor_self (f 0)

-- ---- the maps that are such

pub linear-same : {step : ℕ → ℕ} → Linear step (λ v. v)
linear-same = record { sums = λ a b. refl; steps = λ a. refl }

pub linear-after : {step : ℕ → ℕ} (f g : ℕ → ℕ) → Linear step f → Linear step g → Linear step (λ v. g (f v))
linear-after f g l m = record {
  sums = λ a b. ap g (l.sums a b) ∙ m.sums (f a) (f b);
  steps = λ a. ap g (l.steps a) ∙ m.steps (f a);
}

module _ {step : ℕ → ℕ} {width : ℕ} (is : IsStep step width) where
  linear-step : Linear step step
  linear-step = record { sums = is.keeps; steps = λ a. refl }

  pub linear-beside : (f g : ℕ → ℕ) → Linear step f → Linear step g → Linear step (λ v. bit_xor (f v) (g v))
  linear-beside f g l m = record {
    sums = λ a b. rw (l.sums a b, m.sums a b) (simp xors);
    steps = λ a. ap₂ bit_xor (l.steps a) (m.steps a) ∙ sym (is.keeps (f a) (g a));
  }

  pub linear-iterate : (k : ℕ) → Linear step (iterate k step)
  unfolding iterate
  linear-iterate zero = linear-same
  linear-iterate (suc k) = linear-after step (iterate k step) linear-step (linear-iterate k)

  linear-bit : (d : ℕ) → Linear step (bit_times d)
  linear-bit zero = record { sums = λ a b. refl; steps = λ a. sym (at_zero step linear-step) }
  linear-bit (suc d) = linear-same

  pub linear-times : (n a : ℕ) → Linear step (times step n a)
  unfolding times
  linear-times zero a = linear-bit zero
  linear-times (suc n) a =
      linear-beside (bit_times (a % 2)) (λ v. step (times step n (a / 2) v)) (linear-bit (a % 2))
      (linear-after (times step n (a / 2)) step (linear-times n (a / 2)) linear-step)

-- ---- each is a product

module _ {step : ℕ → ℕ} (f : ℕ → ℕ) (l : Linear step f) where
  linear-of-bit : (d v : ℕ) → f (bit_times d v) ≡ bit_times d (f v)
  linear-of-bit zero v = at_zero f l
  linear-of-bit (suc d) v = refl

  linear-of-times : (n a v : ℕ) → f (times step n a v) ≡ times step n a (f v)
  unfolding times
  linear-of-times zero a v = at_zero f l
  linear-of-times (suc n) a v =
      l.sums _ _ ∙ ap₂ bit_xor (linear-of-bit (a % 2) v) (l.steps (times step n (a / 2) v) ∙ ap step (linear-of-times n (a / 2) v))

bit-one : (d : ℕ) → d < 2 → bit_times d 1 ≡ d
bit-one zero h = refl
bit-one (suc d) h = omega arith

module _ {step : ℕ → ℕ} {width : ℕ} (is : IsStep step width) where
  -- a number is the product of itself and 1
  times-one : (n a : ℕ) → a < 2 ^ n → a < 2 ^ width → times step n a 1 ≡ a
  unfolding times
  times-one zero a h w = omega arith
  times-one (suc n) a h w =
      let ih : times step n (a / 2) 1 ≡ a / 2 = times-one n (a / 2) (omega (arith, pow-suc 2 n)) (omega arith) in
      ap₂ bit_xor (bit-one (a % 2) (omega arith)) (ap step ih ∙ is.doubles (a / 2) (omega arith))
      ∙ xor_comm (a % 2) (a / 2 * 2) ∙ xor_shifted (a / 2) 1 (a % 2) (omega arith) ∙ omega arith

  pub product-one : (a : ℕ) → a < 2 ^ width → times step width a 1 ≡ a
  product-one a h = times-one width a h h

  pub by_one : (f : ℕ → ℕ) → Linear step f → (a : ℕ) → a < 2 ^ width → f a ≡ times step width a (f 1)
  by_one f l a h = ap f (sym (product-one a h)) ∙ linear-of-times f l width a 1

-- ---- a loop over the terms of a, the lowest first: the sum so far, and the product of the terms from i on with what is stepped

-- the sum, by the term i
pub bit-taken : (sum bits stepped : ℕ) → bits % 2 ≡ 1 → bit_xor sum stepped ≡ bit_xor sum (bit_times (bits % 2) stepped)
bit-taken sum bits stepped e = rw e

pub bit-passed : (sum bits stepped : ℕ) → ¬ bits % 2 ≡ 1 → sum ≡ bit_xor sum (bit_times (bits % 2) stepped)
bit-passed sum bits stepped n = let e : bits % 2 ≡ 0 = omega arith in rw e (sym (xor_zero_r sum))

module _ {step : ℕ → ℕ} {width : ℕ} (is : IsStep step width) where
  -- the lowest bit taken into the sum, the others pick from the steps of what is stepped once
  times-turn : (n bits stepped sum : ℕ)
      → bit_xor (bit_xor sum (bit_times (bits % 2) stepped)) (times step n (bits / 2) (step stepped)) ≡ bit_xor sum (times step (suc n) bits stepped)
  unfolding times
  times-turn n bits stepped sum =
      rw ((linear-times is n (bits / 2)).steps stepped)
      (xor_assoc sum (bit_times (bits % 2) stepped) (step (times step n (bits / 2) stepped)))

  pub loop-turn : (n i a sum sum' stepped next end : ℕ) → i < n → sum' ≡ bit_xor sum (bit_times (a / 2 ^ i % 2) stepped)
      → next ≡ step stepped → bit_xor sum (times step (n - i) (a / 2 ^ i) stepped) ≡ end
      → bit_xor sum' (times step (n - (i + 1)) (a / 2 ^ (i + 1)) next) ≡ end
  loop-turn n i a sum sum' stepped next end h f g now =
      let left : n - i ≡ suc (n - (i + 1)) = omega arith in
      rw (← shr-shr a i 1, f, g) (times-turn (n - (i + 1)) (a / 2 ^ i) stepped sum ∙ rw left at now)

-- no term is left
pub loop_ended : (step : ℕ → ℕ) (n i sum bits stepped end : ℕ) → n ≤ i → bit_xor sum (times step (n - i) bits stepped) ≡ end → sum ≡ end
unfolding times
loop_ended step n i sum bits stepped end h now = let e : n - i ≡ 0 = omega arith in sym (xor_zero_r sum) ∙ rw e at now

-- ---- seeds

pub seed-step : IsStep seed_after 32
seed-step = shift-step seed_after 31 _ seed_after-shifts

-- k steps are the product with the seed k steps after 1
pub steps-product : (k s : ℕ) → s < 2 ^ 32 → iterate k seed_after s ≡ seed_product s (iterate k seed_after 1)
steps-product k = by_one seed-step (iterate k seed_after) (linear-iterate seed-step k)
