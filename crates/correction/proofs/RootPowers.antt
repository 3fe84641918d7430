-- The powers 0 to 254 of the root differ, and every byte but 0 is one, by a table of logarithms; so a product is 0 only where a factor is.
-- Assumes nothing.
use mathlib.Core.Path.{◌≡◌, refl, sym, ap, ◌∙◌}
use mathlib.Core.Bool.{Bool, not}
use mathlib.Core.List.{List, [], ◌∷◌}
use mathlib.Core.Logic.{◌⊎◌, inl, inr}
use Prim.Native.Nat.{ℕ, zero, suc, ◌+◌, ◌-◌, ◌%◌, ◌^◌, ◌<◌}
use native.Mathlib.Omega.{arith}
use native.Mathlib.Decide.{dec_lt, ℕ_discrete}
use lib.Bits.{bit_xor, xor_lt, xor_self}
use lib.Dec.{T, T_not, eqb, eqb→eq, eqb_refl, ltb, ltb→lt, lit<}
use lib.ListN.{get_or, set, replicate}
use Rattle.field.specs.Shift.{shift_up}
use Rattle.field.specs.CheckBytes.{double, times_power}
use Rattle.field.specs.Products.{field_product}
use Rattle.field.proofs.Tests.{below, at, both, both_left, both_right}
use Rattle.field.proofs.Xor.{xor-zero-eq}
use Rattle.field.proofs.Powers.{double-lt, power-xor, power-lt, power-add}
use Rattle.field.proofs.Products.{product-one}
use Rattle.field.proofs.FieldProducts.{byte_step, product-power}

-- ---- the table of logarithms, and a test of its rule at each byte but 0

-- the powers of the root, n of them from y on
powers_from : ℕ → ℕ → List ℕ
powers_from zero y = []
powers_from (suc n) y = y ∷ powers_from n (double y)

-- i, i + 1, .. entered at the powers from y on, n of them
logs_from : ℕ → ℕ → ℕ → List ℕ → List ℕ
logs_from zero i y table = table
logs_from (suc n) i y table = logs_from n (suc i) (double y) (set table y i)

logs : List ℕ
logs = logs_from 255 0 1 (replicate 256 0)

log_of : ℕ → ℕ
log_of x = get_or logs x 0

-- no byte but 0 has the double 0; doubling adds one to the logarithm, modulo 255; the power of the logarithm is the byte
rule : List ℕ → List ℕ → ℕ → Bool
rule table powers x =
    both (not (eqb (double x) 0))
    (both (eqb (get_or table (double x) 0) ((get_or table x 0 + 1) % 255))
    (both (ltb (get_or table x 0) 255) (eqb (get_or powers (get_or table x 0) 0) x)))

ruled : T (let table = logs in let powers = powers_from 255 1 in below 255 (λ x. rule table powers (suc x)))
unfolding rule powers_from logs logs_from double shift_up
ruled = tt

record Log (x : ℕ) : Type 0 where
  doubled : double x ≡ 0 → ⊥
  next : log_of (double x) ≡ (log_of x + 1) % 255
  small : log_of x < 255
  power : get_or (powers_from 255 1) (log_of x) 0 ≡ x

log-at : (x : ℕ) → x < 2 ^ 8 → (x ≡ 0 → ⊥) → Log x
unfolding rule log_of
log-at zero h n = absurd (n refl)
log-at (suc x) h n =
    let t = at 255 (λ y. rule logs (powers_from 255 1) (suc y)) ruled x (omega arith) in
    let z = not (eqb (double (suc x)) 0) in
    let a = eqb (log_of (double (suc x))) ((log_of (suc x) + 1) % 255) in
    let b = ltb (log_of (suc x)) 255 in
    let c = eqb (get_or (powers_from 255 1) (log_of (suc x)) 0) (suc x) in
    let r = both_right z (both a (both b c)) t in
    let q = both_right a (both b c) r in
    record {
      doubled = λ e. T_not (eqb (double (suc x)) 0) (both_left z (both a (both b c)) t) (rw e (eqb_refl 0));
      next = eqb→eq _ _ (both_left a (both b c) r);
      small = ltb→lt _ _ (both_left b c q);
      power = eqb→eq _ _ (both_right b c q);
    }

log-power : (q x : ℕ) → x < 2 ^ 8 → (x ≡ 0 → ⊥) → log_of (times_power q x) % 255 ≡ (log_of x + q) % 255
unfolding times_power
log-power zero x h n = omega arith
log-power (suc q) x h n =
    let l = log-at x h n in
    let e = l.next in
    let r = log-power q (double x) (double-lt x) l.doubled in
    omega arith

-- ---- multiplication by a power is injective, and different powers differ at each byte but 0

power-zero-only : (i x : ℕ) → x < 2 ^ 8 → times_power i x ≡ 0 → x ≡ 0
unfolding times_power
power-zero-only zero x h e = e
power-zero-only (suc i) x h e =
    elim (ℕ_discrete x 0)
    [ yes z ↦ z | no z ↦ absurd ((log-at x h z).doubled (power-zero-only i (double x) (double-lt x) e)) ]

power-injective : (i x y : ℕ) → x < 2 ^ 8 → y < 2 ^ 8 → times_power i x ≡ times_power i y → x ≡ y
power-injective i x y hx hy e =
    xor-zero-eq x y (power-zero-only i (bit_xor x y) (xor_lt 8 x y hx hy) (power-xor i x y ∙ rw (e, xor_self)))

-- no power 1 to 254 leaves a byte but 0 as it is
moved : (k x : ℕ) → k < 254 → x < 2 ^ 8 → times_power (suc k) x ≡ x → x ≡ 0
moved k x h hx e =
    elim (ℕ_discrete x 0) [
      | yes z ↦ z
      | no z ↦
          let r = log-power (suc k) x hx z in
          let s : log_of (times_power (suc k) x) % 255 ≡ log_of x % 255 = ap (λ (y : ℕ). log_of y % 255) e in
          absurd (let y : ⊥ = omega arith in y)
    ]

ordered : (p q x : ℕ) → p < q → q < 255 → x < 2 ^ 8 → times_power p x ≡ times_power q x → x ≡ 0
ordered p q x h hq hx e =
    let d = q - suc p in
    let s : suc d + p ≡ q = omega arith in
    moved d x (omega arith) hx
    (power-injective p (times_power (suc d) x) x (power-lt (suc d) x hx) hx
    (sym (power-add (suc d) p x) ∙ ap (λ (n : ℕ). times_power n x) s ∙ sym e))

pub all-powers-differ : (p q x : ℕ) → (p ≡ q → ⊥) → p < 255 → q < 255 → x < 2 ^ 8 → times_power p x ≡ times_power q x → x ≡ 0
all-powers-differ p q x n hp hq hx e =
    elim (dec_lt p q) [ yes h ↦ ordered p q x h hq hx e | no h ↦ ordered q p x (omega arith) hp hx (sym e) ]

-- ---- every byte but 0 is every other times a power of the root

pub record Reached (y x : ℕ) : Type 0 where
  pub k : ℕ
  pub small : k < 255
  pub is : times_power k y ≡ x

same_log : (x y : ℕ) → x < 2 ^ 8 → y < 2 ^ 8 → (x ≡ 0 → ⊥) → (y ≡ 0 → ⊥) → log_of x % 255 ≡ log_of y % 255 → x ≡ y
same_log x y hx hy nx ny e =
    let a = log-at x hx nx in
    let b = log-at y hy ny in
    let sa = a.small in
    let sb = b.small in
    let q : log_of x ≡ log_of y = omega arith in
    sym a.power ∙ ap (λ (n : ℕ). get_or (powers_from 255 1) n 0) q ∙ b.power

pub reached : (y x : ℕ) → y < 2 ^ 8 → x < 2 ^ 8 → (y ≡ 0 → ⊥) → (x ≡ 0 → ⊥) → Reached y x
reached y x hy hx ny nx =
    let sy = (log-at y hy ny).small in
    let k = (log_of x + (255 - log_of y)) % 255 in
    let r = log-power k y hy ny in
    let q : log_of (times_power k y) % 255 ≡ log_of x % 255 = omega arith in
    let l : k < 255 = omega arith in
    record {
      k = k;
      small = l;
      is = same_log (times_power k y) x (power-lt k y hy) hx (λ z. ny (power-zero-only k y hy z)) nx q;
    }

-- ---- a product is 0 only where one of its bytes is

product-zero : (a b : ℕ) → a < 2 ^ 8 → b < 2 ^ 8 → (b ≡ 0 → ⊥) → field_product a b ≡ 0 → a ≡ 0
product-zero a b ha hb nb e =
    let one : 1 < 2 ^ 8 = lit< tt in
    let r = reached 1 b one hb (λ z. omega arith) nb in
    power-zero-only r.k a ha
    (ap (times_power r.k) (sym (product-one byte_step a ha)) ∙ sym (product-power a r.k 1) ∙ ap (field_product a) r.is ∙ e)

pub no-product : (a b : ℕ) → a < 2 ^ 8 → b < 2 ^ 8 → field_product a b ≡ 0 → (a ≡ 0) ⊎ (b ≡ 0)
no-product a b ha hb e = elim (ℕ_discrete b 0) [ yes z ↦ inr z | no z ↦ inl (product-zero a b ha hb z e) ]
