-- The tests of a place in the numbers that the loops keep: one place by the numbers that follow it, two by the locator. Assumes nothing.
use mathlib.Core.Path.{◌≡◌, refl, sym, ap, ◌∙◌}
use mathlib.Core.Bool.{Bool, true, false, ◌&&◌, ◌||◌}
use mathlib.Core.List.{List, [], ◌∷◌}
use Prim.Native.Nat.{ℕ, zero, suc, ◌+◌, ◌^◌, ◌<◌, ◌≤◌}
use native.Mathlib.Omega.{arith}
use native.Mathlib.Decide.{dec_le}
use Rattle.std.proofs.lemmas.Bool.{and_parts}
use borrow.Author.Tests.{eq-eqb, eqb-true, le-leb, lt-leb}
use lib.Bits.{bit_xor, xor_lt, xor_self}
use lib.Dec.{eqb, leb}
use Rattle.field.specs.CheckBytes.{double, times_power}
use Rattle.field.specs.Products.{field_product}
use Rattle.field.proofs.Xor.{xors, xor-zero-eq}
use Rattle.field.proofs.Powers.{power-lt, power-double}
use Rattle.field.proofs.FieldProducts.{determinant, geometric}
use Rattle.correction.specs.declared.locators.Locator.{Locator}
use Rattle.correction.specs.declared.locators.Scaled.{Scaled}
use Rattle.correction.specs.Locators.{at, Fits, without, follows, square, linear, constant, NoPlace, FirstPlace, NoTwoPlaces, FirstTwo}
use Rattle.correction.proofs.ErrorShapes.{fits-same}

pub power-turn : (p x y d : ℕ) → y ≡ times_power p x → d ≡ double y → d ≡ times_power (p + 1) x
unfolding times_power
power-turn p x y d e f =
    let n : p + 1 ≡ suc p = omega arith in
    f ∙ ap double e ∙ sym (ap (λ (k : ℕ). times_power k x) n ∙ power-double p x)

-- ---- one place

-- the parts of a test that passed
parts : (a k b l d : Bool) → (a && (k || (b && (l || d)))) ≡ true
    → (a ≡ true) × (k ≡ false → b ≡ true) × (k ≡ false → l ≡ false → d ≡ true)
parts a k b l d e =
    let r = and_parts a (k || (b && (l || d))) e in
    let q : k ≡ false → (b ≡ true) × ((l || d) ≡ true) = (λ h. and_parts b (l || d) (rest k (b && (l || d)) h r.1)) in
    (r.0, (λ h. (q h).0), (λ h g. rest l d g (q h).1))
  where
    rest : (x y : Bool) → x ≡ false → (x || y) ≡ true → y ≡ true
    rest x y e h = rw e at h

module _ (m p : ℕ) (s : List ℕ) (most : m ≤ 4) where
  follows-fits : follows m s (times_power p (at s 0)) (times_power p (at s 1)) (times_power p (at s 2)) ≡ true → Fits m (at s) p
  unfolding follows
  follows-fits e =
      let passed = parts (eqb (times_power p (at s 0)) (at s 1)) (leb m 2) (eqb (times_power p (at s 1)) (at s 2)) (leb m 3) (eqb (times_power p (at s 2)) (at s 3)) e in
      by_number passed
    where
      by_number : (eqb (times_power p (at s 0)) (at s 1) ≡ true) × (leb m 2 ≡ false → eqb (times_power p (at s 1)) (at s 2) ≡ true)
          × (leb m 2 ≡ false → leb m 3 ≡ false → eqb (times_power p (at s 2)) (at s 3) ≡ true) → Fits m (at s) p
      by_number passed zero h = sym (eqb-true _ _ passed.0)
      by_number passed (suc zero) h = sym (eqb-true _ _ (passed.1 (lt-leb m 2 h)))
      by_number passed (suc (suc zero)) h = let l : 2 < m = omega arith in sym (eqb-true _ _ (passed.2 (lt-leb m 2 l) (lt-leb m 3 h)))
      by_number passed (suc (suc (suc i))) h = absurd (let z : ⊥ = omega arith in z)

  fits-follows : 2 ≤ m → Fits m (at s) p → follows m s (times_power p (at s 0)) (times_power p (at s 1)) (times_power p (at s 2)) ≡ true
  unfolding follows
  fits-follows low f =
      elim (dec_le m 2) [
        | yes h ↦ rw (eq-eqb _ _ (sym (f 0 (omega arith))), le-leb m 2 h)
        | no h ↦
            let k : 2 < m = omega arith in
            elim (dec_le m 3) [
              | yes g ↦ rw (eq-eqb _ _ (sym (f 0 (omega arith))), lt-leb m 2 k, eq-eqb _ _ (sym (f 1 (omega arith))), le-leb m 3 g)
              | no g ↦
                  let l : 3 < m = omega arith in
                  rw (eq-eqb _ _ (sym (f 0 (omega arith))), lt-leb m 2 k, eq-eqb _ _ (sym (f 1 (omega arith))), lt-leb m 3 l, eq-eqb _ _ (sym (f 2 (omega arith))))
            ]
      ]

-- the three numbers that the loops keep at place p
pub record ScaledAt (p : ℕ) (s : List ℕ) (y : Scaled) : Type 0 where
  pub zeroth : y.y0 ≡ times_power p (at s 0)
  pub first : y.y1 ≡ times_power p (at s 1)
  pub second : y.y2 ≡ times_power p (at s 2)

pub scaled-zero : (s : List ℕ) (y : Scaled) → y.y0 ≡ at s 0 → y.y1 ≡ at s 1 → y.y2 ≡ at s 2 → ScaledAt 0 s y
unfolding times_power
scaled-zero s y e0 e1 e2 = record { zeroth = e0; first = e1; second = e2 }

pub scaled-turn : (p : ℕ) (s : List ℕ) (y d : Scaled) → ScaledAt p s y → d.y0 ≡ double y.y0 → d.y1 ≡ double y.y1 → d.y2 ≡ double y.y2
    → ScaledAt (p + 1) s d
scaled-turn p s y d h e0 e1 e2 = record {
  zeroth = power-turn p (at s 0) y.y0 d.y0 h.zeroth e0;
  first = power-turn p (at s 1) y.y1 d.y1 h.first e1;
  second = power-turn p (at s 2) y.y2 d.y2 h.second e2;
}

-- a turn of the search for one
module _ (m p : ℕ) (s : List ℕ) (most : m ≤ 4) (y : Scaled) (h : ScaledAt p s y) (r : Bool) (e : r ≡ follows m s y.y0 y.y1 y.y2) where
  tested : r ≡ follows m s (times_power p (at s 0)) (times_power p (at s 1)) (times_power p (at s 2))
  tested = rw (← h.zeroth, ← h.first, ← h.second) e

  pub hit : r ≡ true → Fits m (at s) p
  hit t = follows-fits m p s most (sym tested ∙ t)

  pub miss : 2 ≤ m → r ≡ false → Fits m (at s) p → ⊥
  miss low t f = let q = tested ∙ fits-follows m p s most low f in let z : ◌≡◌ {A = ℕ} 0 1 = cc in omega arith

-- ---- two places

-- the locator at place p
module _ (p : ℕ) (s : List ℕ) (bytes : (i : ℕ) → at s i < 2 ^ 8) where
  -- where a place fits with p, it is 0
  pub locator-zero : (j : ℕ) → Fits 3 (without p (at s)) j
      → bit_xor (bit_xor (constant s) (times_power p (linear s))) (times_power p (times_power p (square s))) ≡ 0
  unfolding without
  locator-zero j f =
      sym (determinant p (at s 0) (at s 1) (at s 2) (at s 3) (bytes 0) (bytes 1) (bytes 2) (bytes 3))
      ∙ ap (λ (x : ℕ). bit_xor x (field_product (without p (at s) 1) (without p (at s) 1)))
      (geometric (without p (at s) 0) (without p (at s) 1) (without p (at s) 2) j (xor-byte 0) (f 0 (omega arith)) (f 1 (omega arith)))
      ∙ xor_self (field_product (without p (at s) 1) (without p (at s) 1))
    where
      xor-byte : (i : ℕ) → without p (at s) i < 2 ^ 8
      xor-byte i = xor_lt 8 (at s (suc i)) (times_power p (at s i)) (bytes (suc i)) (power-lt p (at s i) (bytes i))

-- the terms of the locator that the loop keeps at place p
pub record LocatorAt (p : ℕ) (s : List ℕ) (l : Locator) : Type 0 where
  pub squared : l.square ≡ times_power p (times_power p (square s))
  pub plain : l.linear ≡ times_power p (linear s)
  pub constant_is : l.constant ≡ constant s

pub locator-turn : (p : ℕ) (s : List ℕ) (l n : Locator) → LocatorAt p s l → n.square ≡ double (double l.square) → n.linear ≡ double l.linear
    → n.constant ≡ l.constant → LocatorAt (p + 1) s n
locator-turn p s l n h e f g = record {
  squared =
      e ∙ ap double (power-turn p (times_power p (square s)) l.square _ h.squared refl) ∙ sym (power-double (p + 1) (times_power p (square s)))
      ∙ ap (times_power (p + 1)) (power-turn p (square s) _ _ refl refl);
  plain = power-turn p (linear s) l.linear n.linear h.plain f;
  constant_is = g ∙ h.constant_is;
}

sum_of : (c l s : ℕ) → bit_xor (bit_xor c l) s ≡ 0 → bit_xor s l ≡ c
sum_of c l s e = let d : bit_xor (bit_xor c l) l ≡ c = simp xors in ap (λ (x : ℕ). bit_xor x l) (sym (xor-zero-eq (bit_xor c l) s e)) ∙ d

-- where they say that it is not 0, no place fits with p
pub locator-miss : (p : ℕ) (s : List ℕ) (l : Locator) → ((i : ℕ) → at s i < 2 ^ 8) → LocatorAt p s l → (bit_xor l.square l.linear ≡ l.constant → ⊥)
    → (j : ℕ) → Fits 3 (without p (at s)) j → ⊥
locator-miss p s l bytes h n j f = n (rw (h.squared, h.plain, h.constant_is) (sum_of _ _ _ (locator-zero p s bytes j f)))

-- the list that the code makes of what p leaves
abbrev pub left_by : List ℕ → Scaled → List ℕ
left_by s y = bit_xor (at s 1) y.y0 ∷ bit_xor (at s 2) y.y1 ∷ bit_xor (at s 3) y.y2 ∷ 0 ∷ []

-- where they say that it is 0, the place below p that fits is searched for
module _ (p : ℕ) (s : List ℕ) (y : Scaled) (h : ScaledAt p s y) where
  left : (i : ℕ) → i < 3 → at (left_by s y) i ≡ without p (at s) i
  unfolding without
  left zero k = ap (bit_xor (at s 1)) h.zeroth
  left (suc zero) k = ap (bit_xor (at s 2)) h.first
  left (suc (suc zero)) k = ap (bit_xor (at s 3)) h.second
  left (suc (suc (suc i))) k = absurd (let z : ⊥ = omega arith in z)

  pub two-hit : (n q : ℕ) → p < n → NoTwoPlaces s p → FirstPlace 3 (left_by s y) p q → FirstTwo s n p q (bit_xor (at s 1) y.y0)
  two-hit n q below before f = record {
    below = below;
    before = before;
    order = f.below;
    here = fits-same 3 q _ _ left f.here;
    left = left 0 (omega arith);
  }

  pub two-miss : NoPlace 3 (left_by s y) p → (j : ℕ) → j < p → Fits 3 (without p (at s)) j → ⊥
  two-miss none j l g = none j l (fits-same 3 j _ _ (λ i m. sym (left i m)) g)
