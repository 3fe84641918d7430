-- The distance of two words: what it is to be 0, and what becomes of it when a byte is changed. Assumes nothing.
use mathlib.Core.Path.{◌≡◌, refl, sym, ap₂, ◌∙◌}
use mathlib.Core.List.{List, [], ◌∷◌}
use Prim.Native.Nat.{ℕ, zero, suc, ◌+◌, ◌^◌, ◌<◌, ◌≤◌}
use native.Mathlib.Omega.{arith}
use native.Mathlib.Decide.{ℕ_discrete}
use borrow.Author.Tests.{eq-eqb, ne_eqb}
use lib.Dec.{lit<, lit≤}
use lib.ListN.{length, get_or, set}
use Rattle.field.specs.Bytes.{AllBytes}
use Rattle.correction.specs.Correction.{differs, distance}

-- ---- two bytes

pub differs-same : (x y : ℕ) → x ≡ y → differs x y ≡ 0
unfolding differs
differs-same x y e = rw (eq-eqb x y e)

pub differs-other : (x y : ℕ) → (x ≡ y → ⊥) → differs x y ≡ 1
unfolding differs
differs-other x y n = rw (ne_eqb x y n)

pub differs-most : (x y : ℕ) → differs x y ≤ 1
differs-most x y = elim (ℕ_discrete x y) [ yes e ↦ omega (arith, differs-same x y e) | no n ↦ omega (arith, differs-other x y n) ]

differs-between : (x y z : ℕ) → differs x z ≤ differs x y + differs z y
differs-between x y z =
    elim (ℕ_discrete x y) [
      | yes p ↦ elim (ℕ_discrete z y)
          [ yes q ↦ omega (arith, differs-same x z (p ∙ sym q)) | no q ↦ omega (arith, differs-other z y q, differs-most x z) ]
      | no p ↦ omega (arith, differs-other x y p, differs-most x z)
    ]

-- ---- two words

pub distance-same : (w : List ℕ) → distance w w ≡ 0
unfolding distance
distance-same [] = refl
distance-same (x ∷ xs) = omega (arith, differs-same x x refl, distance-same xs)

pub distance_none : (u v : List ℕ) → length u ≡ length v → distance u v ≤ 0 → u ≡ v
unfolding distance
distance_none [] [] e h = refl
distance_none [] (y ∷ ys) e h = absurd (let z : ⊥ = omega arith in z)
distance_none (x ∷ xs) [] e h = absurd (let z : ⊥ = omega arith in z)
distance_none (x ∷ xs) (y ∷ ys) e h =
    elim (ℕ_discrete x y) [
      | yes q ↦ ap₂ ◌∷◌ q (distance_none xs ys (omega arith) (omega arith))
      | no q ↦ absurd (let z : ⊥ = omega (arith, differs-other x y q) in z)
    ]

-- by way of a third word
pub distance-between : (v w u : List ℕ) → length v ≡ length w → length u ≡ length w → distance v u ≤ distance v w + distance u w
unfolding distance
distance-between [] w u e f = omega arith
distance-between (x ∷ xs) w [] e f = omega arith
distance-between (x ∷ xs) [] (z ∷ zs) e f = omega arith
distance-between (x ∷ xs) (y ∷ ys) (z ∷ zs) e f =
    omega (arith, differs-between x y z, distance-between xs ys zs (omega arith) (omega arith))

-- ---- a byte changed

pub set-bytes : (v : List ℕ) (j b : ℕ) → AllBytes v → b < 2 ^ 8 → AllBytes (set v j b)
set-bytes [] j b h hb = tt
set-bytes (x ∷ xs) zero b h hb = (hb, h.1)
set-bytes (x ∷ xs) (suc j) b h hb = (h.0, set-bytes xs j b h.1 hb)

pub byte_at : (v : List ℕ) (j : ℕ) → AllBytes v → get_or v j 0 < 2 ^ 8
byte_at [] j h = lit< tt
byte_at (x ∷ xs) zero h = h.0
byte_at (x ∷ xs) (suc j) h = byte_at xs j h.1

pub set-distance : (v w : List ℕ) (j b : ℕ) → length v ≡ length w → distance (set v j b) w ≤ suc (distance v w)
unfolding distance
set-distance [] w j b e = lit≤ tt
set-distance (x ∷ xs) [] j b e = absurd (let z : ⊥ = omega arith in z)
set-distance (x ∷ xs) (y ∷ ys) zero b e = omega (arith, differs-most b y)
set-distance (x ∷ xs) (y ∷ ys) (suc j) b e = omega (arith, set-distance xs ys j b (omega arith))

-- two words that differ have a place at which a byte of the one makes the other nearer
pub record Nearer (u v : List ℕ) : Type 0 where
  pub place : ℕ
  pub inside : place < length v
  pub nearer : suc (distance u (set v place (get_or u place 0))) ≤ distance u v

pub nearer-place : (u v : List ℕ) → length u ≡ length v → 0 < distance u v → Nearer u v
unfolding distance
nearer-place [] v e h = absurd (let z : ⊥ = omega arith in z)
nearer-place (x ∷ xs) [] e h = absurd (let z : ⊥ = omega arith in z)
nearer-place (x ∷ xs) (y ∷ ys) e h =
    elim (ℕ_discrete x y) [
      | no n ↦ record { place = 0; inside = omega arith; nearer = omega (arith, differs-same x x refl, differs-other x y n) }
      | yes q ↦
          let same = differs-same x y q in
          let rest = nearer-place xs ys (omega arith) (omega arith) in
          let less = rest.nearer in
          let within = rest.inside in
          record { place = suc rest.place; inside = omega arith; nearer = omega arith }
    ]
