-- A file with one segment replaced: that segment, the others, and the bytes past it. Assumes nothing.
use mathlib.Core.Path.{◌≡◌, sym, ap, ◌∙◌}
use mathlib.Core.List.{List, [], ◌∷◌, ◌++◌, append-nil}
use Prim.Native.Nat.{ℕ, zero, suc, ◌+◌, ◌-◌, ◌*◌, ◌≤◌}
use native.Mathlib.Nat.{mul-le-mul_right, zero-add, suc-add}
use native.Mathlib.Decide.{dec_lt}
use native.Mathlib.Omega.{arith}
use lib.ListN.{length, take, drop, length-append, length-drop}
use lib.Seq.{length-take-le, take_at, drop_at, take-take, take-nil, drop-drop}
use Rattle.field.specs.Bytes.{padded}
use Rattle.droplet.specs.Droplet.{segment}

-- the file with `part` as its segment i
abbrev pub placed : ℕ → List ℕ → ℕ → List ℕ → List ℕ
placed L file i part = take (i * L) file ++ (part ++ drop (i * L + L) file)

-- a stretch of a list is the end of a front of it
stretch : (n m : ℕ) (l : List ℕ) → take m (drop n l) ≡ drop n (take (n + m) l)
stretch zero m l = rw zero-add
stretch (suc n) m [] = rw (suc-add n m) (take-nil m)
stretch (suc n) m (x ∷ l) = rw (suc-add n m) (stretch n m l)

-- a segment of the front of a file
pub segment-front : (L : ℕ) (file : List ℕ) (n i : ℕ) → i * L + L ≤ n → segment L (take n file) i ≡ segment L file i
unfolding segment
segment-front L file n i h = rw (stretch (i * L) L (take n file), stretch (i * L) L file, take-take (i * L + L) n file h)

-- the segment that stands behind i whole segments
pub segment-behind : (L i : ℕ) (front part rest : List ℕ) → length front ≡ i * L → length part ≡ L → segment L (front ++ (part ++ rest)) i ≡ part
unfolding segment padded
segment-behind L i front part rest f p =
    let none : L - length part ≡ 0 = omega arith in
    rw (drop_at front (part ++ rest) (i * L) f, take_at part rest L p, none) (append-nil part)

module _ (L : ℕ) (file : List ℕ) (i : ℕ) (part : List ℕ) (size : length part ≡ L) (fits : i * L + L ≤ length file) where
  front-size : length (take (i * L) file) ≡ i * L
  front-size = length-take-le (i * L) file (omega arith)

  pub placed-length : length (placed L file i part) ≡ length file
  placed-length = simp (length-append, length-drop, front-size, size) (omega arith)

  from-segment : drop (i * L) (placed L file i part) ≡ part ++ drop (i * L + L) file
  from-segment = drop_at (take (i * L) file) (part ++ drop (i * L + L) file) (i * L) front-size

  pub placed_past : (n : ℕ) → i * L + L ≤ n → drop n (placed L file i part) ≡ drop n file
  placed_past n h =
      let e : i * L + L + (n - (i * L + L)) ≡ n = omega arith in
      rw (
        ← e,
        ← drop-drop (n - (i * L + L)) (i * L + L) (placed L file i part),
        ← drop-drop L (i * L) (placed L file i part),
        from-segment,
        drop_at part (drop (i * L + L) file) L size,
      )
      (drop-drop (n - (i * L + L)) (i * L + L) file)

  placed-before : take (i * L) (placed L file i part) ≡ take (i * L) file
  placed-before = take_at (take (i * L) file) (part ++ drop (i * L + L) file) (i * L) front-size

  pub placed_same : segment L (placed L file i part) i ≡ part
  placed_same = segment-behind L i (take (i * L) file) part (drop (i * L + L) file) front-size size

  pub placed-other : (j : ℕ) → (j ≡ i → ⊥) → segment L (placed L file i part) j ≡ segment L file j
  placed-other j n =
      elim (dec_lt j i) [
        | yes h ↦
            let before : j * L + L ≤ i * L = omega (arith, mul-le-mul_right L h) in
            sym (segment-front L (placed L file i part) (i * L) j before) ∙ ap (λ (l : List ℕ). segment L l j) placed-before
            ∙ segment-front L file (i * L) j before
        | no h ↦
            let past : suc i ≤ j = omega arith in
            unfold segment in rw (placed_past (j * L) (omega (arith, mul-le-mul_right L past)))
      ]
