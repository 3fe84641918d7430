-- Two words of at most 255 bytes with R syndromes 0 that differ in at most R bytes are equal, for every R. Assumes nothing.
use mathlib.Core.Path.{◌≡◌, refl, sym, ap, ap₂, ◌∙◌}
use mathlib.Core.List.{List, [], ◌∷◌}
use Prim.Native.Nat.{ℕ, zero, suc, ◌+◌, ◌*◌, ◌-◌, ◌<◌, ◌≤◌}
use native.Mathlib.Omega.{arith}
use native.Mathlib.Nat.{suc-mul}
use native.Mathlib.Decide.{ℕ_discrete}
use lib.Bits.{bit_xor, xor_lt, xor_self, xor_zero_l, xor_zero_r}
use lib.Dec.{lit≤}
use lib.ListN.{length}
use Rattle.field.specs.Bytes.{AllBytes, xor_lists}
use Rattle.field.specs.CheckBytes.{times_power, horner, value_at, Vanishes}
use Rattle.field.proofs.Xor.{xors, xor-zero-eq}
use Rattle.field.proofs.ByteLists.{xor_lists-length, xor_lists-bytes}
use Rattle.field.proofs.Powers.{power-xor, power_zero, power-lt, power-comm, power-add}
use Rattle.field.proofs.Horner.{horner-xor}
use Rattle.field.proofs.Weights.{weighted, value-weighted}
use Rattle.field.proofs.Unique.{Zeros, xor_lists-zero}
use Rattle.correction.specs.Correction.{differs, distance, Near}
use Rattle.correction.proofs.Distances.{differs-same, differs-other, differs-most, distance-between}
use Rattle.correction.proofs.RootPowers.{all-powers-differ}

-- the value of a word by its first byte
pub value-cons : (i x : ℕ) (xs : List ℕ) → value_at i (x ∷ xs) ≡ bit_xor (times_power (i * length xs) x) (value_at i xs)
unfolding weighted
value-cons i x xs = value-weighted i (x ∷ xs) ∙ ap (bit_xor (times_power (i * length xs) x)) (sym (value-weighted i xs))

pub power-next : (i p x : ℕ) → times_power (suc i * p) x ≡ times_power p (times_power (i * p) x)
power-next i p x = ap (λ (n : ℕ). times_power n x) (suc-mul i p) ∙ power-add (i * p) p x

-- ---- a place thinned out

-- each byte times the difference of its place's power and the p-th: the byte at place p becomes 0
thinned : ℕ → List ℕ → List ℕ
thinned p [] = []
thinned p (x ∷ xs) = bit_xor (times_power (length xs) x) (times_power p x) ∷ thinned p xs

thinned-length : (p : ℕ) (l : List ℕ) → length (thinned p l) ≡ length l
unfolding thinned
thinned-length p [] = refl
thinned-length p (x ∷ xs) = ap suc (thinned-length p xs)

thinned-bytes : (p : ℕ) (l : List ℕ) → AllBytes l → AllBytes (thinned p l)
unfolding thinned
thinned-bytes p [] h = tt
thinned-bytes p (x ∷ xs) h =
    (xor_lt 8 _ _ (power-lt (length xs) x h.0) (power-lt p x h.0), thinned-bytes p xs h.1)

thinned-turn : (i m p x u v : ℕ)
    → bit_xor (times_power (i * m) (bit_xor (times_power m x) (times_power p x))) (bit_xor u (times_power p v))
    ≡ bit_xor (bit_xor (times_power (suc i * m) x) u) (times_power p (bit_xor (times_power (i * m) x) v))
thinned-turn i m p x u v = simp (power-xor, power-next i m x, power-comm m (i * m) x, power-comm p (i * m) x, xors)

thinned-value : (p i : ℕ) (l : List ℕ) → value_at i (thinned p l) ≡ bit_xor (value_at (suc i) l) (times_power p (value_at i l))
unfolding thinned
thinned-value p i [] = unfold horner in simp power_zero
thinned-value p i (x ∷ xs) =
    value-cons i (bit_xor (times_power (length xs) x) (times_power p x)) (thinned p xs)
    ∙ ap₂ (λ (n v : ℕ). bit_xor (times_power (i * n) (bit_xor (times_power (length xs) x) (times_power p x))) v) (thinned-length p xs) (thinned-value p i xs)
    ∙ thinned-turn i (length xs) p x (value_at (suc i) xs) (value_at i xs)
    ∙ sym (ap₂ (λ (u v : ℕ). bit_xor u (times_power p v)) (value-cons (suc i) x xs) (value-cons i x xs))

-- ---- the weight of a word: its bytes that are not 0

weight : List ℕ → ℕ
weight [] = 0
weight (x ∷ xs) = differs x 0 + weight xs

-- what is 0 wherever x is weighs no more than x
differs-below : (x y : ℕ) → (x ≡ 0 → y ≡ 0) → differs y 0 ≤ differs x 0
differs-below x y f =
    elim (ℕ_discrete x 0)
    [ yes e ↦ omega (arith, differs-same y 0 (f e)) | no n ↦ omega (arith, differs-other x 0 n, differs-most y 0) ]

thinned-weight : (p : ℕ) (l : List ℕ) → weight (thinned p l) ≤ weight l
unfolding thinned weight
thinned-weight p [] = lit≤ tt
thinned-weight p (x ∷ xs) =
    omega (arith, thinned-weight p xs, differs-below x (bit_xor (times_power (length xs) x) (times_power p x)) (λ e. rw e (simp power_zero)))

-- a thinned word is 0 only where the word is, if it ends before place p
thinned-zero : (p : ℕ) (l : List ℕ) → length l ≤ p → p < 255 → AllBytes l → Zeros (thinned p l) → Zeros l
unfolding thinned
thinned-zero p [] h hp hs z = tt
thinned-zero p (x ∷ xs) h hp hs z = (
  all-powers-differ (length xs) p x (λ e. omega arith) (omega arith) hp hs.0 (xor-zero-eq _ _ z.0),
  thinned-zero p xs (omega arith) hp hs.1 z.1,
)

-- ---- a word of at most R bytes that are not 0 and with R syndromes 0 has none that is not 0

zeros-value : (i : ℕ) (l : List ℕ) → Zeros l → value_at i l ≡ 0
zeros-value i [] z = unfold horner in refl
zeros-value i (x ∷ xs) z = value-cons i x xs ∙ rw (z.0, power_zero, zeros-value i xs z.1)

after-zero : (i x : ℕ) (l : List ℕ) → x ≡ 0 → value_at i (x ∷ l) ≡ value_at i l
after-zero i x l e = value-cons i x l ∙ simp (e, power_zero, xor_zero_l)

thinned-vanishes : (R x : ℕ) (xs : List ℕ) → Vanishes R (x ∷ xs) → (i : ℕ) → suc i < R → value_at i (thinned (length xs) xs) ≡ 0
unfolding thinned
thinned-vanishes R x xs v i h =
    let p = length xs in
    sym (after-zero i (bit_xor (times_power p x) (times_power p x)) (thinned p xs) (xor_self (times_power p x)))
    ∙ thinned-value p i (x ∷ xs) ∙ rw (v (suc i) h, v i (omega arith), power_zero)

first-zero : (x : ℕ) (xs : List ℕ) → Zeros xs → value_at 0 (x ∷ xs) ≡ 0 → x ≡ 0
first-zero x xs z v =
    let e : 0 * length xs ≡ 0 = omega arith in
    sym (xor_zero_r x) ∙ sym (value-cons 0 x xs ∙ rw (e, zeros-value 0 xs z) (unfold times_power in refl)) ∙ v

-- the first byte that is not 0 is thinned out, which takes one byte from the weight and one syndrome
zero_word : (n R : ℕ) (d : List ℕ) → length d ≡ n → n ≤ 255 → AllBytes d → weight d ≤ R → Vanishes R d → Zeros d
unfolding weight
zero_word zero R [] e h hs hw v = tt
zero_word zero R (x ∷ xs) e h hs hw v = absurd (let z : ⊥ = omega arith in z)
zero_word (suc n) R [] e h hs hw v = tt
zero_word (suc n) R (x ∷ xs) e h hs hw v =
    elim (ℕ_discrete x 0) [
      | yes q ↦ (
        q,
        zero_word n R xs (omega arith) (omega arith) hs.1 (omega arith) (λ i k. sym (after-zero i x xs q) ∙ v i k),
      )
      | no q ↦
          let p = length xs in
          let one = differs-other x 0 q in
          let z = thinned-zero p xs (omega arith) (omega arith) hs.1
          (zero_word n (R - 1) (thinned p xs) (omega (arith, thinned-length p xs)) (omega arith) (thinned-bytes p xs hs.1)
          (omega (arith, thinned-weight p xs))
          (λ i k. thinned-vanishes R x xs v i (omega arith))) in
          absurd (q (first-zero x xs z (v 0 (omega arith))))
    ]

-- ---- two words

xor-weight : (v w : List ℕ) → length v ≡ length w → weight (xor_lists v w) ≤ distance v w
unfolding weight distance xor_lists
xor-weight [] w e = lit≤ tt
xor-weight (x ∷ xs) [] e = absurd (let z : ⊥ = omega arith in z)
xor-weight (x ∷ xs) (y ∷ ys) e =
    let n : length xs ≡ length ys = omega arith in
    elim (ℕ_discrete x y) [
      | yes q ↦ omega (arith, xor-weight xs ys n, differs-same (bit_xor x y) 0 (rw (q, xor_self)))
      | no q ↦ omega (arith, xor-weight xs ys n, differs-other x y q, differs-most (bit_xor x y) 0)
    ]

vanishing-equal : (R : ℕ) (v u : List ℕ) → length v ≡ length u → length v ≤ 255 → AllBytes v → AllBytes u → distance v u ≤ R
    → Vanishes R v → Vanishes R u → v ≡ u
vanishing-equal R v u e h hv hu a vv vu =
    xor_lists-zero v u e
    (zero_word (length v) R (xor_lists v u) (xor_lists-length v u e) h (xor_lists-bytes v u hv hu) (omega (arith, xor-weight v u e))
    (λ i k. horner-xor i 0 0 v u e ∙ rw (vv i k, vu i k)))

-- so there is at most one codeword within R/2 bytes of a read
pub at_most_one : (R : ℕ) (read v u : List ℕ) → length read ≤ 255 → Near R read v → Near R read u → v ≡ u
at_most_one R read v u h a b =
    vanishing-equal R v u (a.size ∙ sym b.size) (omega (arith, a.size)) a.bytes b.bytes
    (omega (arith, distance-between v read u a.size b.size, a.close, b.close)) a.sums b.sums
