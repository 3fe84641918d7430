-- One column, and the first n columns: how many bytes they have and which stands where. Assumes nothing.
use mathlib.Core.Path.{◌≡◌, refl, sym, ap, ◌∙◌}
use mathlib.Core.List.{List, [], ◌∷◌}
use mathlib.Core.Logic.{inl, inr}
use Prim.Native.Nat.{ℕ, zero, suc, ◌+◌, ◌-◌, ◌*◌, ◌/◌, ◌%◌, ◌≤◌, ◌<◌}
use native.Mathlib.Nat.{suc-mul, add-mul, mul-add, mul_comm, mul-le-mul_right, mod-lt, mod-eq_of_lt, div-add-mod', div-eq_of_lt, add-div_right, add-mod_right}
use native.Mathlib.Omega.{arith}
use lib.ListN.{length, get_or, length-append, get_or-append}
use lib.Seq.{get_or-append-add}
use borrow.Author.Tests.{eq-eqb, ne_eqb}
use Rattle.interleave.specs.Interleaving.{with_remainder, first_columns, column_start}
use Rattle.interleave.proofs.Remainders.{less-or-not, same-remainder, count_of, count-more, count_less, below-count}

-- ---- one column

-- every byte after g others, then after v others, and so on
every : ℕ → ℕ → List ℕ → List ℕ
every v zero [] = []
every v zero (b ∷ bytes) = b ∷ every v v bytes
every v (suc g) [] = []
every v (suc g) (b ∷ bytes) = every v g bytes

every-at : (v : ℕ) (bytes : List ℕ) (g k i : ℕ) → i ≡ g + k * suc v → get_or (every v g bytes) k 0 ≡ get_or bytes i 0
unfolding every
every-at v [] zero k i e = refl
every-at v [] (suc g) k i e = refl
every-at v (b ∷ bytes) zero zero zero e = refl
every-at v (b ∷ bytes) zero zero (suc i) e = absurd (let z : ⊥ = omega arith in z)
every-at v (b ∷ bytes) zero (suc k) zero e = absurd (let z : ⊥ = omega (arith, suc-mul k (suc v)) in z)
every-at v (b ∷ bytes) zero (suc k) (suc i) e = every-at v bytes v k i (omega (arith, suc-mul k (suc v)))
every-at v (b ∷ bytes) (suc g) k zero e = absurd (let z : ⊥ = omega arith in z)
every-at v (b ∷ bytes) (suc g) k (suc i) e = every-at v bytes g k i (omega arith)

every-length : (v : ℕ) (bytes : List ℕ) (g : ℕ) → g ≤ v → length (every v g bytes) ≡ (length bytes + (v - g)) / suc v
unfolding every
every-length v [] zero h = sym (div-eq_of_lt (omega arith))
every-length v [] (suc g) h = sym (div-eq_of_lt (omega arith))
every-length v (b ∷ bytes) zero h =
    let e : length bytes + (v - v) ≡ length bytes = omega arith in
    let f : suc (length bytes) + (v - 0) ≡ length bytes + suc v = omega arith in
    let s = every-length v bytes v (omega arith) ∙ ap (λ (n : ℕ). n / suc v) e in
    rw f (omega (arith, s, add-div_right (length bytes) {k = suc v} (omega arith)))
every-length v (b ∷ bytes) (suc g) h =
    let f : suc (length bytes) + (v - suc g) ≡ length bytes + (v - g) = omega arith in
    rw f (every-length v bytes g (omega arith))

-- the bytes of a column are W apart
is-every : (v r : ℕ) (bytes : List ℕ) (i g : ℕ) → (i + g) % suc v ≡ r → g ≤ v → with_remainder (suc v) r i bytes ≡ every v g bytes
unfolding with_remainder every
is-every v r [] i zero e h = refl
is-every v r [] i (suc g) e h = refl
is-every v r (b ∷ bytes) i zero e h =
    let z : i + 0 ≡ i = omega arith in
    let s : suc i + v ≡ i + suc v = omega arith in
    let t : i % suc v ≡ r = ap (λ (n : ℕ). n % suc v) (sym z) ∙ e in
    rw (eq-eqb (i % suc v) r t)
    (ap (◌∷◌ b) (is-every v r bytes (suc i) v (ap (λ (n : ℕ). n % suc v) s ∙ add-mod_right i (suc v) ∙ t) (omega arith)))
is-every v r (b ∷ bytes) i (suc g) e h =
    let s : suc i + g ≡ i + suc g = omega arith in
    let n : (i % suc v ≡ r → ⊥) = λ q. same-remainder (suc v) i (suc g) (omega arith) (omega arith) (q ∙ sym e) in
    rw (ne_eqb (i % suc v) r n) (is-every v r bytes (suc i) g (ap (λ (n : ℕ). n % suc v) s ∙ e) (omega arith))

-- byte k of column r is byte k * W + r of the file
column-at : (W r : ℕ) → r < W → (file : List ℕ) (k : ℕ) → get_or (with_remainder W r 0 file) k 0 ≡ get_or file (k * W + r) 0
column-at zero r h file k = absurd (let z : ⊥ = omega arith in z)
column-at (suc v) r h file k =
    let z : 0 + r ≡ r = omega arith in
    ap (λ (l : List ℕ). get_or l k 0) (is-every v r file 0 r (ap (λ (n : ℕ). n % suc v) z ∙ mod-eq_of_lt h) (omega arith))
    ∙ every-at v file r k (k * suc v + r) (omega arith)

column-length : (W r : ℕ) → r < W → (file : List ℕ) → length (with_remainder W r 0 file) ≡ count_of W (length file) r
column-length zero r h file = absurd (let z : ⊥ = omega arith in z)
column-length (suc v) r h file =
    let z : 0 + r ≡ r = omega arith in
    let p : suc v - 1 ≡ v = omega arith in
    ap length (is-every v r file 0 r (ap (λ (n : ℕ). n % suc v) z ∙ mod-eq_of_lt h) (omega arith))
    ∙ every-length v file r (omega arith) ∙ ap (λ (n : ℕ). (length file + (n - r)) / suc v) (sym p)

-- ---- where the columns begin

module _ (W F : ℕ) where
  pub start-zero : column_start W F 0 ≡ 0
  unfolding column_start
  start-zero = omega arith

  pub start-suc : (r : ℕ) → r < W → column_start W F (suc r) ≡ column_start W F r + count_of W F r
  unfolding column_start
  start-suc r h =
      let s = suc-mul r (F / W) in
      elim (less-or-not r (F % W)) [
        | inl few ↦ let c = count-more W F r h few in omega arith
        | inr many ↦ let c = count_less W F r h many in omega arith
      ]

  pub start-mono : (r n : ℕ) → r ≤ n → column_start W F r ≤ column_start W F n
  unfolding column_start
  start-mono r n h = let m = mul-le-mul_right (F / W) h in omega arith

  pub start-last : 1 ≤ W → column_start W F W ≡ F
  unfolding column_start
  start-last h =
      let m = mod-lt F {m = W} (omega arith) in
      let d = div-add-mod' F W in
      let c = mul_comm W (F / W) in
      omega arith

  -- the first columns have a byte of the last line, which is short; the others do not
  pub start-longer : (r x : ℕ) → r + x ≤ F % W → column_start W F (r + x) ≡ column_start W F r + x * (F / W + 1)
  unfolding column_start
  start-longer r x h = let s = add-mul r x (F / W) in let m = mul-add x (F / W) 1 in omega arith

  pub start-shorter : (r x : ℕ) → F % W ≤ r → column_start W F (r + x) ≡ column_start W F r + x * (F / W)
  unfolding column_start
  start-shorter r x h = let s = add-mul r x (F / W) in omega arith

  pub start-le : 1 ≤ W → (r : ℕ) → r ≤ W → column_start W F r ≤ F
  start-le least r h = let m = start-mono r W h in let l = start-last least in omega arith

-- ---- the first n columns

module _ (W : ℕ) (file : List ℕ) where
  pub columns-length : (n : ℕ) → n ≤ W → length (first_columns W n file) ≡ column_start W (length file) n
  unfolding first_columns
  columns-length zero h = sym (start-zero W (length file))
  columns-length (suc n) h =
      let before = columns-length n (omega arith) in
      let last = column-length W n (omega arith) file in
      let next = start-suc W (length file) n (omega arith) in
      simp length-append (omega arith)

  pub columns-at : (n : ℕ) → n ≤ W → (r k : ℕ) → r < n → k * W + r < length file
      → get_or (first_columns W n file) (column_start W (length file) r + k) 0 ≡ get_or file (k * W + r) 0
  unfolding first_columns
  columns-at zero h r k below within = absurd (let z : ⊥ = omega arith in z)
  columns-at (suc n) h r k below within =
      elim (less-or-not r n) [
        | inl b ↦
            let inside : column_start W (length file) r + k < length (first_columns W n file) = omega (
              arith,
              columns-length n (omega arith),
              start-suc W (length file) r (omega arith),
              start-mono W (length file) (suc r) n (omega arith),
              below-count W (length file) r (omega arith) k within,
            ) in
            get_or-append (first_columns W n file) (with_remainder W n 0 file) 0 (column_start W (length file) r + k) inside
            ∙ columns-at n (omega arith) r k b within
        | inr b ↦
            let e : r ≡ n = omega arith in
            rw (e, ← columns-length n (omega arith), get_or-append-add) (column-at W n (omega arith) file k)
      ]
