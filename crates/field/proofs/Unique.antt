-- Parity is the only list of R bytes, R at most 4, with which a message vanishes: a word of n bytes that vanishes at n
-- powers of the root is 0, since divided by x + a^i at its root a^i it leaves n - 1 bytes that vanish at the others.
-- Assumes nothing.
use Rattle.std.proofs.Common.{◌≡◌, ℕ, zero, suc, ◌+◌, ◌^◌, ◌<◌, ◌≤◌, ◌↔◌, List, [], ◌∷◌, ◌++◌, length, sym, refl, ap, ◌∙◌, subst, ap₂, arith, lit<}
use lib.Bits.{bit_xor, xor_zero_r, xor_self}
use Rattle.field.specs.Bytes.{AllBytes, xor_lists}
use Rattle.field.specs.CheckBytes.{times_power, horner, Vanishes, parity}
use Rattle.field.proofs.Xor.{xors, xor-zero-eq}
use Rattle.field.proofs.ByteLists.{xor_lists-length, xor_lists-bytes}
use Rattle.field.proofs.Powers.{power-xor, power_zero, power-comm, powers-differ}
use Rattle.field.proofs.Horner.{horner-append, horner-xor, horner-first, turn-lt, horner-lt}
use Rattle.field.proofs.Parity.{parity-length, parity-bytes, parity-vanishes}

-- ---- division by x + a^i

-- the quotient's bytes, where a is the value at a^i of what stands before
quotient : ℕ → ℕ → List ℕ → List ℕ
quotient i a [] = []
quotient i a (b ∷ bs) = a ∷ quotient i (bit_xor (times_power i a) b) bs

quotient-length : (i a : ℕ) (l : List ℕ) → length (quotient i a l) ≡ length l
unfolding quotient
quotient-length i a [] = refl
quotient-length i a (b ∷ bs) = ap suc (quotient-length i (bit_xor (times_power i a) b) bs)

quotient-bytes : (i a : ℕ) (l : List ℕ) → a < 2 ^ 8 → AllBytes l → AllBytes (quotient i a l)
unfolding quotient
quotient-bytes i a [] h hs = tt
quotient-bytes i a (b ∷ bs) h hs = (h, quotient-bytes i (bit_xor (times_power i a) b) bs (turn-lt i a b h hs.0) hs.1)

quotient-value : (i j v a : ℕ) (l : List ℕ)
    → horner j (bit_xor (bit_xor (times_power j v) (times_power i v)) a) l
    ≡ (let q = horner j v (quotient i a l) in bit_xor (bit_xor (times_power j q) (times_power i q)) (horner i a l))
unfolding quotient horner
quotient-value i j v a [] = refl
quotient-value i j v a (b ∷ bs) =
    let w = bit_xor (times_power j v) a in
    let e : bit_xor (times_power j (bit_xor (bit_xor (times_power j v) (times_power i v)) a)) b
    ≡ bit_xor (bit_xor (times_power j w) (times_power i w)) (bit_xor (times_power i a) b) = simp (power-xor, power-comm i j, xors) in
    ap (λ (y : ℕ). horner j y bs) e ∙ quotient-value i j w (bit_xor (times_power i a) b) bs

abbrev pub Zeros : List ℕ → Type 0
Zeros [] = Unit {0}
Zeros (x ∷ xs) = (x ≡ 0) × Zeros xs

-- a word is 0 where its quotient and its remainder are
quotient-zero : (i a : ℕ) (l : List ℕ) → Zeros (quotient i a l) → horner i a l ≡ 0 → Zeros (a ∷ l)
unfolding quotient horner
quotient-zero i a [] z v = (v, tt)
quotient-zero i a (b ∷ bs) z v =
    let r = quotient-zero i (bit_xor (times_power i a) b) bs z.1 v in
    let e : bit_xor (times_power i a) b ≡ b = rw (z.0, power_zero) in
    (z.0, (sym e ∙ r.0, r.1))

-- the quotient vanishes where the word does, but at the root that was divided out
quotient-vanishes : (i j b : ℕ) (bs : List ℕ) → i < j → j < 4 → AllBytes (b ∷ bs) → horner i b bs ≡ 0 → horner j b bs ≡ 0
    → horner j 0 (quotient i b bs) ≡ 0
quotient-vanishes i j b bs h hj hs vi vj =
    let q = horner j 0 (quotient i b bs) in
    let e : horner j b bs ≡ bit_xor (bit_xor (times_power j q) (times_power i q)) (horner i b bs) =
    simp power_zero at (quotient-value i j 0 b bs) in
    let z : bit_xor (times_power j q) (times_power i q) ≡ 0 =
    sym (xor_zero_r _) ∙ ap (bit_xor (bit_xor (times_power j q) (times_power i q))) (sym vi) ∙ sym e ∙ vj in
    powers-differ i j q h hj
    (horner-lt j 0 (quotient i b bs) (lit< tt) (quotient-bytes i b bs hs.0 hs.1))
    (sym (xor-zero-eq (times_power j q) (times_power i q) z))

zero_word : (n i : ℕ) (l : List ℕ) → length l ≡ n → i + n ≤ 4 → AllBytes l
    → ((j : ℕ) → i ≤ j → j < i + n → horner j 0 l ≡ 0) → Zeros l
zero_word zero i [] e h hs v = tt
zero_word zero i (b ∷ bs) e h hs v = absurd (let z : ⊥ = omega arith in z)
zero_word (suc n) i [] e h hs v = tt
zero_word (suc n) i (b ∷ bs) e h hs v =
    let vi = sym (horner-first i b bs) ∙ v i (omega arith) (omega arith) in
    quotient-zero i b bs
    (zero_word n (suc i) (quotient i b bs) (omega (arith, quotient-length i b bs)) (omega arith)
    (quotient-bytes i b bs hs.0 hs.1)
    (λ j k m. quotient-vanishes i j b bs k (omega arith) hs vi (sym (horner-first j b bs) ∙ v j (omega arith) (omega arith)))) vi

pub xor_lists-zero : (xs ys : List ℕ) → length xs ≡ length ys → Zeros (xor_lists xs ys) → xs ≡ ys
unfolding xor_lists
xor_lists-zero [] [] e z = refl
xor_lists-zero [] (y ∷ ys) e z = absurd (let n : ⊥ = omega arith in n)
xor_lists-zero (x ∷ xs) [] e z = absurd (let n : ⊥ = omega arith in n)
xor_lists-zero (x ∷ xs) (y ∷ ys) e z = ap₂ ◌∷◌ (xor-zero-eq x y z.0) (xor_lists-zero xs ys (omega arith) z.1)

-- two lists of R bytes that a message vanishes with are equal
unique : (R : ℕ) (message p q : List ℕ) → R ≤ 4 → length p ≡ R → length q ≡ R → AllBytes p → AllBytes q
    → Vanishes R (message ++ p) → Vanishes R (message ++ q) → p ≡ q
unique R message p q h ep eq hp hq vp vq =
    xor_lists-zero p q (ep ∙ sym eq)
    (zero_word R 0 (xor_lists p q) (xor_lists-length p q (ep ∙ sym eq) ∙ ep) (omega arith) (xor_lists-bytes p q hp hq)
    (λ j k m. ap (λ (y : ℕ). horner j y (xor_lists p q)) (sym (xor_self (horner j 0 message)))
    ∙ horner-xor j (horner j 0 message) (horner j 0 message) p q (ep ∙ sym eq)
    ∙ ap₂ bit_xor (sym (horner-append j 0 message p) ∙ vp j (omega arith)) (sym (horner-append j 0 message q) ∙ vq j (omega arith))))

-- R bytes vanish with a message just where they are its parity: one fact over R
pub parity-only : (R : ℕ) (message p : List ℕ) → R ≤ 4 → AllBytes message → AllBytes p → length p ≡ R
    → Vanishes R (message ++ p) ↔ (p ≡ parity R message)
parity-only R message p h hm hp e = (
  λ v. unique R message p (parity R message) h e (parity-length R message) hp (parity-bytes R message hm) v (parity-vanishes R message),
  λ q. subst (λ (l : List ℕ). Vanishes R (message ++ l)) (sym q) (parity-vanishes R message),
)
