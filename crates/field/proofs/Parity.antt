-- A message followed by its parity is 0 at a^0 .. a^(R-1), for every R: multiples of the generator polynomial are, and long
-- division takes one of them off at each byte. Assumes nothing.
use Rattle.std.proofs.Common.{◌≡◌, ℕ, zero, suc, ◌^◌, ◌<◌, List, [], ◌∷◌, ◌++◌, length, replicate, sym, refl, ap, ◌∙◌, ap₂, not-suc-le-zero, arith, lit<, length-append}
use mathlib.Core.List.{foldl}
use native.Mathlib.Decide.{dec_lt}
use lib.Bits.{bit_xor, xor_zero_r, xor_self, xor_lt}
use lib.ListN.{length-replicate}
use Rattle.field.specs.Bytes.{IsByte, AllBytes, xor_lists}
use Rattle.field.specs.CheckBytes.{times_power, horner, Vanishes, by_root, multiple, remainder_after, parity}
use Rattle.field.proofs.Xor.{xors, xor-through}
use Rattle.field.proofs.ByteLists.{xor_lists-length, xor_lists-bytes, zeros-bytes, all_append}
use Rattle.field.proofs.Powers.{power-xor, power_zero, power-comm, power-lt}
use Rattle.field.proofs.Horner.{horner-append, horner-xor, horner-zeros}

-- ---- multiples of the generator polynomial

-- the value of what `by_root` gives, where g is the value of what stands before p
by_root-value : (i j g p : ℕ) (l : List ℕ)
    → horner j (bit_xor (bit_xor (times_power j g) p) (times_power i g)) (by_root i p l)
    ≡ (let h = horner j (bit_xor (times_power j g) p) l in bit_xor (times_power j h) (times_power i h))
unfolding by_root horner
by_root-value i j g p [] = simp (power-xor, power-comm i j, xors)
by_root-value i j g p (x ∷ xs) =
    let h = bit_xor (times_power j g) p in
    let e : bit_xor (times_power j (bit_xor h (times_power i g))) (bit_xor x (times_power i p)) ≡ bit_xor (bit_xor (times_power j h) x) (times_power i h) =
    simp (power-xor, power-comm i j, xors) in
    ap (λ (v : ℕ). horner j v (by_root i x xs)) e ∙ by_root-value i j h x xs

root-value : (i j f : ℕ) (l : List ℕ)
    → horner j f (by_root i f l) ≡ (let h = horner j f l in bit_xor (times_power j h) (times_power i h))
root-value i j f l = simp (power_zero, xor_zero_r) at (by_root-value i j 0 f l)

multiple-vanishes : (R f j : ℕ) → j < R → horner j f (multiple R f) ≡ 0
unfolding multiple
multiple-vanishes zero f j h = absurd (not-suc-le-zero h)
multiple-vanishes (suc r) f j h = root-value r j f (multiple r f) ∙ go (dec_lt j r) (multiple-vanishes r f j)
  where
    go : Dec (j < r) → (j < r → horner j f (multiple r f) ≡ 0)
        → bit_xor (times_power j (horner j f (multiple r f))) (times_power r (horner j f (multiple r f))) ≡ 0
    go (yes k) ih = simp (ih k, power_zero)
    go (no n) ih = let e : j ≡ r = omega arith in rw (e, xor_self)

by_root-length : (i p : ℕ) (l : List ℕ) → length (by_root i p l) ≡ suc (length l)
unfolding by_root
by_root-length i p [] = refl
by_root-length i p (x ∷ xs) = ap suc (by_root-length i x xs)

multiple-length : (R f : ℕ) → length (multiple R f) ≡ R
unfolding multiple
multiple-length zero f = refl
multiple-length (suc r) f = by_root-length r f (multiple r f) ∙ ap suc (multiple-length r f)

by_root-bytes : (i p : ℕ) (l : List ℕ) → p < 2 ^ 8 → AllBytes l → AllBytes (by_root i p l)
unfolding by_root
by_root-bytes i p [] h hs = (power-lt i p h, tt)
by_root-bytes i p (x ∷ xs) h hs = (xor_lt 8 x (times_power i p) hs.0 (power-lt i p h), by_root-bytes i x xs hs.0 hs.1)

multiple-bytes : (R f : ℕ) → f < 2 ^ 8 → AllBytes (multiple R f)
unfolding multiple
multiple-bytes zero f h = tt
multiple-bytes (suc r) f h = by_root-bytes r f (multiple r f) h (multiple-bytes r f h)

-- ---- long division

module _ (R : ℕ) where
  shifted-length : (x : ℕ) (xs : List ℕ) → length (x ∷ xs) ≡ R → length (xs ++ (0 ∷ [])) ≡ R
  shifted-length x xs e = simp length-append (omega arith)

  pub remainder-length : (reg : List ℕ) (b : ℕ) → length reg ≡ R → length (remainder_after R reg b) ≡ R
  unfolding remainder_after
  remainder-length [] b e = e
  remainder-length (x ∷ xs) b e =
      let n = shifted-length x xs e in
      xor_lists-length (xs ++ (0 ∷ [])) (multiple R (bit_xor x b)) (n ∙ sym (multiple-length R (bit_xor x b))) ∙ n

  division-length : (reg l : List ℕ) → length reg ≡ R → length (foldl (remainder_after R) reg l) ≡ R
  division-length reg [] e = e
  division-length reg (b ∷ bs) e = division-length (remainder_after R reg b) bs (remainder-length reg b e)

  remainder-bytes : (reg : List ℕ) (b : ℕ) → b < 2 ^ 8 → AllBytes reg → AllBytes (remainder_after R reg b)
  unfolding remainder_after
  remainder-bytes [] b h hs = tt
  remainder-bytes (x ∷ xs) b h hs =
      xor_lists-bytes (xs ++ (0 ∷ [])) (multiple R (bit_xor x b)) (all_append IsByte xs (0 ∷ []) hs.1 (lit< tt, tt))
      (multiple-bytes R (bit_xor x b) (xor_lt 8 x b hs.0 h))

  division-bytes : (reg l : List ℕ) → AllBytes reg → AllBytes l → AllBytes (foldl (remainder_after R) reg l)
  division-bytes reg [] hr hs = hr
  division-bytes reg (b ∷ bs) hr hs = division-bytes (remainder_after R reg b) bs (remainder-bytes reg b hs.0 hr) hs.1

  -- what vanishes with the register before a byte vanishes with it after
  remainder-value : (i s b : ℕ) (reg : List ℕ) → i < R → length reg ≡ R → horner i s reg ≡ 0
      → horner i (bit_xor (times_power i s) b) (remainder_after R reg b) ≡ 0
  unfolding remainder_after horner
  remainder-value i s b [] h e v = omega arith
  remainder-value i s b (x ∷ xs) h e v =
      let f = bit_xor x b in
      let u = bit_xor (times_power i s) x in
      ap (λ (w : ℕ). horner i w (xor_lists (xs ++ (0 ∷ [])) (multiple R f))) (xor-through (times_power i s) x b)
      ∙ horner-xor i u f (xs ++ (0 ∷ [])) (multiple R f) (shifted-length x xs e ∙ sym (multiple-length R f))
      ∙ ap₂ bit_xor (horner-append i u xs (0 ∷ []) ∙ ap (λ (y : ℕ). bit_xor (times_power i y) 0) v) (multiple-vanishes R f i h)
      ∙ ap (λ (y : ℕ). bit_xor (bit_xor y 0) 0) (power_zero i)

  division-value : (i s : ℕ) (reg l : List ℕ) → i < R → length reg ≡ R → horner i s reg ≡ 0
      → horner i (horner i s l) (foldl (remainder_after R) reg l) ≡ 0
  unfolding horner
  division-value i s reg [] h e v = v
  division-value i s reg (b ∷ bs) h e v =
      division-value i (bit_xor (times_power i s) b) (remainder_after R reg b) bs h (remainder-length reg b e)
      (remainder-value i s b reg h e v)

  pub parity-length : (message : List ℕ) → length (parity R message) ≡ R
  unfolding parity
  parity-length message = division-length (replicate R 0) message (length-replicate R 0)

  pub parity-bytes : (message : List ℕ) → AllBytes message → AllBytes (parity R message)
  unfolding parity
  parity-bytes message hs = division-bytes (replicate R 0) message (zeros-bytes R) hs

  -- a message followed by its parity vanishes
  pub parity-vanishes : (message : List ℕ) → Vanishes R (message ++ parity R message)
  unfolding parity
  parity-vanishes message i h =
      horner-append i 0 message (parity R message)
      ∙ division-value i 0 (replicate R 0) message h (length-replicate R 0) (horner-zeros i R)
