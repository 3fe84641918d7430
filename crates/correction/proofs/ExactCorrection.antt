-- The search of the definition finds the codeword within R/2 bytes of a read exactly if there is one. Assumes nothing.
use mathlib.Core.Path.{◌≡◌, refl, sym, ap, ap₂, ◌∙◌, subst}
use mathlib.Core.Bool.{Bool, true, false, cond}
use mathlib.Core.List.{List}
use Prim.Native.Nat.{ℕ, zero, suc, ◌+◌, ◌/◌, ◌<◌, ◌≤◌}
use native.Mathlib.Omega.{arith}
use native.Mathlib.Decide.{dec_le}
use lib.ListN.{length, get_or, set, length-set}
use Rattle.field.specs.Bytes.{AllBytes}
use Rattle.field.specs.CheckBytes.{Vanishes}
use Rattle.correction.specs.Correction.{distance, Corrected, codeword, none, or_else, first_of, within, corrected, Near, CorrectsExactly}
use Rattle.correction.proofs.Distances.{distance-same, distance_none, set-bytes, byte_at, set-distance, nearer-place}
use Rattle.correction.proofs.AtMostOne.{at_most_one}
use Rattle.correction.proofs.Codewords.{sums-vanish, vanish-sums}

-- ---- the first answer

not_none : {word : List ℕ} {k : ℕ} → codeword word k ≡ none → ⊥
not_none e = let z : ◌≡◌ {A = ℕ} 0 1 = cc in omega arith

none_left : (a b : Corrected) → or_else a b ≡ none → a ≡ none
none_left (codeword v k) b e = e
none_left none b e = refl

none_right : (a b : Corrected) → or_else a b ≡ none → b ≡ none
none_right (codeword v k) b e = absurd (not_none e)
none_right none b e = e

none_each : (n : ℕ) (f : ℕ → Corrected) → first_of n f ≡ none → (k : ℕ) → k < n → f k ≡ none
unfolding first_of
none_each zero f e k h = absurd (let z : ⊥ = omega arith in z)
none_each (suc n) f e zero h = none_left (f zero) _ e
none_each (suc n) f e (suc k) h = none_each n (λ j. f (suc j)) (none_right (f zero) _ e) k (omega arith)

-- what holds of every answer but none holds of the first one
Found : (List ℕ → ℕ → Type 0) → Corrected → Type 0
Found P (codeword v k) = P v k
Found P none = Unit {0}

found-else : (P : List ℕ → ℕ → Type 0) (a b : Corrected) → Found P a → Found P b → Found P (or_else a b)
found-else P (codeword v k) b ha hb = ha
found-else P none b ha hb = hb

found_first : (P : List ℕ → ℕ → Type 0) (n : ℕ) (f : ℕ → Corrected) → ((k : ℕ) → k < n → Found P (f k)) → Found P (first_of n f)
unfolding first_of Found
found_first P zero f h = tt
found_first P (suc n) f h = found-else P (f zero) _ (h zero (omega arith)) (found_first P n (λ k. f (suc k)) (λ k l. h (suc k) (omega arith)))

found-if : (P : List ℕ → ℕ → Type 0) (b : Bool) (v : List ℕ) (k : ℕ) → (b ≡ true → P v k) → Found P (cond b (codeword v k) none)
unfolding Found
found-if P true v k h = h refl
found-if P false v k h = tt

-- ---- what is found is right, and where nothing is found there is nothing

record Right (R : ℕ) (read : List ℕ) (most : ℕ) (v : List ℕ) (k : ℕ) : Type 0 where
  bytes : AllBytes v
  size : length v ≡ length read
  sums : Vanishes R v
  close : distance v read ≤ most
  number : distance v read ≡ k

module _ (R : ℕ) (read : List ℕ) (few : R ≤ 4) where
  sound : (t most : ℕ) (v : List ℕ) → AllBytes v → length v ≡ length read → distance v read + t ≤ most → Found (Right R read most) (within R read t v)
  unfolding within
  sound zero most v hs e h =
      found-if _ _ v _ (λ q. record { bytes = hs; size = e; sums = sums-vanish R v few q; close = omega arith; number = refl })
  sound (suc t) most v hs e h =
      found-else _ (within R read t v) _ (sound t most v hs e (omega arith))
      (found_first _ (length v) _ (λ j hj. found_first _ 256 _ (λ b hb.
      sound t most (set v j b) (set-bytes v j b hs hb) (length-set v j b ∙ e) (omega (arith, set-distance v read j b e)))))

  complete : (t : ℕ) (v u : List ℕ) → length u ≡ length v → AllBytes u → Vanishes R u → distance u v ≤ t → within R read t v ≡ none → ⊥
  unfolding within
  complete zero v u e hs hv h n =
      let c = vanish-sums R v few (subst (Vanishes R) (distance_none u v e h) hv) in
      not_none (rw c at n)
  complete (suc t) v u e hs hv h n =
      elim (dec_le (distance u v) t) [
        | yes q ↦ complete t v u e hs hv q (none_left (within R read t v) _ n)
        | no q ↦
            let r = nearer-place u v e (omega arith) in
            let j = r.place in
            let b = get_or u j 0 in
            complete t (set v j b) u (e ∙ sym (length-set v j b)) hs hv (omega (arith, r.nearer))
            (none_each 256 (λ b. within R read t (set v j b))
            (none_each (length v) (λ j. first_of 256 (λ b. within R read t (set v j b))) (none_right (within R read t v) _ n) j r.inside)
            b (byte_at u j hs))
      ]

-- ---- the answers

module _ (R : ℕ) (read : List ℕ) (few : R ≤ 4) (size : length read ≤ 255) (hs : AllBytes read) where
  right : Found (Right R read (R / 2)) (corrected R read)
  unfolding corrected
  right = sound R read few (R / 2) (R / 2) read hs refl (omega (arith, distance-same read))

  near-found : (a : Corrected) → corrected R read ≡ a → (word : List ℕ) → Near R read word → a ≡ codeword word (distance word read)
  unfolding Found corrected
  near-found (codeword v k) e word n =
      let r : Right R read (R / 2) v k = subst (Found (Right R read (R / 2))) e right in
      let same = at_most_one R read v word size (record { bytes = r.bytes; size = r.size; sums = r.sums; close = r.close }) n in
      ap₂ codeword same (sym r.number ∙ ap (λ (x : List ℕ). distance x read) same)
  near-found none e word n = absurd (complete R read few (R / 2) read word n.size n.bytes n.sums n.close e)

  -- a near codeword is the one found
  pub corrected-near : (word : List ℕ) → Near R read word → corrected R read ≡ codeword word (distance word read)
  corrected-near = near-found (corrected R read) refl

  -- where none is near, none is found
  none_found : (a : Corrected) → Found (Right R read (R / 2)) a → ((word : List ℕ) → Near R read word → ⊥) → a ≡ none
  unfolding Found
  none_found (codeword v k) r f = absurd (f v (record { bytes = r.bytes; size = r.size; sums = r.sums; close = r.close }))
  none_found none r f = refl

  pub corrected-none : ((word : List ℕ) → Near R read word → ⊥) → corrected R read ≡ none
  corrected-none = none_found (corrected R read) right

  found-near : (word : List ℕ) (k : ℕ) → corrected R read ≡ codeword word k → Near R read word × (distance word read ≡ k)
  unfolding Found
  found-near word k e =
      let r : Right R read (R / 2) word k = subst (Found (Right R read (R / 2))) e right in
      (record { bytes = r.bytes; size = r.size; sums = r.sums; close = r.close }, r.number)

pub corrects-exactly : CorrectsExactly
corrects-exactly R read few size hs = record {
  at_most_one = λ word word'. at_most_one R read word word' size;
  found = λ word k. (found-near R read few size hs word k, λ n. corrected-near R read few size hs word n.0 ∙ ap (codeword word) n.1);
  missing = (λ e word n. not_none (sym (corrected-near R read few size hs word n) ∙ e), corrected-none R read few size hs);
}
