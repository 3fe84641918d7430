-- Lists of bytes: XOR byte by byte, padding, and that bytes stay bytes. Assumes nothing.
use Rattle.std.proofs.Common.{◌≡◌, ℕ, zero, suc, ◌-◌, ◌<◌, ◌≤◌, List, [], ◌∷◌, ◌++◌, length, get_or, take, drop, replicate, sym, refl, ap, ◌∙◌, ap₂, zero-lt-suc, arith, lit<, length-append}
use lib.Bits.{bit_xor, xor_comm, xor_self, xor_zero_r, xor_lt}
use lib.ListN.{length-replicate}
use lib.Seq.{take-append_seam}
use Rattle.field.specs.Bytes.{All, IsByte, AllBytes, xor_lists, padded}
use Rattle.field.proofs.Xor.{xor_assoc, xor-cancel}

-- ---- P at each element

module _ (P : ℕ → Type 0) where
  pub all-at : (l : List ℕ) (d : ℕ) → All P l → (i : ℕ) → i < length l → P (get_or l i d)
  all-at [] d h i b = absurd (let z : ⊥ = omega arith in z)
  all-at (x ∷ xs) d h zero b = h.0
  all-at (x ∷ xs) d h (suc i) b = all-at xs d h.1 i (omega arith)

  pub all_from : (l : List ℕ) (d : ℕ) → ((i : ℕ) → i < length l → P (get_or l i d)) → All P l
  all_from [] d h = tt
  all_from (x ∷ xs) d h = (h 0 (zero-lt-suc (length xs)), all_from xs d (λ i b. h (suc i) (omega arith)))

  pub all_take : (n : ℕ) (l : List ℕ) → All P l → All P (take n l)
  all_take zero l h = tt
  all_take (suc n) [] h = tt
  all_take (suc n) (x ∷ xs) h = (h.0, all_take n xs h.1)

  pub all_drop : (n : ℕ) (l : List ℕ) → All P l → All P (drop n l)
  all_drop zero l h = h
  all_drop (suc n) [] h = tt
  all_drop (suc n) (x ∷ xs) h = all_drop n xs h.1

pub all_append : {A : Type 0} (P : A → Type 0) (a b : List A) → All P a → All P b → All P (a ++ b)
all_append P [] b ha hb = hb
all_append P (x ∷ xs) b ha hb = (ha.0, all_append P xs b ha.1 hb)

pub zeros-bytes : (n : ℕ) → AllBytes (replicate n 0)
zeros-bytes zero = tt
zeros-bytes (suc n) = (lit< tt, zeros-bytes n)

-- ---- XOR byte by byte

pub xor_lists-length : (xs ys : List ℕ) → length xs ≡ length ys → length (xor_lists xs ys) ≡ length xs
unfolding xor_lists
xor_lists-length [] ys e = refl
xor_lists-length (x ∷ xs) [] e = omega arith
xor_lists-length (x ∷ xs) (y ∷ ys) e = ap suc (xor_lists-length xs ys (omega arith))

pub xor_lists-bytes : (xs ys : List ℕ) → AllBytes xs → AllBytes ys → AllBytes (xor_lists xs ys)
unfolding xor_lists
xor_lists-bytes [] ys hx hy = tt
xor_lists-bytes (x ∷ xs) [] hx hy = tt
xor_lists-bytes (x ∷ xs) (y ∷ ys) hx hy = (xor_lt 8 x y hx.0 hy.0, xor_lists-bytes xs ys hx.1 hy.1)

pub xor_lists-at : (xs ys : List ℕ) (i : ℕ) → length xs ≡ length ys
    → get_or (xor_lists xs ys) i 0 ≡ bit_xor (get_or xs i 0) (get_or ys i 0)
unfolding xor_lists
xor_lists-at [] [] i e = refl
xor_lists-at [] (y ∷ ys) i e = omega arith
xor_lists-at (x ∷ xs) [] i e = omega arith
xor_lists-at (x ∷ xs) (y ∷ ys) zero e = refl
xor_lists-at (x ∷ xs) (y ∷ ys) (suc i) e = xor_lists-at xs ys i (omega arith)

pub xor_lists-comm : (xs ys : List ℕ) → xor_lists xs ys ≡ xor_lists ys xs
unfolding xor_lists
xor_lists-comm [] [] = refl
xor_lists-comm [] (y ∷ ys) = refl
xor_lists-comm (x ∷ xs) [] = refl
xor_lists-comm (x ∷ xs) (y ∷ ys) = ap₂ ◌∷◌ (xor_comm x y) (xor_lists-comm xs ys)

pub xor_lists-assoc : (xs ys zs : List ℕ) → xor_lists (xor_lists xs ys) zs ≡ xor_lists xs (xor_lists ys zs)
unfolding xor_lists
xor_lists-assoc [] ys zs = refl
xor_lists-assoc (x ∷ xs) [] zs = refl
xor_lists-assoc (x ∷ xs) (y ∷ ys) [] = refl
xor_lists-assoc (x ∷ xs) (y ∷ ys) (z ∷ zs) = ap₂ ◌∷◌ (xor_assoc x y z) (xor_lists-assoc xs ys zs)

pub xor_lists-left-comm : (xs ys zs : List ℕ) → xor_lists xs (xor_lists ys zs) ≡ xor_lists ys (xor_lists xs zs)
xor_lists-left-comm xs ys zs =
    sym (xor_lists-assoc xs ys zs) ∙ ap (λ (l : List ℕ). xor_lists l zs) (xor_lists-comm xs ys) ∙ xor_lists-assoc ys xs zs

-- any rearrangement of lists
pub ruleset list_xors = (xor_lists-assoc, xor_lists-comm, xor_lists-left-comm)

pub xor_lists-self : (xs : List ℕ) → xor_lists xs xs ≡ replicate (length xs) 0
unfolding xor_lists
xor_lists-self [] = refl
xor_lists-self (x ∷ xs) = ap₂ ◌∷◌ (xor_self x) (xor_lists-self xs)

pub xor_lists-zeros : (xs : List ℕ) → xor_lists xs (replicate (length xs) 0) ≡ xs
unfolding xor_lists
xor_lists-zeros [] = refl
xor_lists-zeros (x ∷ xs) = ap₂ ◌∷◌ (xor_zero_r x) (xor_lists-zeros xs)

pub xor_lists-cancel : (xs ys : List ℕ) → length xs ≡ length ys → xor_lists xs (xor_lists xs ys) ≡ ys
unfolding xor_lists
xor_lists-cancel [] [] e = refl
xor_lists-cancel [] (y ∷ ys) e = absurd (let z : ⊥ = omega arith in z)
xor_lists-cancel (x ∷ xs) [] e = absurd (let z : ⊥ = omega arith in z)
xor_lists-cancel (x ∷ xs) (y ∷ ys) e = ap₂ ◌∷◌ (xor-cancel x y) (xor_lists-cancel xs ys (omega arith))

-- ---- padding

pub padded-length : (n : ℕ) (l : List ℕ) → length l ≤ n → length (padded n l) ≡ n
unfolding padded
padded-length n l h = simp (length-append, length-replicate) (omega arith)

pub take-padded : (n : ℕ) (l : List ℕ) → take (length l) (padded n l) ≡ l
unfolding padded
take-padded n l = take-append_seam l (replicate (n - length l) 0)

pub padded-bytes : (n : ℕ) (l : List ℕ) → AllBytes l → AllBytes (padded n l)
unfolding padded
padded-bytes n l h = all_append IsByte l (replicate (n - length l) 0) h (zeros-bytes (n - length l))

-- an array of four numbers as its elements
pub four : (l : List ℕ) → length l ≡ 4 → l ≡ get_or l 0 0 ∷ get_or l 1 0 ∷ get_or l 2 0 ∷ get_or l 3 0 ∷ []
four [] e = absurd (let z : ⊥ = omega arith in z)
four (a ∷ []) e = absurd (let z : ⊥ = omega arith in z)
four (a ∷ (b ∷ [])) e = absurd (let z : ⊥ = omega arith in z)
four (a ∷ (b ∷ (c ∷ []))) e = absurd (let z : ⊥ = omega arith in z)
four (a ∷ (b ∷ (c ∷ (d ∷ [])))) e = refl
four (a ∷ (b ∷ (c ∷ (d ∷ (x ∷ xs))))) e = absurd (let z : ⊥ = omega arith in z)
