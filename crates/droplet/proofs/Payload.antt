-- The payload: L bytes, each the XOR of that byte of the segments, whatever the order of the set. Assumes nothing.
use mathlib.Core.Path.{◌≡◌, refl, sym, ap, ap₂, ◌∙◌}
use mathlib.Core.List.{List, [], ◌∷◌, ◌++◌, foldl, append-nil}
use Prim.Native.Nat.{ℕ, zero, suc, ◌+◌, ◌-◌, ◌*◌, ◌<◌}
use native.Mathlib.Omega.{arith}
use lib.Bits.{bit_xor}
use lib.ListN.{length, get_or, take, drop, replicate, length-take, length-replicate}
use lib.Seq.{get_or-take, get_or-drop}
use Rattle.field.specs.Bytes.{IsByte, AllBytes, xor_lists, padded}
use Rattle.field.proofs.ByteLists.{all_take, all_drop, zeros-bytes, xor_lists-length, xor_lists-bytes, xor_lists-at, xor_lists-comm, xor_lists-assoc, xor_lists-left-comm, padded-length, padded-bytes}
use Rattle.droplet.specs.Droplet.{segment, payload}
use Rattle.droplet.specs.Loops.{byte_sum}

-- ---- a segment

zeros-at : (n j : ℕ) → get_or (replicate {A = ℕ} n 0) j 0 ≡ 0
zeros-at zero j = refl
zeros-at (suc n) zero = refl
zeros-at (suc n) (suc j) = zeros-at n j

padding-at : (l : List ℕ) (n j : ℕ) → get_or (l ++ replicate n 0) j 0 ≡ get_or l j 0
padding-at [] n j = zeros-at n j
padding-at (x ∷ xs) n zero = refl
padding-at (x ∷ xs) n (suc j) = padding-at xs n j

module _ (L : ℕ) (file : List ℕ) (s : ℕ) where
  pub segment-length : length (segment L file s) ≡ L
  unfolding segment
  segment-length = padded-length L (take L (drop (s * L) file)) (omega (arith, length-take L (drop (s * L) file)))

  pub segment-bytes : AllBytes file → AllBytes (segment L file s)
  unfolding segment
  segment-bytes h = padded-bytes L (take L (drop (s * L) file)) (all_take IsByte L (drop (s * L) file) (all_drop IsByte (s * L) file h))

  -- byte j is the file's, and 0 past its end
  pub segment-at : (j : ℕ) → j < L → get_or (segment L file s) j 0 ≡ get_or file (s * L + j) 0
  unfolding segment padded
  segment-at j h =
      let part = take L (drop (s * L) file) in
      padding-at part (L - length part) j ∙ get_or-take L (drop (s * L) file) j 0 h ∙ get_or-drop (s * L) file j 0

-- ---- the XOR of the segments

module _ (L : ℕ) (file : List ℕ) where
  -- p with the segments of a set XORed in
  abbrev added : List ℕ → List ℕ → List ℕ
  added p set = foldl (λ q i. xor_lists q (segment L file i)) p set

  -- what is XORed in first can be XORed in last
  added-shift : (p q set : List ℕ) → added (xor_lists p q) set ≡ xor_lists p (added q set)
  added-shift p q [] = refl
  added-shift p q (s ∷ set) =
      ap (λ (l : List ℕ). added l set) (xor_lists-assoc p q (segment L file s)) ∙ added-shift p (xor_lists q (segment L file s)) set

  pub payload-cons : (s : ℕ) (set : List ℕ) → payload L file (s ∷ set) ≡ xor_lists (segment L file s) (payload L file set)
  unfolding payload
  payload-cons s set =
      ap (λ (l : List ℕ). added l set) (xor_lists-comm (replicate L 0) (segment L file s))
      ∙ added-shift (segment L file s) (replicate L 0) set

  -- the order of the set never matters
  pub payload-insert : (xs : List ℕ) (s : ℕ) (ys : List ℕ)
      → payload L file (xs ++ (s ∷ ys)) ≡ xor_lists (segment L file s) (payload L file (xs ++ ys))
  payload-insert [] s ys = payload-cons s ys
  payload-insert (x ∷ xs) s ys =
      payload-cons x (xs ++ (s ∷ ys)) ∙ ap (xor_lists (segment L file x)) (payload-insert xs s ys)
      ∙ xor_lists-left-comm (segment L file x) (segment L file s) (payload L file (xs ++ ys))
      ∙ ap (xor_lists (segment L file s)) (sym (payload-cons x (xs ++ ys)))

  pub payload-last : (xs : List ℕ) (s : ℕ) → payload L file (xs ++ (s ∷ [])) ≡ xor_lists (payload L file xs) (segment L file s)
  payload-last xs s = payload-insert xs s [] ∙ rw append-nil (xor_lists-comm (segment L file s) (payload L file xs))

  pub payload-length : (set : List ℕ) → length (payload L file set) ≡ L
  unfolding payload
  payload-length [] = length-replicate L 0
  payload-length (s ∷ set) =
      ap length (payload-cons s set)
      ∙ xor_lists-length (segment L file s) (payload L file set) (segment-length L file s ∙ sym (payload-length set))
      ∙ segment-length L file s

  pub payload-at : (set : List ℕ) (j : ℕ) → j < L → get_or (payload L file set) j 0 ≡ byte_sum L file j set
  unfolding payload byte_sum
  payload-at [] j h = zeros-at L j
  payload-at (s ∷ set) j h =
      ap (λ (l : List ℕ). get_or l j 0) (payload-cons s set)
      ∙ xor_lists-at (segment L file s) (payload L file set) j (segment-length L file s ∙ sym (payload-length set))
      ∙ ap₂ bit_xor (segment-at L file s j h) (payload-at set j h)

  pub payload-bytes : (set : List ℕ) → AllBytes file → AllBytes (payload L file set)
  unfolding payload
  payload-bytes [] h = zeros-bytes L
  payload-bytes (s ∷ set) h =
      rw (payload-cons s set) (xor_lists-bytes (segment L file s) (payload L file set) (segment-bytes L file s h) (payload-bytes set h))
