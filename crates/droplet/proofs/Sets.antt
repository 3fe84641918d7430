-- The set of segments that a seed picks: as many as its degree, each below K, and no two equal. Assumes nothing.
use mathlib.Core.Path.{◌≡◌, refl, sym, ◌∙◌}
use mathlib.Core.Bool.{false, ◌||◌, true≢false}
use mathlib.Core.List.{List, [], ◌∷◌, ◌++◌}
use mathlib.Core.Logic.{inl, inr}
use Prim.Native.Nat.{ℕ, zero, suc, ◌+◌, ◌-◌, ◌%◌, ◌≤◌, ◌<◌}
use native.Mathlib.Nat.{mod-lt, zero-lt-suc, le_refl}
use native.Mathlib.Omega.{arith}
use lib.Dec.{eqb}
use lib.ListN.{length, length-append}
use borrow.Author.Tests.{eqb-false, ne_eqb}
use Rattle.std.specs.List.{list_any}
use Rattle.field.specs.declared.generator.Draw.{Draw}
use Rattle.field.specs.Bytes.{All}
use Rattle.field.specs.Generator.{of_seed, after_draw, number_drawn}
use Rattle.field.proofs.Tests.{either}
use Rattle.field.proofs.ByteLists.{all_append}
use Rattle.droplet.specs.PoolCard.{weight_count, weight_sum}
use Rattle.droplet.specs.Droplet.{member, joining, pick_from, degree_of, segments_of, Distinct}
use Rattle.droplet.proofs.Degree.{degree_of-most}

-- ---- membership

pub member-append : (t : ℕ) (xs ys : List ℕ) → member t (xs ++ ys) ≡ (member t xs || member t ys)
unfolding member
member-append t [] ys = refl
member-append t (x ∷ xs) ys = elim (either (eqb x t)) [ inl e ↦ rw e | inr e ↦ rw e (member-append t xs ys) ]

-- what the library's `contains` answers
pub list_any-member : (t : ℕ) (xs : List ℕ) → list_any (λ y. eqb y t) xs ≡ member t xs
unfolding member
list_any-member t [] = refl
list_any-member t (x ∷ xs) = elim (either (eqb x t)) [ inl e ↦ rw e | inr e ↦ rw e (list_any-member t xs) ]

-- a list of numbers below K has no other
pub member_below : (K t : ℕ) (xs : List ℕ) → All (λ s. s < K) xs → K ≤ t → member t xs ≡ false
unfolding member
member_below K t [] hs h = refl
member_below K t (x ∷ xs) hs h = rw (ne_eqb x t (λ q. omega arith)) (member_below K t xs hs.1 h)

all-below : (j k : ℕ) (xs : List ℕ) → j ≤ k → All (λ s. s < j) xs → All (λ s. s < k) xs
all-below j k [] h hs = tt
all-below j k (x ∷ xs) h hs = (omega (arith, hs.0), all-below j k xs h hs.1)

not-member : (t x : ℕ) (xs : List ℕ) → member t (x ∷ xs) ≡ false → (x ≡ t → ⊥) × (member t xs ≡ false)
unfolding member
not-member t x xs h =
    elim (either (eqb x t)) [ inl e ↦ absurd (true≢false (rw e at h)) | inr e ↦ (eqb-false x t e, rw e at h) ]

-- one more number that is new
distinct_more : (xs : List ℕ) (s : ℕ) → Distinct xs → member s xs ≡ false → Distinct (xs ++ (s ∷ []))
unfolding member
distinct_more [] s d e = (refl, tt)
distinct_more (x ∷ xs) s d e =
    let n = not-member s x xs e in
    (member-append x xs (s ∷ []) ∙ rw (d.0, ne_eqb s x (λ q. n.0 (sym q))), distinct_more xs s d.1 n.1)

-- ---- the draws

-- what joins is at most j, and new
joins-new : (set : List ℕ) (j t : ℕ) → All (λ s. s < j) set → t < suc j
    → (joining set j t < suc j) × (member (joining set j t) set ≡ false)
joins-new set j t hs h =
    elim (either (member t set)) [ inl e ↦ rw e (omega arith, member_below j j set hs (le_refl j)) | inr e ↦ rw e (h, e) ]

pub pick-length : (more : ℕ) (state : Draw) (j : ℕ) (set : List ℕ) → length (pick_from more state j set) ≡ length set + more
unfolding pick_from
pick-length zero state j set = omega arith
pick-length (suc more) state j set =
    pick-length more (after_draw state) (suc j) _ ∙ simp length-append (omega arith)

pub picked : (more : ℕ) (state : Draw) (j : ℕ) (set : List ℕ) → All (λ s. s < j) set → Distinct set
    → All (λ s. s < j + more) (pick_from more state j set) × Distinct (pick_from more state j set)
unfolding pick_from
picked zero state j set hs d = (all-below j _ set (omega arith) hs, d)
picked (suc more) state j set hs d =
    let t = number_drawn (after_draw state) % suc j in
    let new = joins-new set j t hs (mod-lt _ (zero-lt-suc j)) in
    let e : suc j + more ≡ j + suc more = omega arith in
    rw (← e)
    (picked more (after_draw state) (suc j) (set ++ (joining set j t ∷ []))
    (all_append (λ s. s < suc j) set (joining set j t ∷ []) (all-below j (suc j) set (omega arith) hs) (new.0, tt))
    (distinct_more set (joining set j t) d new.1))

-- ---- the set of a seed

module _ (ws : List ℕ) (K seed : ℕ) where
  pub segments-length : length (segments_of ws K seed) ≡ degree_of ws seed
  unfolding segments_of
  segments-length = pick-length (degree_of ws seed) (after_draw (of_seed seed)) (K - degree_of ws seed) [] ∙ omega arith

  pub segments-distinct : Distinct (segments_of ws K seed)
  unfolding segments_of
  segments-distinct = (picked (degree_of ws seed) (after_draw (of_seed seed)) (K - degree_of ws seed) [] tt tt).1

  pub segments-below : 1 ≤ weight_sum ws → weight_count ws ≤ K → All (λ s. s < K) (segments_of ws K seed)
  unfolding segments_of
  segments-below positive fits =
      let e : K - degree_of ws seed + degree_of ws seed ≡ K = omega (arith, degree_of-most ws seed positive) in
      rw e at (picked (degree_of ws seed) (after_draw (of_seed seed)) (K - degree_of ws seed) [] tt tt).0
