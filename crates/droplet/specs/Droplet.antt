-- Document 01, "Droplet": the degree, the set of segments that a seed picks, and the payload. Assumes nothing.
use Rattle.std.specs.Prelude.{◌≡◌, Bool, true, false, cond, ℕ, zero, suc, ◌-◌, ◌*◌, ◌%◌, eqb, ltb, take, drop, replicate}
use mathlib.Core.List.{List, [], ◌∷◌, ◌++◌, foldl}
use Rattle.field.specs.declared.generator.Draw.{Draw}
use Rattle.field.specs.Bytes.{xor_lists, padded}
use Rattle.field.specs.Generator.{of_seed, after_draw, number_drawn}
use Rattle.droplet.specs.PoolCard.{weight_count, first_weights, weight_sum}

-- the least number from d on, within `steps` steps, whose first weights sum to more than r
unfoldable pub degree_from : List ℕ → ℕ → ℕ → ℕ → ℕ
degree_from weights r zero d = d
degree_from weights r (suc steps) d = cond (ltb r (first_weights weights d)) d (degree_from weights r steps (suc d))

-- "The degree d is the least d whose first d weights sum to more than r"
unfoldable pub degree : List ℕ → ℕ → ℕ
degree weights r = degree_from weights r (weight_count weights) 0

unfoldable pub member : ℕ → List ℕ → Bool
member t [] = false
member t (x ∷ xs) = cond (eqb x t) true (member t xs)

-- "segment t joins the set if it is not in it, otherwise segment j joins"
abbrev pub joining : List ℕ → ℕ → ℕ → ℕ
joining set j t = cond (member t set) j t

-- "for j = .. one draw modulo (j+1) gives t": `more` draws after a state, from j on
unfoldable pub pick_from : ℕ → Draw → ℕ → List ℕ → List ℕ
pick_from zero state j set = set
pick_from (suc more) state j set =
    pick_from more (after_draw state) (suc j) (set ++ (joining set j (number_drawn (after_draw state) % suc j) ∷ []))

-- the degree of a seed: "the first draw modulo the sum of all weights gives r"
unfoldable pub degree_of : List ℕ → ℕ → ℕ
degree_of weights seed = degree weights (number_drawn (after_draw (of_seed seed)) % weight_sum weights)

-- the set of segments that a seed picks out of K, in the order in which they join
unfoldable pub segments_of : List ℕ → ℕ → ℕ → List ℕ
segments_of weights K seed = pick_from (degree_of weights seed) (after_draw (of_seed seed)) (K - degree_of weights seed) []

-- "The set has just d segments": no segment stands in the list twice
abbrev pub Distinct : List ℕ → Type 0
Distinct [] = Unit {0}
Distinct (x ∷ xs) = (member x xs ≡ false) × Distinct xs

-- segment i of a file, L bytes: "bytes of the last segment past F are 0"
unfoldable pub segment : ℕ → List ℕ → ℕ → List ℕ
segment L file i = padded L (take L (drop (i * L) file))

-- "The payload is the XOR of these segments"
unfoldable pub payload : ℕ → List ℕ → List ℕ → List ℕ
payload L file set = foldl (λ p i. xor_lists p (segment L file i)) (replicate L 0) set
