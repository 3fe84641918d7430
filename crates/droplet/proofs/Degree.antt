-- The degree: its first weights sum to more than r, those of no smaller number do, and it is from 1 to D. Assumes nothing.
use mathlib.Core.Path.{◌≡◌, refl}
use mathlib.Core.List.{List}
use Prim.Native.Nat.{ℕ, zero, suc, ◌+◌, ◌-◌, ◌%◌, ◌≤◌, ◌<◌}
use native.Mathlib.Nat.{zero-add, mod-lt}
use native.Mathlib.Numerals.{add-one}
use native.Mathlib.Omega.{arith}
use native.Mathlib.Decide.{dec_lt}
use borrow.Author.Count.{below_more}
use borrow.Author.Tests.{lt-ltb, le-ltb}
use Rattle.field.specs.Generator.{of_seed, after_draw, number_drawn}
use Rattle.droplet.specs.PoolCard.{weight_count, first_weights, weight_sum}
use Rattle.droplet.specs.Droplet.{degree_from, degree, degree_of}

-- ---- the search

module _ (ws : List ℕ) (r : ℕ) where
  pub degree-found : (steps d : ℕ) → r < first_weights ws d → degree_from ws r steps d ≡ d
  unfolding degree_from
  degree-found zero d h = refl
  degree-found (suc steps) d h = rw (lt-ltb r (first_weights ws d) h)

  degree-passed : (steps d : ℕ) → first_weights ws d ≤ r → degree_from ws r (suc steps) d ≡ degree_from ws r steps (suc d)
  unfolding degree_from
  degree-passed steps d h = rw (le-ltb r (first_weights ws d) h)

  -- a turn of the loop
  pub degree-next : (n d : ℕ) → d < n → first_weights ws d ≤ r → degree_from ws r (n - (d + 1)) (d + 1) ≡ degree_from ws r (n - d) d
  degree-next n d l h =
      let e : n - d ≡ suc (n - (d + 1)) = omega arith in
      rw (e, degree-passed (n - (d + 1)) d h, add-one d)

-- ---- what it finds

-- d is the degree that r gives
pub record IsDegree (ws : List ℕ) (r d : ℕ) : Type 0 where
  pub more : r < first_weights ws d
  pub least : (k : ℕ) → k < d → first_weights ws k ≤ r
  pub positive : 1 ≤ d
  pub most : d ≤ weight_count ws

module _ (ws : List ℕ) (r : ℕ) (enough : r < weight_sum ws) where
  found-positive : (d : ℕ) → r < first_weights ws d → 1 ≤ d
  unfolding first_weights
  found-positive zero h = omega arith
  found-positive (suc d) h = omega arith

  found : (steps d : ℕ) → d ≤ weight_count ws → ((k : ℕ) → k < d → first_weights ws k ≤ r) → r < first_weights ws d
      → IsDegree ws r (degree_from ws r steps d)
  found steps d h before more =
      rw (degree-found ws r steps d more) (record { more = more; least = before; positive = found-positive d more; most = h })

  -- where the numbers before `low` do not sum to more, and `steps` lead to D
  search-finds : (steps low : ℕ) → low + steps ≡ weight_count ws → ((k : ℕ) → k < low → first_weights ws k ≤ r)
      → IsDegree ws r (degree_from ws r steps low)
  search-finds zero low e before =
      let q : low ≡ weight_count ws = omega arith in
      found 0 low (omega arith) before (rw q enough)
  search-finds (suc steps) low e before =
      elim (dec_lt r (first_weights ws low)) [
        | yes l ↦ found (suc steps) low (omega arith) before l
        | no n ↦
            rw (degree-passed ws r steps low (omega arith))
            (search-finds steps (suc low) (omega arith)
            (λ k b. below_more (λ (m : ℕ). first_weights ws m ≤ r) low before (omega arith) k (omega arith)))
      ]

  pub degree-is : IsDegree ws r (degree ws r)
  unfolding degree
  degree-is = search-finds (weight_count ws) 0 (zero-add (weight_count ws)) (λ k b. omega arith)

-- ---- of a seed

module _ (ws : List ℕ) (seed : ℕ) (positive : 1 ≤ weight_sum ws) where
  pub degree_of-is : IsDegree ws (number_drawn (after_draw (of_seed seed)) % weight_sum ws) (degree_of ws seed)
  unfolding degree_of
  degree_of-is = degree-is ws _ (mod-lt _ positive)

  pub degree_of-positive : 1 ≤ degree_of ws seed
  degree_of-positive = degree_of-is.positive

  pub degree_of-most : degree_of ws seed ≤ weight_count ws
  degree_of-most = degree_of-is.most
