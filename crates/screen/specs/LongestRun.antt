-- What the longest run is, said without cutting the order into runs (document 02, Item 1). Assumes nothing.
use Rattle.std.specs.Prelude.{◌≡◌, Bool, true, false, ◌||◌, List, [], ◌∷◌, ◌++◌, ℕ, ◌≤◌, ◌<◌, length}
use Rattle.field.specs.Bytes.{All}
use Rattle.screen.specs.Screen.{OrderBase, base_of, is_strands, order_of, longest_run}

-- "at least one of its bases belongs to the strand"
unfoldable pub any_strands : List OrderBase → Bool
any_strands [] = false
any_strands (x ∷ xs) = is_strands x || any_strands xs

-- bases that stand in a row somewhere in an order, all of them equal, and at least one of them the strand's
pub record InARow (order row : List OrderBase) : Type 0 where
  pub before : List OrderBase
  pub after : List OrderBase
  pub base : ℕ
  pub stands : order ≡ before ++ (row ++ after)
  pub equal : All (λ x. base_of x ≡ base) row
  pub counts : any_strands row ≡ true

-- no such row is longer than the longest run, and one is as long, if the strand is not empty
pub record LongestIs (bases : List ℕ) : Type 0 where
  pub most : (row : List OrderBase) → InARow (order_of bases) row → length row ≤ longest_run bases
  pub met : 0 < length bases → (row : List OrderBase) × (InARow (order_of bases) row × (length row ≡ longest_run bases))
