-- What stands in a list. Assumes nothing.
use Rattle.std.specs.Prelude.{◌≡◌, List, [], ◌∷◌, ◌⊎◌}

-- x stands in a list
abbrev pub Among : {A : Type 0} → A → List A → Type 0
Among x [] = ⊥
Among x (y ∷ ys) = (x ≡ y) ⊎ Among x ys

-- each element of a list stands in another, in whatever order and number
abbrev pub AllAmong : {A : Type 0} → List A → List A → Type 0
AllAmong {A} xs ys = (x : A) → Among x xs → Among x ys
