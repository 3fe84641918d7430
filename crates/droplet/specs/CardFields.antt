-- Question 1 in the words of documents 01 and 02, field by field: what `well_formed` comes to. Assumes nothing.
use Rattle.std.specs.Prelude.{◌≡◌, true, List, ◌↔◌, ◌⊎◌, ℕ, ◌+◌, ◌%◌, length}
use Rattle.field.specs.Bytes.{AllBytes}
use Rattle.droplet.specs.PoolCard.{number_at, weights_start, well_formed}

-- "a one-byte tag, a two-byte length, then the content": a field of this tag and length starts at a place
abbrev pub FieldAt : ℕ → ℕ → ℕ → List ℕ → Type 0
FieldAt at tag size card = (number_at at 1 card ≡ tag) × (number_at (at + 1) 2 card ≡ size)

-- from a place on nothing, or a fourth field "tag 4, length 4" and nothing after it
abbrev pub WidthOrNothing : ℕ → List ℕ → Type 0
WidthOrNothing at card = (length card ≡ at) ⊎ (FieldAt at 4 4 card × (length card ≡ at + 7))

-- "tags 1, 2, 3 whole, lengths 6, 5 and a multiple of 4, nothing after" but the fourth field; each field starts where the content of
-- the one before ends
pub record WholeFields (card : List ℕ) : Type 0 where
  pub size : ℕ
  pub first : FieldAt 0 1 6 card
  pub second : FieldAt 9 2 5 card
  pub third : FieldAt 17 3 size card
  pub by_four : size % 4 ≡ 0
  pub after : WidthOrNothing (weights_start + size) card

-- a list of bytes is well-formed just if it is these fields
abbrev pub WellFormedIs : Type 0
WellFormedIs = (card : List ℕ) → AllBytes card → (well_formed card ≡ true) ↔ WholeFields card
