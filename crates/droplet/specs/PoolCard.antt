-- Document 01, "Pool card", with the field of document 02, Item 14: the card's fields, the numbers that it holds, and the lengths
-- that follow from them. Assumes nothing.
use Rattle.std.specs.Prelude.{Bool, cond, ◌&&◌, List, [], ◌∷◌, ◌++◌, ℕ, zero, suc, ◌+◌, ◌-◌, ◌*◌, ◌/◌, ◌%◌, eqb, leb, length, take, drop}
use Rattle.field.specs.Bytes.{from_big_endian, to_big_endian, same_bytes}
use Rattle.droplet.specs.declared.card.Card.{Card}
use Rattle.droplet.specs.declared.card.Bases.{Bases}
use Rattle.droplet.specs.declared.card.Bytes.{Bytes}

-- "Every number is most significant byte first": the number in n bytes from a place on
unfoldable pub number_at : ℕ → ℕ → List ℕ → ℕ
number_at at n bytes = from_big_endian (take n (drop at bytes))

-- the two bytes that spell a number; of one that needs more than two, the first is no byte
unfoldable pub to_two_bytes : ℕ → List ℕ
to_two_bytes n = n / 256 ∷ n % 256 ∷ []

-- "a one-byte tag, a two-byte length, then the content"
unfoldable pub field_bytes : ℕ → List ℕ → List ℕ
field_bytes tag content = tag ∷ (to_two_bytes (length content) ++ content)

-- "A card may carry a fourth field, tag 4, length 4: the width W": its bytes, if the card has it
unfoldable pub width_field : Card → List ℕ
width_field c = cond c.interleaved (field_bytes 4 (to_big_endian c.width)) []

-- the bytes of a card, "three fields, in this order": tag 1 with F, L and R, tag 2 with m, lo and hi, tag 3 with the weights; and
-- the fourth
unfoldable pub card_bytes : Card → List ℕ → List ℕ
card_bytes c weights =
    field_bytes 1 (to_big_endian c.f ++ (c.l ∷ c.r ∷ []))
    ++ (field_bytes 2 (c.m ∷ (to_two_bytes c.lo ++ to_two_bytes c.hi)) ++ (field_bytes 3 weights ++ width_field c))

-- where the weights stand, "its first byte being byte 0", and where they end
abbrev pub weights_start : ℕ
weights_start = 20

unfoldable pub weights_end : List ℕ → ℕ
weights_end card = weights_start + number_at 18 2 card

-- whether the field is there: behind the weights stand at least the seven bytes of a fourth
unfoldable pub width_there : List ℕ → Bool
width_there card = leb (weights_end card + 7) (length card)

-- the numbers at their places in a card, W "0 without" the field
unfoldable pub card_numbers : List ℕ → Card
card_numbers card = record {
  f = number_at 3 4 card;
  l = number_at 7 1 card;
  r = number_at 8 1 card;
  m = number_at 12 1 card;
  lo = number_at 13 2 card;
  hi = number_at 15 2 card;
  interleaved = width_there card;
  width = cond (width_there card) (number_at (weights_end card + 3) 4 card) 0;
}

-- the numbers that a card gives back: one without the field "reads back with W 0", whatever W was handed
unfoldable pub carried : Card → Card
carried c = record {
  f = c.f;
  l = c.l;
  r = c.r;
  m = c.m;
  lo = c.lo;
  hi = c.hi;
  interleaved = c.interleaved;
  width = cond c.interleaved c.width 0;
}

-- the bytes of a card's weights
abbrev pub card_weights : List ℕ → List ℕ
card_weights card = take (number_at 18 2 card) (drop weights_start card)

-- "tags 1, 2, 3 whole, lengths 6, 5 and a multiple of 4, nothing after", but the fourth field, which "question 1 allows": the bytes of
-- the card of its own numbers and weights (field by field: `WellFormedIs` in CardFields)
unfoldable pub well_formed : List ℕ → Bool
well_formed card = same_bytes card (card_bytes (card_numbers card) (card_weights card)) && eqb (length (card_weights card) % 4) 0

-- "the degree plan, D weights of four bytes": D, and the weight of degree i + 1
abbrev pub weight_count : List ℕ → ℕ
weight_count weights = length weights / 4

unfoldable pub weight_at : List ℕ → ℕ → ℕ
weight_at weights i = number_at (i * 4) 4 weights

-- the sum of the first d weights, and of all
unfoldable pub first_weights : List ℕ → ℕ → ℕ
first_weights weights zero = 0
first_weights weights (suc d) = first_weights weights d + weight_at weights d

abbrev pub weight_sum : List ℕ → ℕ
weight_sum weights = first_weights weights (weight_count weights)

-- "K is F divided by L, rounded up"
unfoldable pub segment_count : Card → ℕ
segment_count c = (c.f + (c.l - 1)) / c.l

-- the bytes of a strand: seed, payload and check bytes
unfoldable pub strand_bytes : Card → ℕ
strand_bytes c = 4 + c.l + c.r

-- "four bases are one byte"
unfoldable pub bases_of : Bytes → Bases
bases_of n = record { 0 = n.0 * 4 }

unfoldable pub bytes_of : Bases → Bytes
bytes_of n = record { 0 = n.0 / 4 }

-- "The strand length is n = 4 times (4 + L + R) bases"
abbrev pub strand_bases : Card → ℕ
strand_bases c = strand_bytes c * 4
