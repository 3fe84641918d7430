-- A list of bytes is a well-formed card just if it is its fields (`WellFormedIs`): a number written into bytes is read from them, and
-- bytes are those of the number that is read from them. Assumes nothing.
use mathlib.Core.Path.{◌≡◌, refl, sym, ap, subst, ◌∙◌}
use mathlib.Core.Bool.{true, ◌&&◌}
use mathlib.Core.List.{List, [], ◌∷◌, ◌++◌, append-nil}
use mathlib.Core.Logic.{inl, inr}
use Prim.Native.Nat.{ℕ, ◌+◌, ◌*◌, ◌/◌, ◌%◌, ◌≤◌, ◌<◌}
use native.Mathlib.Numerals.{add-one}
use native.Mathlib.Omega.{arith}
use lib.Dec.{eqb}
use lib.ListN.{length, get_or, drop, drop_of_length-le}
use lib.Seq.{drop-cons}
use borrow.Author.Tests.{eqb-true, le-leb, lt-leb}
use Rattle.field.specs.Bytes.{IsByte, AllBytes, to_big_endian, same_bytes}
use Rattle.field.proofs.Tests.{either}
use Rattle.field.proofs.BigEndian.{from-to}
use Rattle.field.proofs.ByteLists.{all-at}
use Rattle.field.proofs.SameBytes.{eq-same}
use Rattle.droplet.specs.declared.card.Card.{Card}
use Rattle.droplet.specs.PoolCard.{number_at, to_two_bytes, field_bytes, width_field, card_bytes, weights_start, weights_end, width_there, card_numbers, card_weights, well_formed}
use Rattle.droplet.specs.CardFields.{FieldAt, WidthOrNothing, WholeFields, WellFormedIs}
use Rattle.droplet.proofs.NumberAt.{number-one, number-two, number-four}
use Rattle.droplet.proofs.Conjunctions.{and-true}
use Rattle.droplet.proofs.CardBytes.{one-back, two_back, width-length, card-length, behind-weights, own-bytes, head-there, weights-length, weights-and-rest}

-- ---- the bytes of a card are its fields

module _ (c : Card) (ws : List ℕ) where
  fourth : c.interleaved ≡ true → FieldAt (weights_start + length ws) 4 4 (card_bytes c ws)
  unfolding number_at width_field field_bytes to_two_bytes to_big_endian
  fourth t =
      let here : weights_start + length ws ≡ weights_start + length ws + 0 = omega arith in
      let tag = ap (λ (n : ℕ). drop n (card_bytes c ws)) here ∙ behind-weights c ws 0 in
      (rw (tag, t) (one-back 4), rw (behind-weights c ws 1, t) (two_back 4))

  width-or-nothing : WidthOrNothing (weights_start + length ws) (card_bytes c ws)
  width-or-nothing =
      let whole = card-length c ws in
      elim (either c.interleaved) [
        | inl t ↦ let seven : length (width_field c) ≡ 7 = width-length c ∙ rw t in inr (fourth t, omega (arith, whole, seven))
        | inr f ↦ let none : length (width_field c) ≡ 0 = width-length c ∙ rw f in inl (omega (arith, whole, none))
      ]

  fields : length ws % 4 ≡ 0 → WholeFields (card_bytes c ws)
  unfolding number_at card_bytes field_bytes to_two_bytes to_big_endian
  fields e =
      record {
        size = length ws;
        first = (one-back 1, two_back 6);
        second = (one-back 2, two_back 5);
        third = (one-back 3, two_back (length ws));
        by_four = e;
        after = width-or-nothing;
      }

-- one part behind the other, up to the length of the third field
abbrev laid_out : Card → ℕ → List ℕ → List ℕ
laid_out c size behind =
    1 ∷ (to_two_bytes 6 ++ (to_big_endian c.f ++ (c.l ∷ c.r ∷ 2 ∷ (to_two_bytes 5 ++ (c.m ∷ (to_two_bytes c.lo ++ (to_two_bytes c.hi
    ++ (3 ∷ (to_two_bytes size ++ behind)))))))))

card-laid_out : (c : Card) (ws : List ℕ) → card_bytes c ws ≡ laid_out c (length ws) (ws ++ width_field c)
unfolding card_bytes field_bytes to_two_bytes to_big_endian
card-laid_out c ws = refl

-- ---- these fields are the bytes of a card

two-of : (n x y : ℕ) → n ≡ x * 256 + y → y < 256 → to_two_bytes n ≡ x ∷ y ∷ []
unfolding to_two_bytes
two-of n x y e h =
    let high : n / 256 ≡ x = omega arith in
    let low : n % 256 ≡ y = omega arith in
    rw (high, low)

-- where the third field ends
module _ (card : List ℕ) (f : WholeFields card) where
  end : weights_end card ≡ weights_start + f.size
  unfolding weights_end
  end = ap (λ (n : ℕ). weights_start + n) f.third.1

  long : weights_end card ≤ length card
  long = elim f.after [ inl e ↦ omega (arith, end, e) | inr e ↦ omega (arith, end, e.1) ]

  third-size : length (card_weights card) ≡ f.size
  third-size = weights-length card long ∙ omega (arith, end)

-- what stands at a place, and from there on the rest
module _ (card : List ℕ) (bytes : AllBytes card) where
  byte : (i : ℕ) → i < length card → get_or card i 0 < 256
  byte i h = all-at IsByte card 0 bytes i h

  next : (i j : ℕ) → j ≡ i + 1 → i < length card → drop i card ≡ get_or card i 0 ∷ drop j card
  next i j e h = drop-cons card i 0 h ∙ rw (e, add-one)

  one_at : (i n : ℕ) → i < length card → number_at i 1 card ≡ n → drop i card ≡ n ∷ drop (i + 1) card
  one_at i n h e = next i (i + 1) refl h ∙ rw (sym e, number-one card i h)

  two_at : (i n : ℕ) → i + 1 < length card → number_at i 2 card ≡ n → drop i card ≡ to_two_bytes n ++ drop (i + 2) card
  two_at i n h e =
      let spelled = two-of n (get_or card i 0) (get_or card (i + 1) 0) (sym e ∙ number-two card i h) (byte (i + 1) h) in
      rw (spelled, next i (i + 1) refl (omega arith), next (i + 1) (i + 2) (omega arith) h)

  four-at : (i : ℕ) → i + 3 < length card → drop i card ≡ to_big_endian (number_at i 4 card) ++ drop (i + 4) card
  four-at i h =
      let spelled = ap to_big_endian (number-four card i h) ∙ from-to (get_or card i 0) (get_or card (i + 1) 0) (get_or card (i + 2) 0) (get_or card (i + 3) 0)
      (byte i (omega arith), (byte (i + 1) (omega arith), (byte (i + 2) (omega arith), (byte (i + 3) h, tt)))) in
      rw (
        spelled,
        next i (i + 1) refl (omega arith),
        next (i + 1) (i + 2) (omega arith) (omega arith),
        next (i + 2) (i + 3) (omega arith) (omega arith),
        next (i + 3) (i + 4) (omega arith) h,
      )

  module _ (f : WholeFields card) where
    -- the fourth field, from where the weights end
    fourth-bytes : FieldAt (weights_start + f.size) 4 4 card → length card ≡ weights_start + f.size + 7
        → drop (weights_end card) card ≡ 4 ∷ (to_two_bytes 4 ++ to_big_endian (number_at (weights_end card + 3) 4 card))
    fourth-bytes there e =
        let at = weights_end card in
        let tag = ap (λ (n : ℕ). number_at n 1 card) (end card f) ∙ there.0 in
        let size = ap (λ (n : ℕ). number_at (n + 1) 2 card) (end card f) ∙ there.1 in
        let room : at + 7 ≡ length card = omega (arith, end card f, e) in
        let two : at + 1 + 2 ≡ at + 3 = omega arith in
        let four : at + 3 + 4 ≡ at + 7 = omega arith in
        one_at at 4 (omega arith) tag
        ∙ rw (two_at (at + 1) 4 (omega arith) size, two, four-at (at + 3) (omega arith), four, drop_of_length-le card {i = at + 7} (omega (arith, room)), append-nil)

    -- what stands behind the weights
    rest : drop (weights_end card) card ≡ width_field (card_numbers card)
    unfolding card_numbers width_field field_bytes width_there to_big_endian
    rest =
        elim f.after [
          | inl e ↦ rw (lt-leb (weights_end card + 7) (length card) (omega (arith, end card f))) (drop_of_length-le card {i = weights_end card} (omega (arith, end card f)))
          | inr e ↦ rw (le-leb (weights_end card + 7) (length card) (omega (arith, end card f))) (fourth-bytes e.0 e.1)
        ]

    parts : card ≡ laid_out (card_numbers card) (length (card_weights card)) (drop weights_start card)
    unfolding card_numbers
    parts =
        let room = head-there card (long card f) in
        one_at 0 1 (omega arith) f.first.0 ∙ rw (
          two_at 1 6 (omega arith) f.first.1,
          four-at 3 (omega arith),
          one_at 7 (number_at 7 1 card) (omega arith) refl,
          one_at 8 (number_at 8 1 card) (omega arith) refl,
          one_at 9 2 (omega arith) f.second.0,
          two_at 10 5 (omega arith) f.second.1,
          one_at 12 (number_at 12 1 card) (omega arith) refl,
          two_at 13 (number_at 13 2 card) (omega arith) refl,
          two_at 15 (number_at 15 2 card) (omega arith) refl,
          one_at 17 3 (omega arith) f.third.0,
          two_at 18 (length (card_weights card)) (omega arith) (f.third.1 ∙ sym (third-size card f)),
        )

    rebuilt : card ≡ card_bytes (card_numbers card) (card_weights card)
    rebuilt =
        let c = card_numbers card in
        let ws = card_weights card in
        let behind = weights-and-rest card (long card f) ∙ ap (λ (l : List ℕ). ws ++ l) rest in
        parts ∙ ap (laid_out c (length ws)) behind ∙ sym (card-laid_out c ws)

pub well-formed-is : WellFormedIs
unfolding well_formed
well-formed-is card bytes = (
  λ e.
      let by_four = eqb-true _ 0 (and-true (same_bytes card (card_bytes (card_numbers card) (card_weights card))) _ e).1 in
      subst WholeFields (sym (own-bytes card e)) (fields (card_numbers card) (card_weights card) by_four),
  λ f.
      let size = ap (λ (n : ℕ). n % 4) (third-size card f) ∙ f.by_four in
      ap (λ (l : List ℕ). same_bytes card l && eqb (length (card_weights card) % 4) 0) (sym (rebuilt card bytes f)) ∙ rw (eq-same card, size),
)
