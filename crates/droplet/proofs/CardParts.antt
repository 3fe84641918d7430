-- The parts of a card's bytes, as its reader lends them on: what stands in them, and whether they are those of a card. Assumes nothing.
use Rattle.std.proofs.Common.{◌≡◌, ℕ, ◌+◌, ◌-◌, ◌%◌, ◌≤◌, ◌<◌, ◌&&◌, Bool, true, false, cond, eqb, leb, List, length, take, drop, is_some, Option, Some, None, inl, inr, sym, refl, ap, ◌∙◌, arith}
use Rattle.std.specs.List.{IsSplitAt}
use Rattle.std.specs.Option.{unwrap_or}
use Rattle.std.proofs.lemmas.List.{drop-take, take-take, drop-drop, length-drop}
use Rattle.std.proofs.lemmas.Bool.Decides.{nat_tests}
use Rattle.field.proofs.Tests.{either}
use Rattle.field.specs.Bytes.{from_big_endian, same_bytes}
use Rattle.droplet.specs.declared.card.Card.{Card}
use Rattle.droplet.specs.PoolCard.{number_at, width_field, weights_start, weights_end, width_there, card_numbers, card_weights, well_formed}
use Rattle.droplet.specs.CardParts.{HasEnds}
use Rattle.droplet.proofs.CardBytes.{head_bytes, head-there, well-formed-long, ends-decide}

-- ---- numbers in the parts

pub front-number : (card head : List ℕ) → head ≡ take weights_start card → (i n : ℕ) → i + n ≤ weights_start → number_at i n head ≡ number_at i n card
unfolding number_at
front-number card head e i n h =
    let whole : i + (weights_start - i) ≡ weights_start = omega arith in
    let cut = ap (drop i) e ∙ ap (λ (k : ℕ). drop i (take k card)) (sym whole) ∙ drop-take i (weights_start - i) card in
    ap (λ (l : List ℕ). from_big_endian (take n l)) cut ∙ ap from_big_endian (take-take n (weights_start - i) (drop i card) (omega arith))

module _ (card head rest : List ℕ) (ends : HasEnds card head rest) where
  pub rest-there : leb 7 (length rest) ≡ width_there card
  unfolding width_there
  rest-there = let size = ap length ends.behind ∙ length-drop (weights_end card) card in let long = ends.long in grind (arith, nat_tests)

  pub rest-number : number_at 3 4 rest ≡ number_at (weights_end card + 3) 4 card
  unfolding number_at
  rest-number = rw (ends.behind, drop-drop 3 (weights_end card) card)

-- a number that may be there, as a flag and the number or 0
pub flagged : (there : Bool) (n : ℕ) (number : Option ℕ) → number ≡ cond there (Some n) None
    → (is_some number ≡ there) × (unwrap_or number 0 ≡ cond there n 0)
flagged true n number e = rw e (refl, refl)
flagged false n number e = rw e (refl, refl)

-- ---- question 1

module _ (card : List ℕ) where
  not-formed : (well_formed card ≡ true → ⊥) → well_formed card ≡ false
  not-formed h = elim (either (well_formed card)) [ inl e ↦ absurd (h e) | inr e ↦ e ]

  pub too_short : length card < weights_start → well_formed card ≡ false
  too_short h = not-formed (λ w. let z : ⊥ = omega (arith, head-there card (well-formed-long card w)) in z)

  module _ (head behind : List ℕ) (two : IsSplitAt card weights_start head behind) (n : ℕ) (size : n ≡ number_at 18 2 head) where
    end : weights_end card ≡ weights_start + n
    unfolding weights_end
    end = ap (λ (k : ℕ). weights_start + k) (sym (front-number card head two.1 18 2 (omega arith)) ∙ sym size)

    pub cut_off : length behind < n → well_formed card ≡ false
    cut_off h = not-formed (λ w. let z : ⊥ = omega (arith, end, well-formed-long card w) in z)

    module _ (weights rest : List ℕ) (three : IsSplitAt behind n weights rest) where
      pub has-ends : HasEnds card head rest
      has-ends =
          record {
            before = two.1;
            behind = three.2 ∙ ap (drop n) two.2 ∙ drop-drop n weights_start card ∙ ap (λ (k : ℕ). drop k card) (sym end);
            long = omega (arith, end);
          }

      pub lent-weights : weights ≡ card_weights card
      lent-weights = three.1 ∙ ap (take n) two.2 ∙ ap (λ (k : ℕ). take k (drop weights_start card)) (size ∙ front-number card head two.1 18 2 (omega arith))

-- what stands before the weights and behind them decides
pub formed : (card head weights rest : List ℕ) (c : Card) → HasEnds card head rest → weights ≡ card_weights card → c ≡ card_numbers card
    → (same_bytes head (head_bytes c weights) && same_bytes rest (width_field c) && eqb (length weights % 4) 0) ≡ well_formed card
unfolding well_formed
formed card head weights rest c ends lent numbers =
    rw (ends.before, ends.behind, lent, numbers, ends-decide card ends.long (card_numbers card))
