-- The parts of a card's bytes, as its reader lends them on. Assumes nothing.
use Rattle.std.specs.Prelude.{◌≡◌, true, List, ℕ, ◌≤◌, length, take, drop}
use Rattle.droplet.specs.declared.card.Card.{Card}
use Rattle.droplet.specs.PoolCard.{weights_start, weights_end, card_numbers, card_weights, well_formed}

-- a card that has what stands before its weights, and what stands behind them
pub record HasEnds (card head rest : List ℕ) : Type 0 where
  pub before : head ≡ take weights_start card
  pub behind : rest ≡ drop (weights_end card) card
  pub long : weights_end card ≤ length card

-- a well-formed card has these numbers and weights
pub record IsCardOf (card : List ℕ) (c : Card) (weights : List ℕ) : Type 0 where
  pub formed : well_formed card ≡ true
  pub numbers : c ≡ card_numbers card
  pub lent : weights ≡ card_weights card
