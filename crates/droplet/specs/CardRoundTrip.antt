-- What the card cutter writes the card reader gives back, and what the reader accepts the cutter writes again (document 02, Items 2
-- and 14). Assumes nothing.
use Rattle.std.specs.Prelude.{◌≡◌, List, ◌++◌, ◌↔◌, ℕ, ◌≤◌, length, take, drop, Result}
use Rattle.droplet.specs.declared.card.Card.{Card}
use Rattle.droplet.specs.declared.refusal.Refusal.{Refusal}
use Rattle.droplet.specs.PoolCard.{card_bytes, carried, card_weights, weight_count}
use Rattle.droplet.specs.Questions.{card_refusal, card_reading}
use Rattle.droplet.specs.Questions.CardRead.{accepted}
use Rattle.droplet.specs.CardCutter.{cut, cut_answer, CutPromise}

-- what a call of the cutter wrote, read by the card reader: these numbers ("with W 0" without the field), D, and these weights
pub record ReadsBack (c : Card) (weights : List ℕ) (r : Result ℕ Refusal) (buffer' : List ℕ) : Type 0 where
  pub size : ℕ
  pub says : cut_answer r ≡ cut size
  pub numbers : card_reading (take size buffer') ≡ accepted (carried c) (weight_count weights)
  pub plan : card_weights (take size buffer') ≡ weights

-- "For legal numbers the card read back gives them again": with space for the card, the cutter writes it, and so it is read
abbrev pub CutThenRead : Type 0
CutThenRead = (c : Card) (weights buffer : List ℕ) (r : Result ℕ Refusal) (buffer' : List ℕ) → CutPromise c weights buffer r buffer'
    → card_refusal c weights ≡ 0 → length (card_bytes c weights) ≤ length buffer → ReadsBack c weights r buffer'

-- what a call of the cutter wrote is this card, and the bytes past it are as they were
pub record Cuts (card buffer : List ℕ) (r : Result ℕ Refusal) (buffer' : List ℕ) : Type 0 where
  pub says : cut_answer r ≡ cut (length card)
  pub leaves : buffer' ≡ card ++ drop (length card) buffer

-- "each accepted card, read and cut, gives its own bytes": from the numbers that were read and the weights
abbrev pub ReadThenCut : Type 0
ReadThenCut = (card : List ℕ) (c : Card) (D : ℕ) → card_reading card ≡ accepted c D
    → (buffer : List ℕ) (r : Result ℕ Refusal) (buffer' : List ℕ) → CutPromise c (card_weights card) buffer r buffer'
    → length card ≤ length buffer → Cuts card buffer r buffer'

-- so the reader accepts the cards of legal numbers and weights, and nothing else; without the field it gives W 0
abbrev pub CardsExactly : Type 0
CardsExactly = (card : List ℕ) (c : Card) (weights : List ℕ)
    → ((card_reading card ≡ accepted c (weight_count weights)) × (card_weights card ≡ weights))
    ↔ ((card_refusal c weights ≡ 0) × (card ≡ card_bytes c weights) × (carried c ≡ c))
