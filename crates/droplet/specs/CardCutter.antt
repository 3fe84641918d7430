-- Document 02, Item 2, "A card cutter", with the field of Item 14: the questions of the call, what it answers and what it leaves in the
-- lent buffer. Assumes nothing.
use Rattle.std.specs.Prelude.{◌≡◌, cond, List, ◌++◌, ℕ, eqb, leb, length, drop, Result, Ok, Err}
use Rattle.droplet.specs.declared.card.Card.{Card}
use Rattle.droplet.specs.declared.refusal.Refusal.{Refusal}
use Rattle.droplet.specs.Refusals.{refusal_number}
use Rattle.droplet.specs.PoolCard.{card_bytes}
use Rattle.droplet.specs.Questions.{card_refusal}

-- what the cutter answers, by its cases: "the card's length in bytes", or the refusal number
pub data Cut : Type 0 where
  cut : ℕ → Cut
  refused : ℕ → Cut

abbrev pub cut_answer : Result ℕ Refusal → Cut
cut_answer (Ok n) = cut n
cut_answer (Err q) = refused (refusal_number q)

-- the answer with the buffer after the call
pub data CutEnd : Type 0 where
  ended : Cut → List ℕ → CutEnd

abbrev pub cut_reply : CutEnd → Cut
cut_reply (ended a b) = a

abbrev pub cut_buffer : CutEnd → List ℕ
cut_buffer (ended a b) = b

-- the card written at the start of a buffer; "Bytes past the card keep what they had"
abbrev pub written_card : List ℕ → List ℕ → CutEnd
written_card card buffer = ended (cut (length card)) (card ++ drop (length card) buffer)

-- "Questions 2 to 4 come first" (27 "right after"), "and a buffer too short for the card is then refused as 19"
unfoldable pub cut_card : Card → List ℕ → List ℕ → CutEnd
cut_card c weights buffer =
    cond (eqb (card_refusal c weights) 0)
    (cond (leb (length (card_bytes c weights)) (length buffer)) (written_card (card_bytes c weights) buffer) (ended (refused 19) buffer))
    (ended (refused (card_refusal c weights)) buffer)

-- the promise of the card cutter: its answer and the buffer at exit
pub record CutPromise (c : Card) (weights buffer : List ℕ) (r : Result ℕ Refusal) (buffer' : List ℕ) : Type 0 where
  pub says : cut_answer r ≡ cut_reply (cut_card c weights buffer)
  pub leaves : buffer' ≡ cut_buffer (cut_card c weights buffer)
