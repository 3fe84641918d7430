-- Document 01, "Questions in their order": 1 to 4, and 27 of document 02, Item 14. "The first no gives the number." Assumes nothing.
use Rattle.std.specs.Prelude.{Bool, true, cond, ◌&&◌, ◌||◌, List, ℕ, ◌%◌, eqb, leb, length, Result, Ok, Err}
use Rattle.droplet.specs.declared.card.Card.{Card}
use Rattle.droplet.specs.declared.card.Plan.{Plan}
use Rattle.droplet.specs.declared.refusal.Refusal.{Refusal}
use Rattle.droplet.specs.Refusals.{refusal_number}
use Rattle.droplet.specs.PoolCard.{well_formed, card_numbers, card_weights, weight_count, weight_sum, segment_count}

-- lowest ≤ n ≤ highest
abbrev pub within : ℕ → ℕ → ℕ → Bool
within lowest n highest = leb lowest n && leb n highest

-- 2: "F 1 to 8,388,608, L 1 to 64, R 2 or 4, K at most 131,072?"
unfoldable pub sizes_right : Card → Bool
sizes_right c =
    within 1 c.f 8388608 && within 1 c.l 64 && (eqb c.r 2 || eqb c.r 4) && leb (segment_count c) 131072

-- 3: "m 1 to 20, lo ≤ hi ≤ 1000?"
unfoldable pub limits_right : Card → Bool
limits_right c = within 1 c.m 20 && leb c.lo c.hi && leb c.hi 1000

-- 4: "Bytes of the weights a multiple of 4, D from 1 to the smaller of K and 1,024, weights summing to 1 to 4,294,967,295?"
-- but for the sum
abbrev pub degrees_right : ℕ → List ℕ → Bool
degrees_right K weights =
    eqb (length weights % 4) 0 && leb 1 (weight_count weights) && leb (weight_count weights) K && leb (weight_count weights) 1024

unfoldable pub weights_right : Card → List ℕ → Bool
weights_right c weights = degrees_right (segment_count c) weights && within 1 (weight_sum weights) 4294967295

-- 27: "a W below 2 or above F is refused"; a call "checks W only if it is there"
unfoldable pub width_right : Card → Bool
width_right c = cond c.interleaved (within 2 c.width c.f) true

-- the number of the first of the questions 2 to 4 and 27 ("right after question 4 in every call") that says no, or 0: every call but the
-- card reader starts with these
unfoldable pub card_refusal : Card → List ℕ → ℕ
card_refusal c weights = cond (sizes_right c) (cond (limits_right c) (cond (weights_right c weights) (cond (width_right c) 0 27) 4) 3) 2

-- what they answer: the refusal number, or K, D and the weights' sum
pub data Planned : Type 0 where
  planned : ℕ → ℕ → ℕ → Planned
  refused : ℕ → Planned

abbrev pub plan_answer : Result Plan Refusal → Planned
plan_answer (Ok p) = planned p.segments p.degrees p.sum
plan_answer (Err q) = refused (refusal_number q)

unfoldable pub plan_of : Card → List ℕ → Planned
plan_of c weights =
    cond (eqb (card_refusal c weights) 0) (planned (segment_count c) (weight_count weights) (weight_sum weights))
    (refused (card_refusal c weights))

-- the questions of the card reader: 1, and those
unfoldable pub card_reading_refusal : List ℕ → ℕ
card_reading_refusal card = cond (well_formed card) (card_refusal (card_numbers card) (card_weights card)) 1

-- what the card reader answers: the refusal number, or F, L, R, m, lo, hi, "whether the field is there, and W", and D
pub data CardRead : Type 0 where
  accepted : Card → ℕ → CardRead
  refused : ℕ → CardRead

abbrev pub card_answer : Result (Card × ℕ) Refusal → CardRead
card_answer (Ok a) = accepted a.0 a.1
card_answer (Err q) = CardRead.refused (refusal_number q)

unfoldable pub card_reading : List ℕ → CardRead
card_reading card =
    cond (eqb (card_reading_refusal card) 0) (accepted (card_numbers card) (weight_count (card_weights card))) (CardRead.refused (card_reading_refusal card))
