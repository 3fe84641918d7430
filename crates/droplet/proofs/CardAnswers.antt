-- What a caller learns from an answer of `check_plan`, and from one of `read_card`. Assumes nothing.
use Rattle.std.specs.Prelude.{Result, Ok, Err}
use mathlib.Core.Path.{◌≡◌, sym, ap, ◌∙◌}
use mathlib.Core.Bool.{true}
use mathlib.Core.List.{List}
use Prim.Native.Nat.{ℕ, ◌≤◌}
use native.Mathlib.Omega.{arith}
use lib.ListN.{length}
use Rattle.droplet.specs.declared.card.Card.{Card}
use Rattle.droplet.specs.declared.card.Plan.{Plan}
use Rattle.droplet.specs.declared.refusal.Refusal.{Refusal}
use Rattle.droplet.specs.Refusals.{refusal_number}
use Rattle.droplet.specs.PoolCard.{weights_end, well_formed, card_numbers, card_weights, weight_count, weight_sum, segment_count}
use Rattle.droplet.specs.Questions.{CardRead, card_refusal, plan_answer, plan_of, card_reading_refusal, card_answer, card_reading}
use Rattle.droplet.specs.Questions.Planned.{planned, refused}
use Rattle.droplet.specs.Questions.CardRead.{accepted}
use Rattle.droplet.proofs.CardBytes.{well-formed-long}
use Rattle.droplet.proofs.LegalCard.{Legal, legal}

-- question n is the first that says no
pub record SaysNo (refusal n : ℕ) : Type 0 where
  pub number : refusal ≡ n
  pub not-zero : n ≡ 0 → ⊥

-- ---- check_plan

-- the questions 2 to 4 and 27 let the card pass: K, D and the sum are k, d and s
pub record Passed (card : Card) (ws : List ℕ) (k d s : ℕ) : Type 0 where
  pub unrefused : card_refusal card ws ≡ 0
  pub legal : Legal card ws
  pub segments : k ≡ segment_count card
  pub degrees : d ≡ weight_count ws
  pub sum : s ≡ weight_sum ws

module _ (card : Card) (ws : List ℕ) where
  pub plan-passed : (k d s : ℕ) → plan_of card ws ≡ planned k d s → Passed card ws k d s
  unfolding plan_of
  plan-passed k d s e =
      let free : card_refusal card ws ≡ 0 = grind arith in
      record {
        unrefused = free;
        legal = legal card ws free;
        segments = grind arith;
        degrees = grind arith;
        sum = grind arith;
      }

  pub plan-stopped : (n : ℕ) → plan_of card ws ≡ refused n → SaysNo (card_refusal card ws) n
  unfolding plan_of
  plan-stopped n e = record { number = grind arith; not-zero = grind arith }

  -- for a caller of `check_plan`, by what the call ensures and the variant that its answer was found to be
  pub passed : {r : Result Plan Refusal} {plan : Plan} → plan_answer r ≡ plan_of card ws → r ≡ Ok plan
      → Passed card ws plan.segments plan.degrees plan.sum
  passed {plan = plan} e q = plan-passed plan.segments plan.degrees plan.sum (sym e ∙ ap plan_answer q)

  pub stopped : {r : Result Plan Refusal} {why : Refusal} → plan_answer r ≡ plan_of card ws → r ≡ Err why
      → SaysNo (card_refusal card ws) (refusal_number why)
  stopped {why = why} e q = plan-stopped (refusal_number why) (sym e ∙ ap plan_answer q)

-- ---- read_card

-- the card reader accepts these bytes, with the card's numbers and D
pub record Accepted (bytes : List ℕ) (card : Card) (d : ℕ) : Type 0 where
  pub long : weights_end bytes ≤ length bytes
  pub reader-unrefused : card_reading_refusal bytes ≡ 0
  pub unrefused : card_refusal card (card_weights bytes) ≡ 0
  pub numbers : card ≡ card_numbers bytes
  pub degrees : d ≡ weight_count (card_weights bytes)

module _ (bytes : List ℕ) where
  pub reading-accepted : (card : Card) (d : ℕ) → card_reading bytes ≡ accepted card d → Accepted bytes card d
  unfolding card_reading card_reading_refusal
  reading-accepted card d e =
      let formed : well_formed bytes ≡ true = grind arith in
      record {
        long = well-formed-long bytes formed;
        reader-unrefused = grind arith;
        unrefused = grind arith;
        numbers = grind arith;
        degrees = grind arith;
      }

  pub reading-refused : (n : ℕ) → card_reading bytes ≡ CardRead.refused n → SaysNo (card_reading_refusal bytes) n
  unfolding card_reading
  reading-refused n e = record { number = grind arith; not-zero = grind arith }

  -- for a caller of `read_card`
  pub read : {r : Result (Card × ℕ) Refusal} {card : Card} {d : ℕ} → card_answer r ≡ card_reading bytes → r ≡ Ok (card, d)
      → Accepted bytes card d
  read {card = card} {d = d} e q = reading-accepted card d (sym e ∙ ap card_answer q)

  pub unread : {r : Result (Card × ℕ) Refusal} {why : Refusal} → card_answer r ≡ card_reading bytes → r ≡ Err why
      → SaysNo (card_reading_refusal bytes) (refusal_number why)
  unread {why = why} e q = reading-refused (refusal_number why) (sym e ∙ ap card_answer q)
