-- A refusal and its number give each other back, and the questions 2 to 4 and 27 refuse with a refusal's number. Assumes nothing.
use Rattle.std.proofs.Common.{◌≡◌, ℕ, eqb, Result, Ok, Err, IsErrAnd, refl, sym, ap, ◌∙◌}
use mathlib.Core.Bool.{Bool, true, false, cond}
use Rattle.droplet.specs.declared.card.Card.{Card}
use Rattle.droplet.specs.declared.refusal.Refusal.{Refusal}
use Rattle.droplet.specs.declared.refusal.Refusal.TheVariants.{Malformed, Sizes, Limits, Weights, FileLength, StartSeed, Output, NumberList, ReadLength, Letter, NoCodeword, SeedZero, Screen, Count, OtherPayload, NoSpace, StoredSeedZero, FileOrMarks, CardBuffer, FullCount, NeitherCall, Width, FileBuffer}
use Rattle.droplet.specs.Refusals.{refusal_number}
use mathlib.Core.List.{List}
use Rattle.droplet.specs.Questions.{sizes_right, limits_right, weights_right, width_right, card_refusal}

-- the refusal of a number, if a question has it
abbrev pub refusal_of : ℕ → Refusal
refusal_of n =
    cond (eqb n 1) Malformed (
    cond (eqb n 2) Sizes (
    cond (eqb n 3) Limits (
    cond (eqb n 4) Weights (
    cond (eqb n 5) FileLength (
    cond (eqb n 6) StartSeed (
    cond (eqb n 7) Output (
    cond (eqb n 8) NumberList (
    cond (eqb n 9) ReadLength (
    cond (eqb n 10) Letter (
    cond (eqb n 11) NoCodeword (
    cond (eqb n 12) SeedZero (
    cond (eqb n 13) Screen (
    cond (eqb n 14) Count (
    cond (eqb n 15) OtherPayload (
    cond (eqb n 16) NoSpace (
    cond (eqb n 17) StoredSeedZero (
    cond (eqb n 18) FileOrMarks (
    cond (eqb n 19) CardBuffer (
    cond (eqb n 20) FullCount (
    cond (eqb n 21) NeitherCall (
    cond (eqb n 27) Width (FileBuffer))))))))))))))))))))))

pub refusal-back : (q : Refusal) → refusal_of (refusal_number q) ≡ q
refusal-back Malformed = refl
refusal-back Sizes = refl
refusal-back Limits = refl
refusal-back Weights = refl
refusal-back FileLength = refl
refusal-back StartSeed = refl
refusal-back Output = refl
refusal-back NumberList = refl
refusal-back ReadLength = refl
refusal-back Letter = refl
refusal-back NoCodeword = refl
refusal-back SeedZero = refl
refusal-back Screen = refl
refusal-back Count = refl
refusal-back OtherPayload = refl
refusal-back NoSpace = refl
refusal-back StoredSeedZero = refl
refusal-back FileOrMarks = refl
refusal-back CardBuffer = refl
refusal-back FullCount = refl
refusal-back NeitherCall = refl
refusal-back Width = refl
refusal-back FileBuffer = refl

-- refusals of one number are the same
pub refusal_number-one : (q q' : Refusal) → refusal_number q ≡ refusal_number q' → q ≡ q'
refusal_number-one q q' e = sym (refusal-back q) ∙ ap refusal_of e ∙ refusal-back q'

-- a number that a question has
pub record IsQuestion (n : ℕ) : Type 0 where
  pub back : refusal_number (refusal_of n) ≡ n

-- each refusal by the questions 2 to 4 and 27 has one of their numbers
first_no : (two three four last : Bool) → (◌≡◌ {A = ℕ} (cond two (cond three (cond four (cond last 0 27) 4) 3) 2) 0 → ⊥)
    → IsQuestion (cond two (cond three (cond four (cond last 0 27) 4) 3) 2)
first_no true true true true h = absurd (h refl)
first_no true true true false h = record { back = refl }
first_no true true false last h = record { back = refl }
first_no true false four last h = record { back = refl }
first_no false three four last h = record { back = refl }

pub card_refusal-question : (c : Card) (ws : List ℕ) → (card_refusal c ws ≡ 0 → ⊥) → IsQuestion (card_refusal c ws)
unfolding card_refusal
card_refusal-question c ws = first_no (sizes_right c) (limits_right c) (weights_right c ws) (width_right c)

-- what the exit of a `?` answers
pub handed_on : {A : Type 0} (r : Result A Refusal) (q : Refusal) → IsErrAnd r (λ d. d ≡ q) → r ≡ Err q
handed_on (Ok x) q h = absurd h
handed_on (Err d) q h = ap Err h
