-- What a choice says of the two calls, and a call that passes of its letters. Assumes nothing.
use mathlib.Core.Path.{◌≡◌, refl}
use mathlib.Core.Bool.{Bool, true, false, cond}
use mathlib.Core.List.{List}
use mathlib.Core.Logic.{◌⊎◌, inl, inr, ⊎_elim}
use Prim.Native.Nat.{ℕ, ◌+◌}
use native.Mathlib.Omega.{arith}
use borrow.Author.Tests.{eqb-true}
use lib.Dec.{eqb}
use lib.ListN.{length}
use Rattle.droplet.specs.declared.card.Card.{Card}
use Rattle.droplet.specs.PoolCard.{strand_bases}
use Rattle.droplet.specs.Questions.{sizes_right, limits_right, weights_right, width_right, card_refusal}
use Rattle.droplet.proofs.Conjunctions.{and-true}
use Rattle.strand.specs.ReadCheck.{letters_reading}
use Rattle.basecalls.specs.TwoCallers.{sites_right, middle, is_accepted, call_passes, Choice, first, second, refused, first_passing, choose_call}

-- a call that passes
pub record PassingCall (c : Card) (call : List ℕ) : Type 0 where
  pub long : length call ≡ strand_bases c + 48
  pub sites : sites_right (strand_bases c) call ≡ true
  pub legal : is_accepted (letters_reading c (middle (strand_bases c) call)) ≡ true

pub passing : (c : Card) (call : List ℕ) → call_passes c call ≡ true → PassingCall c call
unfolding call_passes
passing c call e =
    let both = and-true _ _ e in
    let ends = and-true _ _ both.0 in
    record { long = eqb-true _ _ ends.0; sites = ends.1; legal = both.1 }

-- the card's questions have other numbers than 21
other-numbers : (sizes limits plan width : Bool)
    → ◌≡◌ {A = ℕ} (cond sizes (cond limits (cond plan (cond width 0 27) 4) 3) 2) 21 → ⊥
other-numbers true true true true e = omega arith
other-numbers true true true false e = omega arith
other-numbers true true false width e = omega arith
other-numbers true false plan width e = omega arith
other-numbers false limits plan width e = omega arith

card-number : (c : Card) (weights : List ℕ) → card_refusal c weights ≡ 21 → ⊥
unfolding card_refusal
card-number c weights = other-numbers (sizes_right c) (limits_right c) (weights_right c weights) (width_right c)

-- what each choice is made for
module _ (c : Card) (weights call call' : List ℕ) where
  pub record FirstChosen : Type 0 where
    pub card : card_refusal c weights ≡ 0
    pub passes : PassingCall c call

  pub record SecondChosen : Type 0 where
    pub card : card_refusal c weights ≡ 0
    pub over : call_passes c call ≡ false
    pub passes : PassingCall c call'

  pub record NoneChosen : Type 0 where
    pub card : card_refusal c weights ≡ 0
    pub over : call_passes c call ≡ false
    pub over' : call_passes c call' ≡ false

  abbrev MadeFor : Choice → Type 0
  MadeFor first = FirstChosen
  MadeFor second = SecondChosen
  MadeFor (refused q) = (card_refusal c weights ≡ q) ⊎ NoneChosen

  made-for : MadeFor (choose_call c weights call call')
  unfolding choose_call first_passing
  made-for = go (eqb (card_refusal c weights) 0) refl (call_passes c call) refl (call_passes c call') refl
    where
      go : (q : Bool) → eqb (card_refusal c weights) 0 ≡ q → (a : Bool) → call_passes c call ≡ a → (b : Bool) → call_passes c call' ≡ b
          → MadeFor (cond q (cond a first (cond b second (refused 21))) (refused (card_refusal c weights)))
      go true f true g b h = record { card = eqb-true _ _ f; passes = passing c call g }
      go true f false g true h = record { card = eqb-true _ _ f; over = g; passes = passing c call' h }
      go true f false g false h = inr (record { card = eqb-true _ _ f; over = g; over' = h })
      go false f a g b h = inl refl

  pub first-chosen : choose_call c weights call call' ≡ first → FirstChosen
  first-chosen e = rw e at made-for

  pub second-chosen : choose_call c weights call call' ≡ second → SecondChosen
  second-chosen e = rw e at made-for

  pub none-chosen : choose_call c weights call call' ≡ refused 21 → NoneChosen
  none-chosen e = ⊎_elim (λ n. absurd (card-number c weights n)) (λ n. n) (rw e at made-for)
