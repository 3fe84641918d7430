-- The cases of a call that passes or does not, and of the choice between two. Assumes nothing.
use mathlib.Core.Path.{◌≡◌, refl}
use mathlib.Core.Bool.{true, false}
use mathlib.Core.List.{List}
use Prim.Native.Nat.{ℕ, ◌+◌}
use borrow.Author.Tests.{eq-eqb, ne_eqb}
use lib.ListN.{length}
use Rattle.droplet.specs.declared.card.Card.{Card}
use Rattle.droplet.specs.PoolCard.{strand_bases}
use Rattle.droplet.specs.Questions.{card_refusal}
use Rattle.screen.specs.Letters.{text_letters}
use Rattle.screen.specs.Sites.{site_before, site_after}
use Rattle.strand.specs.ReadCheck.{letters_reading}
use Rattle.basecalls.specs.TwoCallers.{sites_right, middle, is_accepted, call_passes, first_passing, choose_call}
use Rattle.basecalls.specs.TwoCallers.Choice.{first, second, refused}

-- ---- the sites

pub before-size : length site_before ≡ 27
unfolding site_before text_letters
before-size = refl

pub after-size : length site_after ≡ 21
unfolding site_after text_letters
after-size = refl

-- ---- one call

module _ (c : Card) (call : List ℕ) where
  pub other_length : (length call ≡ strand_bases c + 48 → ⊥) → call_passes c call ≡ false
  unfolding call_passes
  other_length n = rw (ne_eqb _ _ n)

  module _ (long : length call ≡ strand_bases c + 48) where
    pub other-sites : sites_right (strand_bases c) call ≡ false → call_passes c call ≡ false
    unfolding call_passes
    other-sites s = rw (eq-eqb _ _ long, s)

    pub by-its-middle : sites_right (strand_bases c) call ≡ true → call_passes c call ≡ is_accepted (letters_reading c (middle (strand_bases c) call))
    unfolding call_passes
    by-its-middle s = rw (eq-eqb _ _ long, s)

-- ---- two calls

module _ (c : Card) (call call' : List ℕ) where
  pub first_passes : call_passes c call ≡ true → first_passing c call call' ≡ first
  unfolding first_passing
  first_passes e = rw e

  pub second-passes : call_passes c call ≡ false → call_passes c call' ≡ true → first_passing c call call' ≡ second
  unfolding first_passing
  second-passes e f = rw (e, f)

  pub none_passes : call_passes c call ≡ false → call_passes c call' ≡ false → first_passing c call call' ≡ refused 21
  unfolding first_passing
  none_passes e f = rw (e, f)

  module _ (weights : List ℕ) where
    pub card-refused : (n : ℕ) → card_refusal c weights ≡ n → (n ≡ 0 → ⊥) → choose_call c weights call call' ≡ refused n
    unfolding choose_call
    card-refused n e z = rw (e, ne_eqb _ _ z)

    pub card-passed : card_refusal c weights ≡ 0 → choose_call c weights call call' ≡ first_passing c call call'
    unfolding choose_call
    card-passed e = rw e
