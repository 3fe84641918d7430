-- What the choice between two calls and the letters handed back come to: the theorem. Assumes nothing.
use mathlib.Core.Path.{◌≡◌, refl, ◌∙◌}
use mathlib.Core.Bool.{true, false}
use mathlib.Core.List.{List, []}
use Prim.Native.Nat.{ℕ}
use native.Mathlib.Omega.{arith}
use denote.Ref.{Bor}
use lib.ListN.{length}
use Rattle.droplet.specs.declared.card.Card.{Card}
use Rattle.droplet.specs.PoolCard.{strand_bytes, strand_bases}
use Rattle.droplet.specs.Questions.{card_refusal}
use Rattle.screen.specs.Sites.{site_before}
use Rattle.basecalls.specs.TwoCallers.{middle, call_passes, Choice, first, second, refused, choose_call, IsPart, LettersPromise}
use Rattle.basecalls.specs.ChosenLetters.{HasDroplet, Chosen, ChoosesRightly}
use Rattle.basecalls.proofs.CallCases.{first_passes, none_passes, card-passed}
use Rattle.basecalls.proofs.Choices.{first-chosen, second-chosen, none-chosen}
use Rattle.basecalls.proofs.PassingCalls.{reads, reads-size, calls-that-pass}

-- what reads has letters
not-empty : (c : Card) (weights call letters : List ℕ) → HasDroplet c weights call letters → letters ≡ [] → ⊥
unfolding strand_bytes
not-empty c weights call letters r e = let size = reads-size c weights r.3 in let none : length letters ≡ 0 = rw e in omega (arith, size, none)

module _ (c : Card) (weights : List ℕ) (call call' part : Bor (List ℕ)) (p : LettersPromise c weights call call' part) where
  abbrev choice : Choice
  choice = choose_call c weights call.now call'.now

  first_part : choice ≡ first → IsPart call (length site_before) (strand_bases c) part
  first_part e = rw e at p

  second-part : choice ≡ second → IsPart call' (length site_before) (strand_bases c) part
  second-part e = rw e at p

  no_part : (q : ℕ) → choice ≡ refused q → part.now ≡ []
  no_part q e = let empty : IsPart call 0 0 part = rw e at p in empty.letters

  by_first : choice ≡ first → HasDroplet c weights call.now part.now
  unfolding middle
  by_first e =
      let f = first-chosen c weights call.now call'.now e in
      rw (first_part e).letters (reads c weights call.now f.card f.passes)

  by_second : choice ≡ second → (call_passes c call.now ≡ false) × HasDroplet c weights call'.now part.now
  unfolding middle
  by_second e =
      let s = second-chosen c weights call.now call'.now e in
      (s.over, rw (second-part e).letters (reads c weights call'.now s.card s.passes))

  alone : card_refusal c weights ≡ 0 → call_passes c call.now ≡ true → choice ≡ first
  alone card passes = card-passed c call.now call'.now weights card ∙ first_passes c call.now call'.now passes

  refused-if-empty : (x : Choice) → choice ≡ x → part.now ≡ [] → (q : ℕ) × (choice ≡ refused q)
  refused-if-empty first e none = absurd (not-empty c weights _ _ (by_first e) none)
  refused-if-empty second e none = absurd (not-empty c weights _ _ (by_second e).1 none)
  refused-if-empty (refused q) e none = (q, e)

  chosen : Chosen c weights call call' part
  chosen = record {
    by_first = by_first;
    by_second = by_second;
    first_alone = λ card passes. (alone card passes, first_part (alone card passes));
    neither = (
      λ e. let n = none-chosen c weights call.now call'.now e in (n.card, n.over, n.over'),
      λ n. card-passed c call.now call'.now weights n.0 ∙ none_passes c call.now call'.now n.1 n.2,
    );
    empty = (refused-if-empty choice refl, λ r. no_part r.0 r.1);
  }

pub chooses-rightly : ChoosesRightly
chooses-rightly c weights = (calls-that-pass c weights, chosen c weights)
