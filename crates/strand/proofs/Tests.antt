-- What the code's `==` and `!=` test. Assumes nothing.
use mathlib.Core.Path.{◌≡◌, refl, sym, ap, ◌∙◌}
use mathlib.Core.Bool.{Bool, true, false, not}
use mathlib.Core.List.{List}
use Prim.Native.Nat.{ℕ}
use borrow.Author.Tests.{eqb-true, eqb-false}
use denote.Enum.Bare.{sameb}
use lib.Dec.{eqb}
use Rattle.droplet.specs.declared.card.Card.{Card}
use Rattle.screen.specs.contracts.limits.Verdict.{the_type}
use Rattle.screen.specs.declared.limits.Verdict.{Verdict}
use Rattle.screen.specs.declared.limits.Verdict.TheVariants.{Passes, LongRun, GcAlone}
use Rattle.screen.specs.Screen.{word_verdict, is, screen_passes}

-- a test for `!=` says the opposite of one for `==`
pub unequal : (same : Bool) {other : Bool} → other ≡ not same → not other ≡ same
unequal true e = rw e
unequal false e = rw e

-- two numbers, compared by `!=`
module _ (m n : ℕ) {other : Bool} (e : other ≡ not (eqb m n)) where
  pub differs : other ≡ true → m ≡ n → ⊥
  differs t = eqb-false m n (sym (unequal (eqb m n) e) ∙ ap not t)

  pub equals : other ≡ false → m ≡ n
  equals f = eqb-true m n (sym (unequal (eqb m n) e) ∙ ap not f)

is-passes : (v : Verdict) → sameb the_type v Passes ≡ is Passes v
is-passes Passes = refl
is-passes LongRun = refl
is-passes GcAlone = refl

-- the verdict on a word, compared with `Passes`, says whether the screen lets it pass
pub screened : (c : Card) (word : List ℕ) {v : Verdict} {same : Bool} → v ≡ word_verdict c word → same ≡ sameb the_type v Passes
    → same ≡ screen_passes c word
unfolding screen_passes
screened c word {v} says e = e ∙ is-passes v ∙ ap (is Passes) says
