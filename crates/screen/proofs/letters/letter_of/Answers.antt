-- `letter_of` meets its contract: each arm of the match is a case of the definition. Assumes nothing.
use mathlib.Core.Path.{◌≡◌}
use Prim.Native.Nat.{ℕ}
use native.Mathlib.Omega.{arith}
use borrow.Author.Tests.{ne_eqb}
use Rattle.screen.specs.Letters.{letter_of}
use Rattle.screen.proofs.letters.letter_of.Goals as goal

-- any other number
others : (base : ℕ) → (base ≡ 0 → ⊥) → (base ≡ 1 → ⊥) → (base ≡ 2 → ⊥) → 84 ≡ letter_of base
unfolding letter_of
others base a c g = simp (ne_eqb base 0 a, ne_eqb base 1 c, ne_eqb base 2 g)

pub returns-in-0 : goal.returns-in-0
unfolding letter_of
returns-in-0 c = rw c.in-0.is

pub returns-in-1 : goal.returns-in-1
unfolding letter_of
returns-in-1 c = rw c.in-1.is

pub returns-in-2 : goal.returns-in-2
unfolding letter_of
returns-in-2 c = rw c.in-2.is

pub returns-in_default : goal.returns-in_default
returns-in_default c = others c.args.base (omega arith) (omega arith) (omega arith)
