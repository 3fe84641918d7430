-- `letter_bits` meets its contract: each arm of the match is a case of the definition. Assumes nothing.
use mathlib.Core.Path.{◌≡◌}
use mathlib.Core.Logic.{⊎_elim}
use Prim.Native.Nat.{ℕ}
use native.Mathlib.Omega.{arith}
use borrow.Author.Tests.{ne_eqb}
use lib.Dec.{lit<}
use Rattle.screen.specs.Letters.{letter_bits}
use Rattle.screen.specs.Loops.{letter_in, Reads}
use Rattle.screen.proofs.letters.letter_bits.Goals as goal

-- any number but the four of letters
others : (x : ℕ) → (x ≡ 65 → ⊥) → (x ≡ 67 → ⊥) → (x ≡ 71 → ⊥) → (x ≡ 84 → ⊥) → Reads x 33
unfolding letter_bits letter_in
others x a c g t = record {
  letter = simp (ne_eqb x 65 a, ne_eqb x 67 c, ne_eqb x 71 g, ne_eqb x 84 t);
  two_bits = lit< tt;
  small = lit< tt;
}

pub returns-in-65 : goal.returns-in-65
unfolding letter_bits letter_in
returns-in-65 c = record { letter = rw c.in-65.is; two_bits = lit< tt; small = lit< tt }

pub returns-in-67 : goal.returns-in-67
unfolding letter_bits letter_in
returns-in-67 c = record { letter = rw c.in-67.is; two_bits = lit< tt; small = lit< tt }

pub returns-in-71 : goal.returns-in-71
unfolding letter_bits letter_in
returns-in-71 c = record { letter = rw c.in-71.is; two_bits = lit< tt; small = lit< tt }

pub returns-in-84 : goal.returns-in-84
unfolding letter_bits letter_in
returns-in-84 c = record { letter = rw c.in-84.is; two_bits = lit< tt; small = lit< tt }

pub returns-in-66 : goal.returns-in-66
unfolding letter_bits letter_in
returns-in-66 c = record {
  letter = ⊎_elim (λ e. rw e) (⊎_elim (λ e. rw e) (⊎_elim (λ e. rw e) (λ e. rw e))) c.in-66.is;
  two_bits = lit< tt;
  small = lit< tt;
}

pub returns-in-0-to-64 : goal.returns-in-0-to-64
returns-in-0-to-64 c = others c.args.x (omega arith) (omega arith) (omega arith) (omega arith)

pub returns-in-0-to-64-2 : goal.returns-in-0-to-64-2
returns-in-0-to-64-2 c = others c.args.x (omega arith) (omega arith) (omega arith) (omega arith)
