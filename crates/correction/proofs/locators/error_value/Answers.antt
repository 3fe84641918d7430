-- `error_value` meets its contract. Assumes nothing.
use mathlib.Core.Path.{ap₂}
use borrow.Author.Rules.{rules}
use lib.Bits.{bit_xor}
use Rattle.field.proofs.Powers.{power_zero}
use Rattle.correction.proofs.ErrorValues.{value-right}
use Rattle.correction.proofs.locators.error_value.Goals as goal

pub returns-then-c-eq0 : goal.returns-then-c-eq0
returns-then-c-eq0 c = let e = c.if-c-eq0.true in simp (power_zero, e)

pub returns : goal.returns
returns c =
    value-right c.args.p c.args.q c.args.c _ c.inverse_of.result _ c.requires.0 c.requires.1 (search rules)
    c.if-c-eq0.false (ap₂ bit_xor c.times_power.ensures c.times_power-2.ensures) c.inverse_of.ensures
    c.product_of.ensures
