-- `first_passing` meets its contract: one law for each of its answers. Assumes nothing.
use mathlib.Core.Path.{sym, ◌∙◌}
use Rattle.basecalls.proofs.CallCases.{first_passes, second-passes, none_passes}
use Rattle.basecalls.proofs.choice.first_passing.Goals as goal

pub returns-then-passes : goal.returns-then-passes
returns-then-passes c = sym (first_passes _ _ _ (sym c.passes.ensures ∙ c.if-passes.true))

pub returns-then-passes-2 : goal.returns-then-passes-2
returns-then-passes-2 c =
    sym (second-passes _ _ _ (sym c.passes.ensures ∙ c.if-passes.false) (sym c.passes-2.ensures ∙ c.if-passes-2.true))

pub returns : goal.returns
returns c = sym (none_passes _ _ _ (sym c.passes.ensures ∙ c.if-passes.false) (sym c.passes-2.ensures ∙ c.if-passes-2.false))
