-- `joining_segment` meets its contract: membership decides what joins. Assumes nothing.
use mathlib.Core.Path.{sym, ◌∙◌}
use Rattle.droplet.proofs.Picking.{joins-taken, joins-free}
use Rattle.droplet.proofs.droplet.joining_segment.Goals as goal

pub returns-then-has_joined : goal.returns-then-has_joined
returns-then-has_joined c = rw (← c.number.ensures) (sym (joins-taken _ _ _ (sym c.has_joined.ensures ∙ c.if-has_joined.true)))

pub returns-else-has_joined : goal.returns-else-has_joined
returns-else-has_joined c = rw (← c.number.ensures) (sym (joins-free _ _ _ (sym c.has_joined.ensures ∙ c.if-has_joined.false)))
