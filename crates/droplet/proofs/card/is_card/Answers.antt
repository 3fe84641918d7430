-- `is_card` meets its contract: the library compares two lists as the definition does. Assumes nothing.
use Rattle.std.proofs.Common.{◌∙◌, ap, refl}
use Rattle.field.specs.Bytes.{same_bytes}
use Rattle.field.proofs.SameBytes.{pointwise-same}
use Rattle.droplet.proofs.Conjunctions.{and_before, and-before_no}
use Rattle.droplet.proofs.card.is_card.Goals as goal

pub returns-then-is_width : goal.returns-then-is_width
returns-then-is_width c =
    and_before c.is_width.ensures c.if-is_width.true
    (c.eq.ensures ∙ pointwise-same _ _ ∙ ap (same_bytes c.args.head.now) (c.as_slice.ensures ∙ c.card_head.ensures))

pub returns-else-is_width : goal.returns-else-is_width
returns-else-is_width c = and-before_no _ c.is_width.ensures c.if-is_width.false refl
