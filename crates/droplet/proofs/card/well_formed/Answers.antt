-- `well_formed` meets its contract: a card shorter than its head, or than its third field says, is none, and of others the parts decide.
-- Assumes nothing.
use Rattle.std.proofs.Common.{◌∙◌, sym, eq-eqb, ne_eqb}
use Rattle.droplet.proofs.CardParts.{too_short, cut_off, has-ends, lent-weights, formed}
use Rattle.droplet.proofs.card.well_formed.Goals.{else-is_card-via-then-is_card+else-weights-eq0, else-is_card-via-else-is_card}
use Rattle.droplet.proofs.card.well_formed.Goals as goal

pub returns-in_err-head : goal.returns-in_err-head
returns-in_err-head c = rw c.from_residual.ensures (too_short _ c.in_err-head.ensures.cases)

pub returns-in_err-weights : goal.returns-in_err-weights
returns-in_err-weights c =
    rw c.from_residual-in_err-weights.ensures
    (cut_off _ _ _ c.in_ok-head.ensures.cases _ (c.from.ensures ∙ c.two_bytes.ensures) c.in_err-weights.ensures.cases)

pub returns-then-weights-eq0 : goal.returns-then-weights-eq0
returns-then-weights-eq0 c =
    let ends = has-ends _ _ _ c.in_ok-head.ensures.cases _ (c.from.ensures ∙ c.two_bytes.ensures) _ _ c.in_ok-weights.ensures.cases in
    let lent = lent-weights _ _ _ c.in_ok-head.ensures.cases _ (c.from.ensures ∙ c.two_bytes.ensures) _ _ c.in_ok-weights.ensures.cases in
    let numbers = c.card_numbers-card.ensures _ ends in
    record {
      formed = sym (formed _ _ _ _ _ ends lent numbers) ∙ rw (sym c.is_card.ensures ∙ c.if-is_card.true, eq-eqb _ 0 c.if-weights-eq0.true);
      numbers = numbers;
      lent = lent;
    }

pub returns : goal.returns
returns c =
    let ends = has-ends _ _ _ c.in_ok-head.ensures.cases _ (c.from.ensures ∙ c.two_bytes.ensures) _ _ c.in_ok-weights.ensures.cases in
    let lent = lent-weights _ _ _ c.in_ok-head.ensures.cases _ (c.from.ensures ∙ c.two_bytes.ensures) _ _ c.in_ok-weights.ensures.cases in
    let numbers = c.card_numbers-card.ensures _ ends in
    sym (formed _ _ _ _ _ ends lent numbers) ∙ elim c.else-is_card.branch [
      | else-is_card-via-then-is_card+else-weights-eq0 w ↦ rw (sym c.is_card.ensures ∙ w.if-is_card.true, ne_eqb _ 0 w.if-weights-eq0.false)
      | else-is_card-via-else-is_card w ↦ rw (sym c.is_card.ensures ∙ w.if-is_card.false)
    ]
