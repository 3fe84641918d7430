-- `write_strands` meets its contract: one law for each of its answers. Assumes nothing.
use mathlib.Core.Path.{sym, ap, ◌∙◌}
use Rattle.droplet.specs.Refusals.{asked}
use Rattle.droplet.proofs.CardAnswers.{passed, stopped}
use Rattle.droplet.proofs.Refusals.{handed_on}
use Rattle.strand.proofs.WriterAnswers.{roomy, card-refused, own-refused, answered}
use Rattle.strand.proofs.writer.write_strands.Goals as goal

pub returns-in_err-plan : goal.returns-in_err-plan
returns-in_err-plan c =
    let s = stopped _ _ c.check_plan.ensures c.in_err-plan.was in
    rw (handed_on _ _ c.from_residual.ensures.1) (card-refused s.number)

-- in the others, the questions 2 to 4 and 27 have let the card pass, and the writer's own have been asked
pub invariant_of-source : goal.invariant_of-source
invariant_of-source c =
    let ready = passed _ _ c.check_plan.ensures c.in_ok-plan.was in
    record { legal = ready.unrefused; segments = ready.segments; degrees = ready.degrees; sum = ready.sum }

pub returns-in_err-ask : goal.returns-in_err-ask
returns-in_err-ask c =
    let ready = passed _ _ c.check_plan.ensures c.in_ok-plan.was in
    rw (handed_on _ _ c.from_residual-in_err-ask.ensures.1) (own-refused ready.unrefused (sym c.ask.ensures ∙ ap asked c.in_err-ask.was))

pub run-requires : goal.run-requires
run-requires c =
    let r = roomy _ (sym c.ask.ensures ∙ ap asked c.in_ok-ask.was) in
    (r.places, r.lines)

pub returns : goal.returns
returns c =
    let ready = passed _ _ c.check_plan.ensures c.in_ok-plan.was in
    answered ready.unrefused (sym (ap asked c.in_ok-ask.was) ∙ c.ask.ensures) c.run.ensures
