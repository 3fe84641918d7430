-- `choose_call` meets its contract: a card that the questions 2 to 4 and 27 refuse, or the choice. Assumes nothing.
use mathlib.Core.Path.{sym, ◌∙◌}
use Rattle.droplet.proofs.CardAnswers.{passed, stopped}
use Rattle.droplet.proofs.Refusals.{handed_on}
use Rattle.basecalls.proofs.CallCases.{card-refused, card-passed}
use Rattle.basecalls.proofs.choice.choose_call.Goals as goal

pub first_passing-requires : goal.first_passing-requires
first_passing-requires c =
    let card = passed _ _ c.check_plan.ensures c.in_ok-check_plan.was in
    record { l_most = card.legal.sizes.l_most; check_count = card.legal.sizes.check_count }

pub returns-in_err-check_plan : goal.returns-in_err-check_plan
returns-in_err-check_plan c =
    let no = stopped _ _ c.check_plan.ensures c.in_err-check_plan.was in
    rw (handed_on _ _ c.from_residual.ensures.1) (sym (card-refused _ _ _ _ _ no.number no.not-zero))

pub returns : goal.returns
returns c =
    let card = passed _ _ c.check_plan.ensures c.in_ok-check_plan.was in
    c.first_passing.ensures ∙ sym (card-passed _ _ _ _ card.unrefused)
