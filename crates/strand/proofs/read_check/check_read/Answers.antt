-- `check_read` meets its contract: a card that the questions 2 to 4 and 27 refuse, or the rest of the questions. Assumes nothing.
use Rattle.droplet.proofs.CardAnswers.{passed, stopped}
use Rattle.droplet.proofs.Refusals.{handed_on}
use Rattle.strand.proofs.ReadingCases.{case-card, case-letters}
use Rattle.strand.proofs.read_check.check_read.Goals as goal

pub returns-in_err-check_plan : goal.returns-in_err-check_plan
returns-in_err-check_plan c =
    let a = c.args in
    let no = stopped a.card a.weights.now c.check_plan.ensures c.in_err-check_plan.was in
    record { says = rw (handed_on _ _ c.from_residual.ensures.1, case-card a.card a.weights.now a.read.now _ no.number no.not-zero) }

pub check_strand-requires : goal.check_strand-requires
check_strand-requires c =
    let sizes = (passed c.args.card c.args.weights.now c.check_plan.ensures c.in_ok-check_plan.was).legal.sizes in
    record { l_most = sizes.l_most; check_count = sizes.check_count }

pub returns : goal.returns
returns c =
    let a = c.args in
    let p = passed a.card a.weights.now c.check_plan.ensures c.in_ok-check_plan.was in
    rw (case-letters a.card a.weights.now a.read.now p.unrefused) c.check_strand.ensures
