-- `reorder_file` meets its contract: one law for each of its answers. Assumes nothing.
use Rattle.std.proofs.Common.{arith}
use Rattle.std.proofs.lemmas.Result.{err_from_is_err_and}
use Rattle.droplet.proofs.CardAnswers.{passed, stopped}
use Rattle.interleave.proofs.ReorderAnswers.{illegal, too_short, moved}
use Rattle.interleave.proofs.file.reorder_file.Goals as goal

pub returns-in_err-check_plan : goal.returns-in_err-check_plan
returns-in_err-check_plan c =
    let p = err_from_is_err_and c.from_residual.result c.from_residual.ensures.1 in
    rw (p.1, p.2) (illegal _ _ _ _ _ _ (stopped _ _ c.check_plan.ensures c.in_err-check_plan.was))

pub returns-then-source-n : goal.returns-then-source-n
returns-then-source-n c =
    let legal = (passed _ _ c.check_plan.ensures c.in_ok-check_plan.was).unrefused in
    too_short _ _ _ _ _ legal c.then-source-n.either

pub move_file-requires : goal.move_file-requires
move_file-requires c =
    let width = (passed _ _ c.check_plan.ensures c.in_ok-check_plan.was).legal.width in (
      λ there. omega (arith, (width there).width-least),
      omega arith,
      omega arith,
    )

pub returns : goal.returns
returns c =
    let legal = (passed _ _ c.check_plan.ensures c.in_ok-check_plan.was).unrefused in
    moved _ _ _ _ _ legal (omega arith) (omega arith) _ c.move_file.ensures
