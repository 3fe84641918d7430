-- `restore` meets its contract: refused by the card, by a later question, or answered. Assumes nothing.
use mathlib.Core.Path.{refl}
use native.Mathlib.Omega.{arith}
use Rattle.droplet.proofs.CardAnswers.{passed, stopped}
use Rattle.droplet.proofs.Refusals.{handed_on}
use Rattle.decoder.proofs.RestoreAnswers.{card-refused, later-refused, records-fit, pickable, room, restored-promise}
use Rattle.decoder.proofs.restorer.restore.Goals as goal

pub ask_later-requires : goal.ask_later-requires
ask_later-requires c =
    let p = passed _ _ c.check_plan.ensures c.in_ok-plan.was in
    (rw c.from-l.ensures p.legal.sizes.l_most, omega (arith, p.segments, p.legal.sizes.segments-most))

pub invariant_of-pool : goal.invariant_of-pool
invariant_of-pool c =
    let x = c.args in
    let p = passed _ _ c.check_plan.ensures c.in_ok-plan.was in
    record { pickable = rw c.from-l.ensures (pickable _ _ x.store.now x.count x.file.now x.marks.now x.list.now _ p (rw c.from-l.ensures at c.in_ok-ask_later.ensures)) }

pub first_records-requires : goal.first_records-requires
first_records-requires c =
    let x = c.args in
    let p = passed _ _ c.check_plan.ensures c.in_ok-plan.was in
    rw c.from-l.ensures (p.legal.sizes.l_most, records-fit _ _ x.store.now x.count x.file.now x.marks.now x.list.now _ p (rw c.from-l.ensures at c.in_ok-ask_later.ensures))

pub make_sheet-requires : goal.make_sheet-requires
make_sheet-requires c =
    let x = c.args in
    let p = passed _ _ c.check_plan.ensures c.in_ok-plan.was in
    room _ _ x.store.now x.count x.file.now x.marks.now x.list.now _ p (rw c.from-l.ensures at c.in_ok-ask_later.ensures) _ refl refl c.from-l.ensures

pub returns-in_err-plan : goal.returns-in_err-plan
returns-in_err-plan c =
    let x = c.args in
    rw (handed_on _ _ c.from_residual.ensures.1)
    (card-refused _ _ _ _ x.file.now x.marks.now x.list.now _ (stopped _ _ c.check_plan.ensures c.in_err-plan.was))

pub returns-in_err-ask_later : goal.returns-in_err-ask_later
returns-in_err-ask_later c =
    let x = c.args in
    let p = passed _ _ c.check_plan.ensures c.in_ok-plan.was in
    rw (handed_on _ _ c.from_residual-in_err-ask_later.ensures.1)
    (later-refused _ _ _ _ x.file.now x.marks.now x.list.now _ p _ (rw c.from-l.ensures at c.in_err-ask_later.ensures))

pub returns : goal.returns
returns c =
    let x = c.args in
    let p = passed _ _ c.check_plan.ensures c.in_ok-plan.was in
    restored-promise _ _ x.store.now _ x.file.now x.marks.now x.list.now _ p (rw c.from-l.ensures at c.in_ok-ask_later.ensures) _ refl refl c.from-l.ensures _ _ _ _ _
    (rw c.from-l.ensures at c.first_records.ensures) c.make_sheet.ensures
