-- `pass`: a turn is one record's, by `RestoreLoops`. Assumes nothing.
use mathlib.Core.Path.{◌∙◌}
use native.Mathlib.Omega.{arith}
use Rattle.decoder.proofs.RecordsIn.{width-some}
use Rattle.decoder.proofs.RestoreLoops.{room-stays, passing_begins, few-filled, passing-turns, passing-ends}
use Rattle.decoder.proofs.restorer.Pool.pass.Goals as goal

pub chunks_exact-bytes-items-requires : goal.chunks_exact-bytes-items-requires
chunks_exact-bytes-items-requires c = omega (arith, width-some c.args.self.now.l)

pub loop-bytes-init : goal.loop-bytes-init
loop-bytes-init c = (
  rw c.into_iter-bytes-iterator.ensures.into_iter_gives (omega (arith, width-some c.args.self.now.l)),
  tt,
  cc,
  passing_begins _ _ _ _ _ _ (cc),
)

pub step_record-requires : goal.step_record-requires
step_record-requires c =
    let now = c.loop-bytes.invariant in
    let step = c.in-Some.ensures.steps in
    (step.1.1 ∙ now.2, room-stays _ c.requires now.3.file-size now.3.marks-size now.3.list-size)

pub overflow_add-filled : goal.overflow_add-filled
overflow_add-filled c =
    let right = c.args.self.now.pickable in
    omega (arith, few-filled _ _ _ _ _ _ _ _ _ _ c.loop-bytes.invariant.3 _ _ c.step_record.ensures.count, c.from-filled.ensures, right.few)

pub loop-bytes-preserved : goal.loop-bytes-preserved
loop-bytes-preserved c =
    let now = c.loop-bytes.invariant in
    let step = c.in-Some.ensures.steps in
    let kept = c.step_record.auto in (
      omega (arith, step.0, now.0),
      tt,
      step.0 ∙ now.2,
      rw c.from-filled.ensures
          (passing-turns _ _ _ _ _ _ _ _ _ _ now.3 _ _ step.1.0 (step.1.1 ∙ now.2) _ _ _ _ c.step_record.ensures kept.file kept.marks kept.list),
    )

pub returns : goal.returns
returns c =
    let now = c.loop-bytes.invariant in
    passing-ends _ _ _ _ _ _ _ _ _ _ now.3 (omega (arith, c.in-None.ensures.steps, now.2))
