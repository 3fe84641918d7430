-- `peel`: a turn is one pass, by `RestoreLoops`. Assumes nothing.
use mathlib.Core.Path.{◌∙◌}
use native.Mathlib.Omega.{arith}
use Rattle.decoder.proofs.RestoreLoops.{room-stays, peeling-begins, few_passes, few-present, peeling-ends, peeling-turns}
use Rattle.decoder.proofs.restorer.Pool.peel.Goals as goal

pub loop-present-init : goal.loop-present-init
loop-present-init c = peeling-begins _ _ _ _ _ c.requires.1

pub pass-filled-requires : goal.pass-filled-requires
pass-filled-requires c =
    let now = c.loop-present.invariant in
    room-stays _ c.requires.0 now.file-size now.marks-size now.list-size

pub overflow_add-passes : goal.overflow_add-passes
overflow_add-passes c =
    omega (arith, few_passes _ _ _ _ _ _ _ _ _ _ c.loop-present.invariant, c.args.self.now.pickable.few)

pub returns-then-filled-eq0 : goal.returns-then-filled-eq0
returns-then-filled-eq0 c =
    let now = c.loop-present.invariant in
    let done = c.pass-filled.ensures in
    record {
      state = peeling-ends _ _ _ _ _ _ _ _ _ _ now _ _ _ _ done _ (omega arith) (omega (arith, c.if-filled-eq0.true));
      count = omega (arith, done.count, now.counted, c.if-filled-eq0.true);
      rest = done.rest ∙ now.rest;
    }

pub overflow_add-present : goal.overflow_add-present
overflow_add-present c =
    omega (arith, few-present _ _ _ _ _ _ _ _ _ _ c.loop-present.invariant _ _ _ _ c.pass-filled.ensures, c.args.self.now.pickable.few)

pub loop-present-smaller : goal.loop-present-smaller
loop-present-smaller c =
    omega (arith, few-present _ _ _ _ _ _ _ _ _ _ c.loop-present.invariant _ _ _ _ c.pass-filled.ensures, c.if-filled-eq0.false)

pub loop-present-preserved : goal.loop-present-preserved
loop-present-preserved c =
    let kept = c.pass-filled.auto in
    peeling-turns _ _ _ _ _ _ _ _ _ _ c.loop-present.invariant _ _ _ _ c.pass-filled.ensures _ (omega arith)
    (omega (arith, c.if-filled-eq0.false)) kept.file kept.marks kept.list
