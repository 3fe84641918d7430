-- `count_contradictions`: a turn is one record's, by `RestoreLoops`. Assumes nothing.
use mathlib.Core.Path.{refl, ◌∙◌}
use native.Mathlib.Omega.{arith}
use Rattle.decoder.proofs.RecordsIn.{width-some}
use Rattle.decoder.proofs.RestoreLoops.{room-stays, counting-begins, counting-turns, counting-ends}
use Rattle.decoder.proofs.restorer.Pool.count_contradictions.Goals as goal

pub chunks_exact-bytes-items-requires : goal.chunks_exact-bytes-items-requires
chunks_exact-bytes-items-requires c = omega (arith, width-some c.args.self.now.l)

pub loop-bytes-init : goal.loop-bytes-init
loop-bytes-init c = (
  rw c.into_iter-bytes-iterator.ensures.into_iter_gives (omega (arith, width-some c.args.self.now.l)),
  tt,
  cc,
  counting-begins _ _ _ _ _ (cc),
)

pub contradicts-requires : goal.contradicts-requires
contradicts-requires c =
    let now = c.loop-bytes.invariant in
    let step = c.in-Some.ensures.steps in
    (step.1.1 ∙ now.2, room-stays _ c.requires refl refl now.3.list-size)

pub loop-bytes-preserved : goal.loop-bytes-preserved
loop-bytes-preserved c =
    let now = c.loop-bytes.invariant in
    let step = c.in-Some.ensures.steps in
    let told = c.contradicts.ensures in (
      omega (arith, step.0, now.0),
      tt,
      step.0 ∙ now.2,
      rw c.from-n.ensures
          (counting-turns _ _ _ _ _ _ _ now.3 _ _ step.1.0 (step.1.1 ∙ now.2) _ _ told.0 told.1 c.contradicts.auto.list),
    )

pub returns : goal.returns
returns c =
    let now = c.loop-bytes.invariant in
    (counting-ends _ _ _ _ _ _ _ now.3 (omega (arith, c.in-None.ensures.steps, now.2)), now.3.rest)
