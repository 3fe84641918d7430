-- `has_seed_zero`: a turn looks at one record's seed, by `SeedZero`. Assumes nothing.
use mathlib.Core.Path.{sym, ◌∙◌}
use native.Mathlib.Omega.{arith}
use Rattle.decoder.proofs.RecordBytes.{parts-fit}
use Rattle.decoder.proofs.RecordsIn.{width-some}
use Rattle.decoder.proofs.SeedZero.{seed-here, seed-past, seed-end}
use Rattle.decoder.proofs.restorer.has_seed_zero.Goals as goal

pub chunks_exact-bytes-items-requires : goal.chunks_exact-bytes-items-requires
chunks_exact-bytes-items-requires c = omega (arith, width-some c.args.l)

pub loop-bytes-init : goal.loop-bytes-init
loop-bytes-init c = (rw c.into_iter-bytes-iterator.ensures.into_iter_gives (omega (arith, width-some c.args.l)), tt, cc, cc)

pub seed_of-requires : goal.seed_of-requires
seed_of-requires c = omega (arith, c.in-Some.ensures.steps, c.loop-bytes.invariant.2, parts-fit c.args.l)

pub returns-then-seed_of-eq0 : goal.returns-then-seed_of-eq0
returns-then-seed_of-eq0 c =
    let step = c.in-Some.ensures.steps in
    let now = c.loop-bytes.invariant in
    sym (seed-here c.args.l 0 _ _ _ step.1.0 (step.1.1 ∙ now.2) (sym c.seed_of.ensures ∙ c.if-seed_of-eq0.true)) ∙ now.3

pub loop-bytes-preserved : goal.loop-bytes-preserved
loop-bytes-preserved c =
    let step = c.in-Some.ensures.steps in
    let now = c.loop-bytes.invariant in (
      omega (arith, step.0, now.0),
      tt,
      step.0 ∙ now.2,
      sym (seed-past c.args.l 0 _ _ _ step.1.0 (step.1.1 ∙ now.2) (λ e. c.if-seed_of-eq0.false (c.seed_of.ensures ∙ e))) ∙ now.3,
    )

pub returns : goal.returns
returns c =
    let now = c.loop-bytes.invariant in
    sym (seed-end c.args.l 0 _ (omega (arith, c.in-None.ensures.steps, now.2))) ∙ now.3
