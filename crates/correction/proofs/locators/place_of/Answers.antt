-- Each turn of `place_of` rules out one place more, and the test that passes finds one that fits. Assumes nothing.
use Rattle.std.proofs.Common.{arith, below_more}
use Rattle.correction.proofs.PlaceTests.{scaled-zero, scaled-turn, hit, miss}
use Rattle.correction.proofs.locators.place_of.Goals as goal

pub loop-p-init : goal.loop-p-init
loop-p-init c =
    let e = c.new-scaled.ensures in
    (scaled-zero _ _ e.zeroth e.first e.second, (λ k h f. omega arith))

pub returns-then-follows : goal.returns-then-follows
returns-then-follows c =
    let l = c.loop-p in
    let a = c.args in
    record {
      below = omega arith;
      before = l.invariant.1;
      here = hit a.m l.p a.s c.requires.1 l.scaled l.invariant.0 _ c.follows.ensures c.if-follows.true;
    }

pub loop-p-preserved : goal.loop-p-preserved
loop-p-preserved c =
    let l = c.loop-p in
    let a = c.args in
    let next = c.next-scaled.ensures in (
      scaled-turn l.p a.s l.scaled _ l.invariant.0 next.zeroth next.first next.second,
      below_more _ _ l.invariant.1
          (miss a.m l.p a.s c.requires.1 l.scaled l.invariant.0 _ c.follows.ensures c.requires.0 c.if-follows.false),
    )
