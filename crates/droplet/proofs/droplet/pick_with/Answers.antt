-- `pick_with` meets its contract: a turn draws a number, and what joins is written and marked. Assumes nothing.
use mathlib.Core.Path.{refl}
use native.Mathlib.Omega.{arith}
use Rattle.droplet.proofs.Picking.{picking-begins, picking-turns, picking-ends}
use Rattle.droplet.proofs.Bitmap.{marked_more}
use Rattle.droplet.proofs.droplet.pick_with.Goals as goal

pub loop-i-init : goal.loop-i-init
loop-i-init c = (picking-begins _ _ _ _, c.requires.3)

pub joining_segment-s-requires : goal.joining_segment-s-requires
joining_segment-s-requires c = (omega arith, c.loop-i.invariant.1)

pub loop-i-preserved : goal.loop-i-preserved
loop-i-preserved c =
    let l = c.loop-i in (
      picking-turns _ _ _ _ _ _ _ l.invariant.0 _ _ _ c.requires.2 c.loop-i-test.true c.next-state.ensures refl c.joining_segment-s.ensures,
      marked_more l.words _ l.list l.i _ c.mark.ensures (omega arith) l.invariant.1,
    )

pub returns : goal.returns
returns c = picking-ends _ _ _ _ _ _ _ c.loop-i.invariant.0 c.loop-i-test.false
