-- The places of `copy_strided` lie within the two slices, and a turn copies one byte more. Assumes nothing.
use Rattle.std.proofs.Common.{◌<◌, length, arith}
use Rattle.interleave.proofs.Moved.{moved_none}
use Rattle.interleave.proofs.Strides.{strided-zero, strided-next, strided-turn}
use Rattle.interleave.proofs.moves.copy_strided.Goals as goal

pub loop-init : goal.loop-init
loop-init c = (strided-zero _ _, strided-zero _ _, moved_none _ (λ j b. omega arith))

-- the next byte's places lie within source and target
pub bounds-source-s : goal.bounds-source-s
bounds-source-s c = omega (arith, c.requires.1.inside c.loop.counter (omega arith))

pub bounds-target-t : goal.bounds-target-t
bounds-target-t c = omega (arith, c.requires.0.inside c.loop.counter (omega arith), c.loop.invariant.2.long)

pub overflow_add-t : goal.overflow_add-t
overflow_add-t c = omega (arith, c.requires.0.inside c.loop.counter (omega arith), c.requires.0.small)

pub overflow_add-s : goal.overflow_add-s
overflow_add-s c = omega (arith, c.requires.1.inside c.loop.counter (omega arith), c.requires.1.small)

pub loop-preserved : goal.loop-preserved
loop-preserved c =
    let l = c.loop in
    let x = l.counter in
    let apart = c.requires.0.apart x (omega arith) in
    let inside : l.t < length l.target = omega (arith, c.requires.0.inside x (omega arith), l.invariant.2.long) in (
      strided-next _ _ x l.invariant.0,
      strided-next _ _ x l.invariant.1,
      strided-turn _ _ _ _ x apart l.invariant.0 l.invariant.1 inside l.invariant.2,
    )
