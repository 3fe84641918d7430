-- `peel` meets its contract: each pass but the last fills a segment, so the passes end. Assumes nothing.
use Prim.Native.Nat.{◌-◌}
use Rattle.decoder.specs.Pools.{droplets_in}
use Rattle.decoder.proofs.RestoreLoops.{PeelingOn}
use Rattle.decoder.proofs.restorer.Pool.peel.Given as goal

abbrev pub invariant-loop-present : goal.invariant-loop-present
invariant-loop-present l =
    PeelingOn l.self (droplets_in l.self l.records) l.initial.file l.initial.marks l.initial.list l.file l.marks l.list l.present l.passes

abbrev pub decreases-loop-present : goal.decreases-loop-present
decreases-loop-present l = l.self.plan.segments - l.present
