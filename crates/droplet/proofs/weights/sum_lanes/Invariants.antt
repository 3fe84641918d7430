-- `sum_lanes` meets its contract: the loop is that of `Lanes`. Assumes nothing.
use mathlib.Core.Path.{◌≡◌}
use lib.ListN.{length}
use Rattle.droplet.proofs.Lanes.{Joined}
use Rattle.droplet.proofs.weights.sum_lanes.Given as goal

abbrev pub invariant-loop-four : goal.invariant-loop-four
invariant-loop-four l =
    (goal.iterator-loop-four).can_next l.four-iterator × (goal.iterator-loop-four).is_finite l.four-iterator
    × (l.four-iterator.size ≡ 4) × Joined l.lanes l.four-iterator.rest.now l.sum (length l.yielded)
