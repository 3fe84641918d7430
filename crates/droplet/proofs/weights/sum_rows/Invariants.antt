-- `sum_rows` meets its contract: the loop is that of `Lanes`. Assumes nothing.
use mathlib.Core.Path.{◌≡◌}
use lib.ListN.{length}
use Rattle.droplet.proofs.Lanes.{Summed}
use Rattle.droplet.proofs.weights.sum_rows.Given as goal

abbrev pub invariant-loop-row : goal.invariant-loop-row
invariant-loop-row l =
    (goal.iterator-loop-row).can_next l.row-iterator × (goal.iterator-loop-row).is_finite l.row-iterator × (l.row-iterator.size ≡ 64)
    × Summed l.weights l.lanes l.row-iterator.rest.now (length l.yielded)
