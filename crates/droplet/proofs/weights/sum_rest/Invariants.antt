-- `sum_rest` meets its contract: at weight `i` the sum is that of the first `i` weights. Assumes nothing.
use mathlib.Core.Path.{◌≡◌}
use Prim.Native.Nat.{◌+◌, ◌*◌, ◌^◌, ◌≤◌}
use Rattle.droplet.specs.PoolCard.{first_weights}
use Rattle.droplet.proofs.weights.sum_rest.Given as goal

abbrev pub invariant-loop-i : goal.invariant-loop-i
invariant-loop-i l = (l.sum ≡ first_weights l.weights l.i) × (l.sum ≤ 2 ^ 45 + 4294967295 * l.i)
