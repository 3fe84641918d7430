-- `join_lanes` meets its contract: a lane counts as a byte would. Assumes nothing.
use mathlib.Core.Path.{refl}
use native.Mathlib.Omega.{arith}
use Rattle.droplet.proofs.Lanes.{weight-from}
use Rattle.droplet.proofs.weights.join_lanes.Goals as goal

pub returns : goal.returns
returns c =
    let four = c.args.four.now in
    let w = weight-from four 0 0 refl (omega arith) in
    (omega arith, omega (arith, c.type_inv.four 0, c.type_inv.four 1, c.type_inv.four 2, c.type_inv.four 3))
