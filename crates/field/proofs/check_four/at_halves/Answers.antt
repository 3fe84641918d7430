-- What the search leaves. Assumes nothing.
use Rattle.std.proofs.Common.{ℕ, ◌+◌, ◌*◌, ◌/◌, ◌%◌, ◌^◌, get_or, refl, ap, add-one}
use lib.Bits.{bit_xor}
use Rattle.field.specs.Loops.{at_halves}
use Rattle.field.proofs.check_four.at_halves.Goals as goal

pub loop-k-init : goal.loop-k-init
unfolding at_halves
loop-k-init c = refl

pub loop-k-preserved : goal.loop-k-preserved
unfolding at_halves
loop-k-preserved c =
    let l = c.loop-k in
    let entry = c.args.x / 2 ^ (4 * l.k) % 16 + 16 * l.k in
    rw add-one (ap (λ (v : ℕ). bit_xor v (get_or c.args.table.now entry 0)) l.invariant)
