-- What the search leaves. Assumes nothing.
use Rattle.std.proofs.Common.{refl, sym, add-one}
use Rattle.field.specs.CheckBytes.{times_power}
use Rattle.field.proofs.Powers.{power-double}
use Rattle.field.proofs.check_bytes.times_power.Goals as goal

pub loop-init : goal.loop-init
unfolding times_power
loop-init c = refl

pub loop-preserved : goal.loop-preserved
unfolding times_power
loop-preserved c =
    let l = c.loop in
    rw (c.times_root-y.ensures, l.invariant, add-one) (sym (power-double l.counter c.args.x))
