-- `times_power` meets its contract: a turn is one doubling. Assumes nothing.
use Rattle.std.proofs.Common.{◌≡◌}
use Rattle.field.specs.CheckBytes.{times_power}
use Rattle.field.proofs.check_bytes.times_power.Given as goal

abbrev pub invariant-loop : goal.invariant-loop
invariant-loop l = l.y ≡ times_power l.counter l.x
