-- `step_seed` meets its contract: the mask leaves the top bit alone. Assumes nothing.
use Rattle.std.proofs.Common.{◌≡◌, ◌/◌, ◌%◌, ◌^◌, arith}
use lib.Bits.{and_high}
use Rattle.field.specs.Generator.{seed_after}
use Rattle.field.specs.Shift.{shift_up}
use Rattle.field.proofs.generator.step_seed.Goals as goal

pub returns-then-top-ne0 : goal.returns-then-top-ne0
unfolding seed_after shift_up
returns-then-top-ne0 c =
    let e : c.args.seed / 2 ^ 31 % 2 ≡ 1 = omega (arith, and_high c.args.seed 1 31) in rw e

pub returns-else-top-ne0 : goal.returns-else-top-ne0
unfolding seed_after shift_up
returns-else-top-ne0 c =
    let e : c.args.seed / 2 ^ 31 % 2 ≡ 0 = omega (arith, and_high c.args.seed 1 31) in rw e
