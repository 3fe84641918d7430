-- `times_root` meets its contract: the bit that falls out is a one just where x is at least 128. Assumes nothing.
use Rattle.std.proofs.Common.{◌≡◌, ◌/◌, ◌%◌, ◌^◌, arith}
use Rattle.field.specs.CheckBytes.{double}
use Rattle.field.specs.Shift.{shift_up}
use Rattle.field.proofs.check_bytes.times_root.Goals as goal

pub returns-then-x-ge128 : goal.returns-then-x-ge128
unfolding double shift_up
returns-then-x-ge128 c = let e : c.args.x / 2 ^ 7 % 2 ≡ 1 = omega arith in rw e

pub returns-else-x-ge128 : goal.returns-else-x-ge128
unfolding double shift_up
returns-else-x-ge128 c = let e : c.args.x / 2 ^ 7 % 2 ≡ 0 = omega arith in rw e
