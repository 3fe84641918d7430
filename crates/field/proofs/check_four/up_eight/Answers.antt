-- `up_eight` meets its contract: the table is computed. Assumes nothing.
use Rattle.field.specs.Bytes.{xor_lists, from_big_endian, to_big_endian, table_of}
use Rattle.field.specs.CheckBytes.{parity, remainder_after, multiple, by_root, times_power, double}
use Rattle.field.specs.Shift.{shift_up}
use Rattle.field.specs.Loops.{halves_table, up_four, up_eight}
use Rattle.field.proofs.check_four.up_eight.Goals as goal

pub returns : goal.returns
unfolding halves_table table_of up_four up_eight from_big_endian to_big_endian parity remainder_after multiple by_root xor_lists times_power double shift_up
returns c = c.at_halves.ensures
