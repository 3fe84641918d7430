-- `move_file` meets its contract: reordered where the card has the field, and otherwise as it is. Assumes nothing.
use mathlib.Core.Path.{sym, ◌∙◌}
use native.Mathlib.Omega.{arith}
use lib.Seq.{length-take-le}
use Rattle.interleave.specs.InterleaveCalls.{file_reordered}
use Rattle.interleave.proofs.file.move_file.Goals as goal

pub move_bytes-requires : goal.move_bytes-requires
move_bytes-requires c = (c.requires.0 c.if-card.true, c.requires.1, c.requires.2)

-- the F bytes that are copied are F bytes
pub slice_bounds-copy-end : goal.slice_bounds-copy-end
slice_bounds-copy-end c = sym (length-take-le _ _ c.requires.1)

pub copy-requires : goal.copy-requires
copy-requires c = omega (arith, length-take-le _ _ c.requires.1, c.requires.2)

pub returns-then-card : goal.returns-then-card
unfolding file_reordered
returns-then-card c = rw c.if-card.true c.move_bytes.ensures

pub returns-else-card : goal.returns-else-card
unfolding file_reordered
returns-else-card c = rw c.if-card.false (c.copy.ensures ∙ rw (length-take-le _ _ c.requires.1))
