-- Each turn of `move_lines` moves one column of the lines. Assumes nothing.
use Rattle.std.proofs.Common.{◌≡◌, ℕ, min, ◌+◌, ◌*◌, ◌/◌, ◌%◌, ◌≤◌, ◌<◌, length, div-le_self, refl, arith}
use Rattle.interleave.specs.Interleaving.{column_start}
use Rattle.interleave.specs.Moves.{Lines}
use Rattle.interleave.proofs.Columns.{start-le}
use Rattle.interleave.proofs.Moved.{moved_none}
use Rattle.interleave.proofs.Lines.{lines_start, column, column-turn}
use Rattle.interleave.proofs.Pieces.{piece-fits}
use Rattle.interleave.proofs.moves.Interleaver.move_lines.Goals as goal

pub overflow_mul-first : goal.overflow_mul-first
overflow_mul-first c = omega (arith, lines_start c.requires.0)

pub loop-r-init : goal.loop-r-init
loop-r-init c = moved_none _ (λ j b. let z = b.left in omega arith)

-- a column begins within the file
begins : {W F line lines columns : ℕ} → Lines W F line lines columns → (r : ℕ) → r < columns → column_start W F r ≤ F
begins l r h = start-le _ _ l.least r (omega (arith, l.most))

pub overflow_mul-interleaved : goal.overflow_mul-interleaved
unfolding column_start
overflow_mul-interleaved c = omega (arith, begins c.requires.0 c.loop-r.r (omega arith))

pub overflow_add-interleaved : goal.overflow_add-interleaved
unfolding column_start
overflow_add-interleaved c = omega (arith, begins c.requires.0 c.loop-r.r (omega arith), c.min.ensures)

pub overflow_add-interleaved-in-loop-r : goal.overflow_add-interleaved-in-loop-r
unfolding column_start
overflow_add-interleaved-in-loop-r c =
    omega (
      arith,
      begins c.requires.0 c.loop-r.r (omega arith),
      c.min.ensures,
      c.requires.0.whole,
      div-le_self (length c.args.source.now) c.args.self.width,
    )

pub overflow_add-file : goal.overflow_add-file
overflow_add-file c = let l = c.requires.0 in omega (arith, lines_start l, l.small)

-- the byte of column r in the first of the lines is `line` places after the column's first
starts : (W F r line k : ℕ) → k ≡ min r (F % W) → r * (F / W) + k + line ≡ column_start W F r + line
unfolding column_start
starts W F r line k e = rw e

pub move_strided-requires : goal.move_strided-requires
move_strided-requires c =
    let long = c.loop-r.invariant.long in
    piece-fits (column c.requires.0 c.loop-r-test.true refl (starts _ _ _ _ _ c.min.ensures)) _ _ (omega arith) (omega arith)

pub loop-r-preserved : goal.loop-r-preserved
loop-r-preserved c =
    column-turn c.requires.0 c.loop-r-test.true refl (starts _ _ _ _ _ c.min.ensures) _ c.loop-r.invariant c.move_strided.ensures

pub returns : goal.returns
returns c = let all : c.loop-r.r ≡ c.args.self.width = omega arith in rw all at c.loop-r.invariant
