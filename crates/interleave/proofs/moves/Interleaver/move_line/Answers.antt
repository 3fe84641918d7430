-- `move_line` meets its contract. Assumes nothing.
use Rattle.std.proofs.Common.{length, div-le_self, arith}
use Rattle.interleave.proofs.Pieces.{piece-fits}
use Rattle.interleave.proofs.Lines.{lines_start}
use Rattle.interleave.proofs.OneLine.{longer-start, longer-part, shorter-part, line-moved}
use Rattle.interleave.proofs.moves.Interleaver.move_line.Goals as goal

pub overflow_mul-file : goal.overflow_mul-file
overflow_mul-file c = omega (arith, lines_start c.requires.0)

pub overflow_add-interleaved : goal.overflow_add-interleaved
overflow_add-interleaved c = omega (arith, div-le_self (length c.args.source.now) c.args.self.width, c.requires.0.short)

pub move_strided-requires : goal.move_strided-requires
move_strided-requires c = piece-fits (longer-part c.requires.0 c.min-longer.ensures) _ _ (omega arith) (omega arith)

pub overflow_add-file : goal.overflow_add-file
overflow_add-file c =
    let l = c.requires.0 in omega (arith, lines_start l, c.min-longer.ensures, l.most, l.small)

pub overflow_mul-interleaved : goal.overflow_mul-interleaved
overflow_mul-interleaved c = omega (arith, longer-start c.requires.0 c.min-longer.ensures)

pub overflow_add-interleaved-2 : goal.overflow_add-interleaved-2
overflow_add-interleaved-2 c = omega (arith, longer-start c.requires.0 c.min-longer.ensures)

pub overflow_add-interleaved-3 : goal.overflow_add-interleaved-3
overflow_add-interleaved-3 c =
    omega (
      arith,
      longer-start c.requires.0 c.min-longer.ensures,
      c.requires.0.whole,
      div-le_self (length c.args.source.now) c.args.self.width,
    )

pub move_strided-requires-2 : goal.move_strided-requires-2
move_strided-requires-2 c =
    let long = c.move_strided.ensures.long in
    piece-fits (shorter-part c.requires.0 c.min-longer.ensures) _ _ (omega arith) (omega arith)

pub returns : goal.returns
returns c = line-moved c.requires.0 c.min-longer.ensures _ c.move_strided.ensures c.move_strided-2.ensures
