-- `move_lines` meets its contract. The invariant: the first r columns of the lines are moved. Assumes nothing.
use Rattle.std.proofs.Common.{length}
use Rattle.interleave.specs.Moves.{FileMoved, InLines}
use Rattle.interleave.proofs.moves.Interleaver.move_lines.Given as goal

abbrev pub invariant-loop-r : goal.invariant-loop-r
invariant-loop-r l =
    FileMoved l.self.back l.self.width (length l.source) (InLines l.self.width l.line l.lines l.r) l.source l.initial.target l.target
