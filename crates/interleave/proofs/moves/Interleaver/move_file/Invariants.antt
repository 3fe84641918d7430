-- `move_file` meets its contract. The invariant: the whole lines before `line` are moved. Assumes nothing.
use Rattle.std.proofs.Common.{◌/◌, ◌<◌, min, length}
use Rattle.interleave.specs.Moves.{FileMoved}
use Rattle.interleave.proofs.moves.Interleaver.move_file.Given as goal

abbrev pub invariant-loop-line : goal.invariant-loop-line
invariant-loop-line l =
    FileMoved l.self.back l.self.width (length l.source) (λ j. j / l.self.width < min l.line (length l.source / l.self.width)) l.source l.initial.target l.target
