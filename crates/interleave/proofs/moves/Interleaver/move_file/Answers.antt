-- Each turn of `move_file` moves a band of lines, and the last line completes the file. Assumes nothing.
use Rattle.std.proofs.Common.{◌≡◌, ℕ, Bool, List, min, ◌+◌, ◌-◌, ◌/◌, ◌≤◌, ◌<◌, length, refl, arith, rules}
use Rattle.interleave.specs.Moves.{FileMoved, InLines}
use Rattle.interleave.proofs.Moved.{moved_none, file-all}
use Rattle.interleave.proofs.Bands.{band, last_line, band-turn, last_turn}
use Rattle.interleave.proofs.moves.Interleaver.move_file.Goals.{else-loop-line-test, then-loop-line-test+else-most-whole}
use Rattle.interleave.proofs.moves.Interleaver.move_file.Goals as goal

pub loop-line-init : goal.loop-line-init
loop-line-init c = moved_none _ (λ j b. omega arith)

pub move_band-requires : goal.move_band-requires
move_band-requires c =
    let long = c.loop-line.invariant.long in
    (band _ _ (search rules) (search rules) c.requires.short _ _ (omega arith), omega arith)

-- the lines before `line`, which is a whole one, and then a band of them
turn : (back : Bool) (W line most lines : ℕ) {source before mid after : List ℕ} → 1 ≤ W → line < length source / W
    → lines ≡ min most (length source / W - line)
    → FileMoved back W (length source) (λ j. j / W < min line (length source / W)) source before mid
    → FileMoved back W (length source) (InLines W line lines W) source mid after
    → FileMoved back W (length source) (λ j. j / W < min (line + most) (length source / W)) source before after
turn back W line most lines {source = source} least h e m n =
    let whole = length source / W in
    let here : min line whole ≡ line = omega arith in
    let next : min (line + most) whole ≡ line + lines = omega arith in
    rw next (band-turn W (length source) least back line lines (omega arith) (rw here at m) n)

pub loop-line-preserved : goal.loop-line-preserved
loop-line-preserved c =
    turn _ _ c.loop-line.line _ _ (search rules) (omega arith) c.min-lines.ensures c.loop-line.invariant c.move_band.ensures

-- no whole line is left
ended : (back : Bool) (W line : ℕ) {source before after : List ℕ} → length source / W ≤ line
    → FileMoved back W (length source) (λ j. j / W < min line (length source / W)) source before after
    → FileMoved back W (length source) (λ j. j / W < length source / W) source before after
ended back W line {source = source} h m = let all : min line (length source / W) ≡ length source / W = omega arith in rw all at m

pub move_line-requires : goal.move_line-requires
move_line-requires c =
    (last_line _ _ (search rules) (search rules) c.requires.short (omega arith), omega arith)

pub returns : goal.returns
returns c =
    let l = c.loop-line in
    let self = c.args.self in
    let file = c.args.source.now in
    let whole : FileMoved self.back self.width (length file) (λ j. j / self.width < length file / self.width) file c.args.target.now c.loop-line-test.target =
    elim c.loop-line-test.branch [
      | else-loop-line-test w ↦ rw w.target-is (ended _ _ l.line (omega arith) l.invariant)
      | then-loop-line-test+else-most-whole w ↦
          rw w.target-is
          (ended _ _ (l.line + c.lines_at_once-most.result) (omega arith)
          (turn _ _ l.line _ _ (search rules) (omega arith) w.min-lines.ensures l.invariant w.move_band.ensures))
    ] in
    file-all _ _ _ (search rules) refl c.requires.same_length (last_turn _ _ (search rules) _ whole c.move_line.ensures)
