-- `correct_one` meets its contract: the place that fits is changed, and where there is none no codeword is near. Assumes nothing.
use Rattle.std.proofs.Common.{rules}
use Rattle.field.specs.Bytes.{IsByte}
use Rattle.field.proofs.ByteLists.{all_from}
use Rattle.correction.proofs.CorrectionCases.{one-wrong, no_place}
use Rattle.correction.proofs.correct.correct_one.Goals as goal

pub returns-in_err-p : goal.returns-in_err-p
returns-in_err-p c =
    let read = c.args.word.now in
    let bytes = all_from IsByte read 0 (λ i h. search rules) in
    rw c.from_residual.ensures (no_place c.args.r read c.args.sums bytes c.requires.0 c.requires.1 c.in_err-p.ensures)

pub returns : goal.returns
returns c =
    let read = c.args.word.now in
    let bytes = all_from IsByte read 0 (λ i h. search rules) in
    one-wrong c.args.r read c.args.sums bytes c.requires.0 c.requires.1 _ c.in_ok-p.ensures _ c.change.ensures
