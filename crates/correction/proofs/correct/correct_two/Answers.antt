-- `correct_two` meets its contract: the two places that fit are changed, and where there are none no codeword is near. Assumes nothing.
use Rattle.std.proofs.Common.{ℕ, List, sym, ap, ◌∙◌, subst, rules}
use Rattle.field.specs.Bytes.{IsByte, AllBytes}
use Rattle.field.proofs.ByteLists.{all_from}
use Rattle.field.proofs.Syndromes.{syndromes-bytes}
use Rattle.correction.specs.Locators.{changed}
use Rattle.correction.proofs.CorrectionCases.{both-wrong, no-two-places}
use Rattle.correction.proofs.correct.correct_two.Goals as goal

pub two_places-requires : goal.two_places-requires
two_places-requires c =
    let read = c.args.word.now in
    let bytes = all_from IsByte read 0 (λ i h. search rules) in
    subst AllBytes (sym c.requires.0.sums) (syndromes-bytes 4 read bytes)

pub returns-in_err-two : goal.returns-in_err-two
returns-in_err-two c =
    let read = c.args.word.now in
    let bytes = all_from IsByte read 0 (λ i h. search rules) in
    rw c.from_residual.ensures (no-two-places read c.args.sums bytes c.requires.0 c.requires.1 c.in_err-two.ensures)

pub returns : goal.returns
returns c =
    let read = c.args.word.now in
    let bytes = all_from IsByte read 0 (λ i h. search rules) in
    let f = c.error_value-f in
    both-wrong read c.args.sums bytes c.requires.0 c.requires.1 _ _ _ c.in_ok-two.ensures
    f.result (search rules) f.ensures _
    (c.change-2.ensures ∙ ap (λ (w : List ℕ). changed w c.in_ok-two.two.q f.result) c.change.ensures)
