-- `check_word` meets its contract: there is no codeword near the word, or the questions are asked of it. Assumes nothing.
use native.Mathlib.Omega.{arith}
use Rattle.std.proofs.Common.{◌≡◌, Some, None}
use Rattle.correction.proofs.CorrectionAnswers.{corrected-to, not-corrected}
use Rattle.droplet.specs.declared.refusal.Refusal.TheVariants.{NoCodeword}
use Rattle.droplet.proofs.Refusals.{handed_on}
use Rattle.strand.proofs.ReadingCases.{word_fits, case-11, case-corrected}
use Rattle.strand.proofs.read_check.check_word.Goals as goal

pub correct_word-requires : goal.correct_word-requires
correct_word-requires c = (c.requires.card.check_count, omega (arith, (word_fits _ _ c.requires).1))

pub returns-in_err-corrected : goal.returns-in_err-corrected
returns-in_err-corrected c =
    let none : c.correct_word.result ≡ None = grind arith in
    let why : c.in_err-corrected.field-0.0 ≡ NoCodeword = grind arith in
    record { says = rw (handed_on _ _ c.from_residual.ensures.1, why, case-11 c.args.card c.args.word.now (not-corrected _ _ _ _ c.correct_word.ensures none)) }

pub returns : goal.returns
returns c =
    let some : c.correct_word.result ≡ Some c.in_ok-corrected.corrected = grind arith in
    rw (case-corrected c.args.card c.args.word.now _ _ (corrected-to _ _ _ _ c.correct_word.ensures _ some)) c.check_codeword.ensures
