-- `write_passing` meets its contract: it writes just where the screen passes, and answers the verdict. Assumes nothing.
use mathlib.Core.Path.{sym, ◌∙◌}
use Rattle.screen.proofs.Screening.{comparable, compared}
use Rattle.strand.proofs.Tests.{screened}
use Rattle.strand.proofs.writer.write_passing.Goals as goal

pub compare-verdict-requires : goal.compare-verdict-requires
compare-verdict-requires c = comparable _ c.measure_of.ensures c.to_bases-n.ensures c.requires.0

-- in both, what the code compared is the verdict on the strand
pub returns-then-eq : goal.returns-then-eq
returns-then-eq c =
    let judged = compared c.args.word.now c.measure_of.ensures c.to_bases-n.ensures c.args.card c.compare-verdict.ensures in
    record { says = judged; prints = rw (sym (screened _ _ judged c.eq.ensures) ∙ c.if-eq.true) c.write_line.ensures }

pub returns-else-eq : goal.returns-else-eq
returns-else-eq c =
    let judged = compared c.args.word.now c.measure_of.ensures c.to_bases-n.ensures c.args.card c.compare-verdict.ensures in
    record { says = judged; prints = rw (sym (screened _ _ judged c.eq.ensures) ∙ c.if-eq.false) }
