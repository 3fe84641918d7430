-- `check_codeword` meets its contract: each way out is a case of the definition. Assumes nothing.
use mathlib.Core.Path.{◌≡◌, sym, ap, ◌∙◌}
use mathlib.Core.Bool.{not}
use mathlib.Core.List.{List}
use Prim.Native.Nat.{ℕ, ◌+◌, ◌-◌}
use native.Mathlib.Omega.{arith}
use lib.ListN.{take, drop}
use Rattle.std.proofs.Common.{Ok}
use Rattle.field.specs.Bytes.{padded}
use Rattle.droplet.specs.declared.card.Card.{Card}
use Rattle.screen.proofs.Screening.{comparable, compared}
use Rattle.strand.specs.ReadCheck.{Answers, word_seed, word_payload, strand_reading}
use Rattle.strand.specs.ReadCheck.Reading.{droplet}
use Rattle.strand.proofs.Tests.{unequal, screened}
use Rattle.strand.proofs.ReadingCases.{word_fits, case-12, case-13, case-droplet}
use Rattle.strand.proofs.read_check.check_codeword.Goals as goal

accepted : (card : Card) (word payload : List ℕ) (seed k : ℕ) → strand_reading card word k ≡ droplet (word_seed word) (word_payload card word) k
    → seed ≡ word_seed word → payload ≡ padded 64 (take (4 + card.l - 4) (drop 4 word))
    → Answers (strand_reading card word k) (Ok (record { seed = seed; payload = payload; corrected = k }))
accepted card word payload seed k e s p =
    let n : 4 + card.l - 4 ≡ card.l = omega arith in
    rw e (record { says = rw (s, p, n) })

pub seed_of-seed-requires : goal.seed_of-seed-requires
seed_of-seed-requires c = omega (arith, (word_fits _ _ c.requires).0)

pub returns-then-seed-eq0 : goal.returns-then-seed-eq0
returns-then-seed-eq0 c =
    let a = c.args in
    let zero : c.seed_of-seed.result ≡ 0 = omega (arith, c.if-seed-eq0.true) in
    record { says = rw (case-12 a.card a.word.now a.corrected (sym c.seed_of-seed.ensures ∙ zero)) }

pub to_bases-n-requires : goal.to_bases-n-requires
to_bases-n-requires c = omega (arith, (word_fits _ _ c.requires).1)

pub measure_of-requires : goal.measure_of-requires
measure_of-requires c = (word_fits _ _ c.requires).1

pub compare-requires : goal.compare-requires
compare-requires c = comparable c.args.word.now c.measure_of.ensures c.to_bases-n.ensures (word_fits _ _ c.requires).1

pub slice_bounds-pad-end : goal.slice_bounds-pad-end
slice_bounds-pad-end c = omega (arith, (word_fits _ _ c.requires).0)

-- in both of the others, what the code compared is what question 13 asks
pub returns-then-ne : goal.returns-then-ne
returns-then-ne c =
    let a = c.args in
    let judged = compared a.word.now c.measure_of.ensures c.to_bases-n.ensures a.card c.compare.ensures in
    let fails = sym (screened a.card a.word.now judged (unequal _ c.ne.ensures)) ∙ ap not c.if-ne.true in
    record { says = rw (case-13 a.card a.word.now a.corrected (λ s. c.if-seed-eq0.false (c.seed_of-seed.ensures ∙ s)) fails) }

pub returns : goal.returns
returns c =
    let a = c.args in
    let judged = compared a.word.now c.measure_of.ensures c.to_bases-n.ensures a.card c.compare.ensures in
    let passes = sym (screened a.card a.word.now judged (unequal _ c.ne.ensures)) ∙ ap not c.if-ne.false in
    accepted a.card a.word.now c.pad-payload.result c.seed_of-seed.result a.corrected
    (case-droplet a.card a.word.now a.corrected (λ s. c.if-seed-eq0.false (c.seed_of-seed.ensures ∙ s)) passes) c.seed_of-seed.ensures
    (rw c.from-end.ensures at c.pad-payload.ensures)
