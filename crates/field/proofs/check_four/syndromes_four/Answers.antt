-- `syndromes_four` meets its contract: the remainder has the word's syndromes. Assumes nothing.
use Rattle.std.proofs.Common.{ℕ, sym, ap, ◌∙◌}
use Rattle.field.specs.Bytes.{to_big_endian}
use Rattle.field.specs.CheckBytes.{syndromes, horner, times_power, double}
use Rattle.field.specs.Shift.{shift_up}
use Rattle.field.proofs.BigEndian.{to_be-big_endian}
use Rattle.field.proofs.Remainders.{syndromes-by}
use Rattle.field.proofs.check_four.syndromes_four.Goals as goal

pub returns-then-r-eq0 : goal.returns-then-r-eq0
unfolding syndromes horner to_big_endian times_power double shift_up
returns-then-r-eq0 c =
    let r = c.remainder_of-r in
    ap (λ (x : ℕ). syndromes 4 (to_big_endian x)) (sym c.if-r-eq0.true)
    ∙ syndromes-by c.args.word.now r.result r.ensures

pub returns : goal.returns
unfolding syndromes
returns c =
    let r = c.remainder_of-r in
    let rest = c.to_be_bytes-rest.ensures ∙ to_be-big_endian _ in
    rw (c.value_at.ensures, c.value_at-2.ensures, c.value_at-3.ensures, c.value_at-4.ensures)
    (ap (syndromes 4) rest ∙ syndromes-by c.args.word.now r.result r.ensures)
