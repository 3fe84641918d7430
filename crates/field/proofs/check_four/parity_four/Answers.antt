-- `parity_four` meets its contract: the remainder with four bytes 0 behind it is the parity. Assumes nothing.
use Rattle.std.proofs.Common.{ap, ◌∙◌, arith}
use Rattle.field.specs.Bytes.{IsByte, padded, to_big_endian}
use Rattle.field.proofs.ByteLists.{all_from}
use Rattle.field.proofs.BigEndian.{to_be-big_endian}
use Rattle.field.proofs.Remainders.{parity-by}
use Rattle.field.proofs.check_four.parity_four.Goals as goal

pub returns : goal.returns
unfolding padded to_big_endian
returns c =
    let m = c.args.message.now in
    let r = c.remainder_of in
    c.to_be_bytes.ensures ∙ to_be-big_endian _
    ∙ ap (padded 4) (ap to_big_endian c.up_four-p.ensures ∙ parity-by m r.result (all_from IsByte m 0 (λ k h. omega (arith, c.type_inv.message k))) r.ensures)
