-- What the search leaves. Assumes nothing.
use Rattle.std.proofs.Common.{get_or, ap, arith}
use lib.Bits.{bit_xor}
use Rattle.field.specs.CheckBytes.{times_power, horner}
use Rattle.field.proofs.Fold.{fold-turn, fold_done}
use Rattle.field.proofs.check_bytes.value_at.Goals as goal

pub loop-b-preserved : goal.loop-b-preserved
unfolding horner
loop-b-preserved g c =
    let l = c.loop-b in
    let w = c.args.word.now in
    fold-turn (λ a b. bit_xor (times_power g.row.I a) b) _ _ _ 0 l.b-index w (omega arith)
    (ap (λ v. bit_xor v (get_or w l.b-index 0)) c.times_power.ensures) l.invariant

pub returns : goal.returns
unfolding horner
returns g c = let l = c.loop-b in fold_done (λ a b. bit_xor (times_power g.row.I a) b) _ _ l.b-index c.args.word.now (omega arith) l.invariant
