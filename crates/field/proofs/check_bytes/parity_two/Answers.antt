-- What the search leaves. Assumes nothing.
use Rattle.std.proofs.Common.{◌≡◌, ℕ, [], ◌∷◌, refl, ap, arith}
use lib.Bits.{bit_xor}
use Rattle.field.specs.Bytes.{padded, xor_lists}
use Rattle.field.specs.CheckBytes.{double, remainder_after, parity, multiple, by_root, times_power}
use Rattle.field.proofs.Fold.{fold-turn, fold_done}
use Rattle.field.proofs.check_bytes.parity_two.Goals as goal

turn : (a b x f2 : ℕ) → f2 ≡ double (bit_xor a x)
    → bit_xor b (bit_xor (bit_xor a x) f2) ∷ f2 ∷ [] ≡ remainder_after 2 (a ∷ b ∷ []) x
unfolding remainder_after multiple by_root xor_lists times_power
turn a b x f2 e = rw e

pub loop-x-init : goal.loop-x-init
unfolding parity
loop-x-init c = refl

pub loop-x-preserved : goal.loop-x-preserved
loop-x-preserved c =
    let l = c.loop-x in
    fold-turn (remainder_after 2) _ _ _ 0 l.x-index c.args.message.now (omega arith) (turn l.a l.b _ _ c.times_root-f2.ensures) l.invariant

pub returns : goal.returns
unfolding padded
returns c =
    let l = c.loop-x in
    ap (padded 4) (fold_done (remainder_after 2) (l.a ∷ l.b ∷ []) _ l.x-index c.args.message.now (omega arith) l.invariant)
