-- `set_mark` meets its contract: the bit shifted up is a power of 2, which fits the byte. Assumes nothing.
use mathlib.Core.Path.{ap, ◌∙◌}
use Prim.Native.Nat.{ℕ, ◌/◌, ◌%◌}
use native.Mathlib.Nat.{one-mul}
use native.Mathlib.Omega.{arith}
use lib.Bits.{bit_or}
use lib.ListN.{get_or, set}
use lib.Pow.{shl_exact}
use Rattle.marks.specs.Marks.{with_mark}
use Rattle.marks.proofs.bits.set_mark.Goals as goal

pub returns : goal.returns
unfolding with_mark
returns c =
    let marks = c.args.marks.now in
    let s = c.args.s in
    ap (λ (v : ℕ). set marks (s / 8) (bit_or (get_or marks (s / 8) 0) v)) (shl_exact {a = 1} 1 (s % 8) 8 (omega arith) (omega arith) ∙ one-mul _)
