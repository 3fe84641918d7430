-- `mark` meets its contract: the bit shifted up is a power of 2, which fits the word; no word is written past the end.
-- Assumes nothing.
use mathlib.Core.Path.{sym, ap, ◌∙◌}
use Prim.Native.Nat.{ℕ, ◌/◌, ◌%◌}
use native.Mathlib.Nat.{one-mul}
use native.Mathlib.Omega.{arith}
use lib.Bits.{bit_or}
use lib.ListN.{get_or, set}
use lib.Pow.{shl_exact}
use lib.Seq.{set_out}
use Rattle.droplet.specs.Loops.{with_bit}
use Rattle.droplet.proofs.droplet.mark.Goals as goal

pub returns-then-w-words : goal.returns-then-w-words
unfolding with_bit
returns-then-w-words c =
    let words = c.args.words.now in
    let s = c.args.s in
    ap (λ (v : ℕ). set words (s / 64) (bit_or (get_or words (s / 64) 0) v))
    (shl_exact {a = 1} 1 (s % 64) 64 (omega arith) (omega arith) ∙ one-mul _)

pub returns-else-w-words : goal.returns-else-w-words
unfolding with_bit
returns-else-w-words c = sym (set_out _ _ _ c.if-w-words.false)
