-- `eight_at` meets its contract: eight bytes behind a number, one after the other. Assumes nothing.
use mathlib.Core.Path.{ap, ◌∙◌}
use Prim.Native.Nat.{ℕ, ◌+◌}
use native.Mathlib.Omega.{arith}
use lib.ListN.{drop}
use Rattle.screen.specs.Loops.{number_after}
use Rattle.screen.proofs.PackedBases.{next-byte}
use Rattle.screen.proofs.packed.eight_at.Goals as goal

pub returns : goal.returns
returns c n =
    let word = c.args.word.now in
    let i = c.args.i in
    next-byte word _ i (i + 1) (omega arith) (omega arith)
    ∙ next-byte word _ (i + 1) (i + 2) (omega arith) (omega arith)
    ∙ next-byte word _ (i + 2) (i + 3) (omega arith) (omega arith)
    ∙ next-byte word _ (i + 3) (i + 4) (omega arith) (omega arith)
    ∙ next-byte word _ (i + 4) (i + 5) (omega arith) (omega arith)
    ∙ next-byte word _ (i + 5) (i + 6) (omega arith) (omega arith)
    ∙ next-byte word _ (i + 6) (i + 7) (omega arith) (omega arith)
    ∙ next-byte word _ (i + 7) (i + 8) (omega arith) (omega arith)
    ∙ ap (λ (m : ℕ). number_after m (drop (i + 8) word)) (omega (arith, c.from_be_bytes.ensures))
