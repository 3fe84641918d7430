-- `followed` meets its contract: the bases that stay are shifted past what comes behind them. Assumes nothing.
use mathlib.Core.Path.{◌≡◌}
use Prim.Native.Nat.{ℕ, ◌+◌, ◌*◌, ◌/◌, ◌%◌, ◌^◌, ◌<◌}
use native.Mathlib.Omega.{arith}
use lib.Bits.{bit_or, or_shifted}
use borrow.Author.Rules.{rules}
use Rattle.screen.proofs.packed.followed.Goals as goal

behind : (bases next : ℕ) → next < 2 ^ 64 → bit_or (bases * 2 ^ 2 % 2 ^ 64) (next / 2 ^ 62) ≡ bases % 2 ^ 62 * 4 + next / 2 ^ 62
behind bases next h =
    let e : bases * 2 ^ 2 % 2 ^ 64 ≡ bases % 2 ^ 62 * 2 ^ 2 = omega arith in
    rw e (or_shifted (bases % 2 ^ 62) 2 (next / 2 ^ 62) (omega arith))

pub returns : goal.returns
returns c = behind c.args.bases c.args.next (search rules)
