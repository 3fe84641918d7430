-- `moved` meets its contract: what comes in front is shifted past the bases that stay. Assumes nothing.
use mathlib.Core.Path.{◌≡◌}
use Prim.Native.Nat.{ℕ, ◌+◌, ◌*◌, ◌/◌, ◌%◌, ◌^◌, ◌<◌}
use native.Mathlib.Omega.{arith}
use lib.Bits.{bit_or, or_shifted}
use borrow.Author.Rules.{rules}
use Rattle.screen.proofs.packed.moved.Goals as goal

in-front : (before bases : ℕ) → bases < 2 ^ 64 → bit_or (before * 2 ^ 62 % 2 ^ 64) (bases / 2 ^ 2) ≡ before % 4 * 2 ^ 62 + bases / 4
in-front before bases h =
    let e : before * 2 ^ 62 % 2 ^ 64 ≡ before % 4 * 2 ^ 62 = omega arith in
    rw e (or_shifted (before % 4) 62 (bases / 4) (omega arith))

pub returns : goal.returns
returns c = in-front c.args.before c.args.bases (search rules)
