-- `middle` meets its contract: so many letters behind the site before, where they stand. Assumes nothing.
use mathlib.Core.Path.{◌≡◌}
use Prim.Native.Nat.{◌+◌, ◌-◌}
use native.Mathlib.Omega.{arith}
use borrow.Author.Rules.{rules}
use Rattle.basecalls.proofs.CallCases.{before-size}
use Rattle.basecalls.proofs.call.middle.Goals as goal

pub returns : goal.returns
returns c =
    let n = c.args.n in
    let size : 27 + n - 27 ≡ n = omega arith in
    rw (before-size) (record { block = search rules; place = search rules; letters = rw size })
