-- `xor_segment` meets its contract: what stands in the file of the segment is XORed in, and the rest is 0. Assumes nothing.
use mathlib.Core.Path.{◌≡◌, sym, ◌∙◌}
use Prim.Native.Nat.{min, ◌+◌, ◌-◌, ◌*◌}
use native.Mathlib.Nat.{mul-le-mul_left}
use native.Mathlib.Omega.{arith}
use lib.ListN.{length}
use Rattle.droplet.proofs.XorFront.{front-none, front-segment}
use Rattle.droplet.proofs.droplet.xor_segment.Goals as goal

pub overflow_mul-a : goal.overflow_mul-a
overflow_mul-a c = omega (arith, mul-le-mul_left c.args.s c.requires.0)

pub overflow_add-a : goal.overflow_add-a
overflow_add-a c = omega (arith, mul-le-mul_left c.args.s c.requires.0)

pub returns-then-a-e : goal.returns-then-a-e
returns-then-a-e c = rw c.min-e.ensures at c.xor_into.ensures ∙ front-segment _ _ _ _ c.requires.1

pub returns-else-a-e : goal.returns-else-a-e
returns-else-a-e c =
    let a = c.args in
    let none : min (a.s * a.l + a.l) (length a.file.now) - a.s * a.l ≡ 0 = omega arith in
    sym (front-none _) ∙ rw none at (front-segment a.p.now a.file.now a.l a.s c.requires.1)
