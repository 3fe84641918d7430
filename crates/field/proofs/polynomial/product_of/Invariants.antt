-- `product_of` meets its contract: the terms from i on, with the sum so far, give the product. Assumes nothing.
use Rattle.std.proofs.Common.{◌≡◌, ◌-◌, ◌/◌, ◌^◌}
use lib.Bits.{bit_xor}
use Rattle.field.specs.Products.{times}
use Rattle.field.proofs.polynomial.product_of.Given as goal

abbrev pub invariant-loop-i : goal.invariant-loop-i
invariant-loop-i g l =
    let p = g.P.Polynomial in
    bit_xor (p.number l.sum) (times p.step (p.WIDTH - l.i) (p.number l.a / 2 ^ l.i) (p.number l.stepped)) ≡ times p.step p.WIDTH (p.number l.a) (p.number l.fn.b)
