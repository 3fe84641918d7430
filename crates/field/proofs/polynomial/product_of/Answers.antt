-- Each turn of `product_of` takes the term x^i into the sum, if `a` has it, and steps the other factor. Assumes nothing.
use Rattle.std.proofs.Common.{◌≡◌, true, ap, ◌-◌, ◌/◌, ◌%◌, ◌^◌, ◌∙◌, arith}
use lib.Bits.{bit_xor}
use Rattle.field.specs.Products.{bit_times}
use Rattle.field.proofs.Products.{shift-step, bit-taken, bit-passed, loop-turn, loop_ended}
use Rattle.field.proofs.polynomial.product_of.Goals as goal
use Rattle.field.proofs.polynomial.product_of.Goals.{then-has_term, else-has_term}

pub loop-i-preserved : goal.loop-i-preserved
loop-i-preserved g c =
    let p = g.P.Polynomial in
    let l = c.loop-i in
    let a = p.number c.args.a in
    let sum : p.number c.if-has_term.sum ≡ bit_xor (p.number l.sum) (bit_times (a / 2 ^ l.i % 2) (p.number l.stepped)) = elim c.if-has_term.branch [
      | then-has_term w ↦
          ap p.number w.sum-is ∙ w.plus-sum.ensures
          ∙ bit-taken (p.number l.sum) (a / 2 ^ l.i) (p.number l.stepped) (c.has_term.ensures.0 w.if-has_term.true)
      | else-has_term w ↦
          ap p.number w.sum-is
          ∙ bit-passed (p.number l.sum) (a / 2 ^ l.i) (p.number l.stepped)
          (λ e. let t : c.has_term.result ≡ true = c.has_term.ensures.1 e in cc)
    ] in
    loop-turn (shift-step p.step (p.WIDTH - 1) p.modulus g.met.P.Polynomial.shifts) p.WIDTH l.i a (p.number l.sum) _ (p.number l.stepped) _ _
    (omega arith) sum c.times_x-stepped.ensures l.invariant

pub returns : goal.returns
returns g c =
    let p = g.P.Polynomial in
    let l = c.loop-i in
    loop_ended p.step p.WIDTH l.i (p.number l.sum) _ _ _ (omega arith) l.invariant
