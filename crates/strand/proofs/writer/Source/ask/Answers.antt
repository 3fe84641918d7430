-- `ask` meets its contract: each test is a question's, in their order. Assumes nothing.
use Prim.Native.Nat.{◌^◌, ◌≤◌}
use native.Mathlib.Nat.{mul-le-mul}
use native.Mathlib.Omega.{arith}
use borrow.Author.Tests.{eq-eqb, ne_eqb, le-leb, lt-leb}
use Rattle.droplet.proofs.LegalCard.{legal}
use Rattle.strand.specs.Writer.{own_refusal}
use Rattle.strand.proofs.writer.Source.ask.Goals as goal

pub returns-then-self : goal.returns-then-self
unfolding own_refusal
returns-then-self c = rw (ne_eqb _ _ c.if-self.true)

pub returns-then-start-eq0 : goal.returns-then-start-eq0
unfolding own_refusal
returns-then-start-eq0 c = rw (eq-eqb _ _ c.if-self.false, eq-eqb _ _ c.if-start-eq0.true)

pub returns-then-wanted-gt1000000 : goal.returns-then-wanted-gt1000000
unfolding own_refusal
returns-then-wanted-gt1000000 c =
    rw (eq-eqb _ _ c.if-self.false, ne_eqb _ _ c.if-start-eq0.false, lt-leb c.args.wanted 1000000 (omega (arith, c.if-wanted-gt1000000.true)))

pub overflow_mul-wanted : goal.overflow_mul-wanted
overflow_mul-wanted c =
    let s = c.args.self.now in
    let few : c.args.wanted ≤ 2 ^ 32 = omega arith in
    let short : c.line_bytes.result ≤ 289 = omega (arith, c.line_bytes.ensures, (legal s.card s.weights.now s.legal).sizes.strand-most) in
    omega (arith, mul-le-mul few short)

-- in the others, no more strands are wanted than may be
pub returns-then-out_len-wanted : goal.returns-then-out_len-wanted
unfolding own_refusal
returns-then-out_len-wanted c =
    let line = rw c.line_bytes.ensures at c.if-out_len-wanted.true in
    rw (eq-eqb _ _ c.if-self.false, ne_eqb _ _ c.if-start-eq0.false, le-leb c.args.wanted 1000000 (omega (arith, c.if-wanted-gt1000000.false)), lt-leb _ _ line)

pub returns-then-list_len-self : goal.returns-then-list_len-self
unfolding own_refusal
returns-then-list_len-self c =
    let line = rw c.line_bytes.ensures at c.if-out_len-wanted.false in
    let places = rw c.args.self.now.degrees at c.if-list_len-self.true in
    rw (eq-eqb _ _ c.if-self.false, ne_eqb _ _ c.if-start-eq0.false, le-leb c.args.wanted 1000000 (omega (arith, c.if-wanted-gt1000000.false)), le-leb _ _ line, lt-leb _ _ places)

pub returns : goal.returns
unfolding own_refusal
returns c =
    let line = rw c.line_bytes.ensures at c.if-out_len-wanted.false in
    let places = rw c.args.self.now.degrees at c.if-list_len-self.false in
    rw (eq-eqb _ _ c.if-self.false, ne_eqb _ _ c.if-start-eq0.false, le-leb c.args.wanted 1000000 (omega (arith, c.if-wanted-gt1000000.false)), le-leb _ _ line, le-leb _ _ places)
