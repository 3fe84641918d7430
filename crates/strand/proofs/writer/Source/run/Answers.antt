-- `run` meets its contract: it begins and ends as the document's run, and each turn keeps up with that. Assumes nothing.
use mathlib.Core.Path.{◌≡◌}
use Prim.Native.Nat.{◌+◌, ◌*◌}
use native.Mathlib.Omega.{arith}
use Rattle.droplet.specs.PoolCard.{strand_bases}
use Rattle.strand.proofs.Lines.{part-lent, part-back}
use Rattle.strand.proofs.Turns.{at_start, done, spent, room, turned}
use Rattle.strand.proofs.writer.Source.run.Goals as goal
use Rattle.strand.proofs.writer.Source.run.Goals.{then-run-wanted-2, else-run-wanted-2, else-loop-test, then-loop-test+then-run-wanted}

pub loop-init : goal.loop-init
loop-init c = rw c.from_seed-run.ensures at_start

pub loop-preserved : goal.loop-preserved
loop-preserved c =
    let start = c.loop.run.made * c.line_bytes-line.result in
    let place : start ≡ c.loop.run.made * (strand_bases c.args.self.now.card + 1) = rw c.line_bytes-line.ensures in
    let turn = rw (part-lent start c.loop.out, place) at c.try_seed-verdict.ensures in
    let long = rw (part-lent start c.loop.out, place) at c.try_seed-verdict.auto.out in
    let fits = room c.loop.invariant c.if-run-wanted.false c.loop-test.true c.requires.1 in
    rw (c.count.ensures, part-back start c.loop.out c.try_seed-verdict.new.out, place)
    (turned c.loop.invariant c.if-run-wanted.false c.loop-test.true turn long fits)

pub returns : goal.returns
returns c =
    elim c.if-run-wanted-2.branch [
      | then-run-wanted-2 w ↦ rw w.run-is (done c.loop.invariant w.if-run-wanted-2.true)
      | else-run-wanted-2 w ↦
          elim c.loop-test.branch [
            | else-loop-test x ↦ rw w.run-is (spent c.loop.invariant w.if-run-wanted-2.false (omega (arith, x.loop-test.false, c.loop.auto)))
            | then-loop-test+then-run-wanted x ↦ absurd (w.if-run-wanted-2.false x.if-run-wanted.true)
          ]
    ]
