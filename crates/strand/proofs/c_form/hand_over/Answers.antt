-- `hand_over` meets its contract: too short a buffer is left alone, any other gets the record. Assumes nothing.
use mathlib.Core.Path.{◌≡◌}
use native.Mathlib.Omega.{arith}
use borrow.Author.Tests.{le-leb, lt-leb}
use lib.ListN.{length, take}
use lib.Seq.{length-take-le}
use Rattle.strand.specs.CForm.{droplet_over}
use Rattle.strand.proofs.c_form.hand_over.Goals as goal

pub returns-then-out-l : goal.returns-then-out-l
unfolding droplet_over
returns-then-out-l c = simp (lt-leb _ _ (rw c.from-l.ensures at c.if-out-l.true))

pub returns : goal.returns
unfolding droplet_over
returns c =
    let n : length (take c.args.l c.args.droplet.payload) ≡ c.args.l = length-take-le _ _ (omega arith) in
    rw (le-leb _ _ (rw c.from-l.ensures at c.if-out-l.false), c.put_droplet.ensures, c.from-l.ensures, n)
