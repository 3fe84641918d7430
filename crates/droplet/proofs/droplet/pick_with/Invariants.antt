-- `pick_with` meets its contract: the loop is that of `Picking`, and the bitmap is that of what has joined. Assumes nothing.
use lib.ListN.{take}
use Rattle.droplet.specs.Loops.{Marked}
use Rattle.droplet.proofs.Picking.{Picking}
use Rattle.droplet.proofs.droplet.pick_with.Given as goal

abbrev pub invariant-loop-i : goal.invariant-loop-i
invariant-loop-i l = Picking l.k l.d l.initial.state l.initial.list l.state l.list l.i × Marked l.words (take l.i l.list)
