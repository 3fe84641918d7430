-- `draw_front`: the loop is that of `Picking`, with a bitmap of what has joined and a look at each mark. Assumes nothing.
use mathlib.Core.Path.{◌≡◌}
use lib.ListN.{take}
use Rattle.droplet.specs.Loops.{Marked}
use Rattle.droplet.proofs.Picking.{Picking}
use Rattle.decoder.specs.Restorer.{missing}
use Rattle.decoder.specs.Loops.{unmarked_of}
use Rattle.decoder.proofs.restorer.draw_front.Given as goal

abbrev pub invariant-loop-i : goal.invariant-loop-i
invariant-loop-i l =
    Picking l.k l.d l.initial.state l.initial.list l.state l.list l.i × Marked l.words (take l.i l.list)
    × (l.found ≡ unmarked_of (missing l.marks (take l.i l.list)))
