-- `xor_into` meets its contract: a turn XORs one more byte in, and after the last all of `q` is in. Assumes nothing.
use mathlib.Core.Path.{sym, ap, ◌∙◌}
use lib.Seq.{take_all}
use Rattle.droplet.specs.Loops.{xor_front}
use Rattle.droplet.proofs.XorFront.{front-none, front-next}
use Rattle.droplet.proofs.droplet.xor_into.Goals as goal

pub loop-i-init : goal.loop-i-init
loop-i-init c = sym (front-none _)

pub loop-i-preserved : goal.loop-i-preserved
loop-i-preserved c = rw c.loop-i.invariant (front-next _ _ _ c.loop-i-test.true c.requires)

pub returns : goal.returns
returns c = c.loop-i.invariant ∙ ap (xor_front _) (take_all _ _ c.loop-i-test.false)
