-- `xor_into` meets its contract. The invariant: the first `i` bytes of `q` are XORed in. Assumes nothing.
use mathlib.Core.Path.{◌≡◌}
use lib.ListN.{take}
use Rattle.droplet.specs.Loops.{xor_front}
use Rattle.droplet.proofs.droplet.xor_into.Given as goal

abbrev pub invariant-loop-i : goal.invariant-loop-i
invariant-loop-i l = l.p ≡ xor_front l.initial.p (take l.i l.q)
