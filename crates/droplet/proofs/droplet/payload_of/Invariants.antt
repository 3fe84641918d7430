-- `payload_of` meets its contract. The invariant: the array is the payload of the segments so far. Assumes nothing.
use mathlib.Core.Path.{◌≡◌}
use lib.ListN.{take}
use Rattle.field.specs.Bytes.{padded}
use Rattle.droplet.specs.Droplet.{payload}
use Rattle.droplet.proofs.droplet.payload_of.Given as goal

abbrev pub invariant-loop-s : goal.invariant-loop-s
invariant-loop-s l = l.p ≡ padded 64 (payload l.l l.file (take l.s-index l.list))
