-- `xor_marked` meets its contract. The invariant: the marked ones of the first segments are XORed in. Assumes nothing.
use mathlib.Core.Path.{◌≡◌}
use lib.ListN.{length, take}
use Rattle.field.specs.Bytes.{xor_lists, padded}
use Rattle.droplet.specs.Droplet.{payload}
use Rattle.decoder.specs.Restorer.{known}
use Rattle.decoder.proofs.restorer.xor_marked.Given as goal

abbrev pub invariant-loop-s : goal.invariant-loop-s
invariant-loop-s l = (length l.p ≡ 64) × (l.p ≡ padded 64 (xor_lists l.stored (payload (length l.stored) l.file (known l.marks (take l.s-index l.list)))))
