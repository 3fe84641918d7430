-- `gc_of` meets its contract: the ones of the masked XOR count C and G. Assumes nothing.
use mathlib.Core.Path.{◌≡◌}
use Prim.Native.Nat.{ℕ, ◌/◌}
use lib.Bits.{bit_and, bit_xor}
use lib.Count.{ones}
use Rattle.screen.specs.Loops.{low_bits, gc_in}
use Rattle.screen.proofs.PackedBases.{gc-bits}
use Rattle.screen.proofs.packed.gc_of.Goals as goal

counted : (k bases mask : ℕ) → mask ≡ low_bits k → ones (bit_and (bit_xor bases (bases / 2)) mask) ≡ gc_in k bases
counted k bases mask e = rw (e, gc-bits k bases)

pub returns : goal.returns
returns c k e = counted k c.args.bases c.args.mask e
