-- `matches_of` meets its contract: the masked OR of each pair's bits, turned over, is 1 where the pair is 0. Assumes nothing.
use mathlib.Core.Path.{◌≡◌}
use Prim.Native.Nat.{ℕ, ◌/◌}
use lib.Bits.{bit_and, bit_or, bit_xor}
use Rattle.screen.specs.Loops.{low_bits, zero_pairs}
use Rattle.screen.proofs.PackedBases.{pair-bits}
use Rattle.screen.proofs.packed.matches_of.Goals as goal

flagged : (k d mask : ℕ) → mask ≡ low_bits k → bit_xor (bit_and (bit_or d (d / 2)) mask) mask ≡ zero_pairs k d
flagged k d mask e = rw (e, pair-bits k d)

pub returns : goal.returns
returns c k e = flagged k c.args.differences c.args.mask e
