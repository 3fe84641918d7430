-- `byte_bases` meets its contract: a shift is a division and a mask a remainder. Assumes nothing.
use mathlib.Core.Path.{◌≡◌}
use mathlib.Core.List.{[], ◌∷◌}
use Prim.Native.Nat.{ℕ, ◌/◌}
use lib.Bits.{bit_and, and_mask}
use Rattle.screen.specs.Letters.{byte_bases}
use Rattle.screen.proofs.letters.byte_bases.Goals as goal

pairs : (b : ℕ) → (bit_and (b / 64) 3 ∷ bit_and (b / 16) 3 ∷ bit_and (b / 4) 3 ∷ bit_and b 3 ∷ []) ≡ byte_bases b
unfolding byte_bases
pairs b = rw (and_mask (b / 64) 2, and_mask (b / 16) 2, and_mask (b / 4) 2, and_mask b 2)

pub returns : goal.returns
returns c = pairs c.args.b
