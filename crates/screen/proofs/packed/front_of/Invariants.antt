-- `front_of` meets its contract. The invariant: what is left of the word takes the number to the word's, and the mask has the bits of
-- the bases so far. Assumes nothing.
use mathlib.Core.Path.{◌≡◌}
use mathlib.Core.List.{List}
use Prim.Native.Nat.{ℕ, ◌+◌, ◌*◌, ◌^◌, ◌<◌}
use lib.ListN.{drop}
use Rattle.screen.specs.Loops.{number_after, low_bits}
use Rattle.screen.proofs.packed.front_of.Given as goal

pub record Stands (word : List ℕ) (before number mask j : ℕ) : Type 0 where
  pub fits : number < 2 ^ (8 * j + 2)
  pub leads : number_after number (drop j word) ≡ number_after before word
  pub masks : mask ≡ low_bits (4 * j)
  pub mask_fits : mask < 2 ^ (8 * j)

abbrev pub invariant-loop-b : goal.invariant-loop-b
invariant-loop-b l = Stands l.word l.before l.number l.mask l.b-index
