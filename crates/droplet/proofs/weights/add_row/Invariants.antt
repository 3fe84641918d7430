-- `add_row` meets its contract. The invariant: the lanes below `i` have grown by their bytes, and the others are as they were.
-- Assumes nothing.
use mathlib.Core.Path.{◌≡◌}
use mathlib.Core.List.{List}
use Prim.Native.Nat.{ℕ, ◌+◌, ◌≤◌, ◌<◌}
use lib.ListN.{length, get_or}
use Rattle.droplet.proofs.weights.add_row.Given as goal

pub record Grown (xs row zs : List ℕ) (i : ℕ) : Type 0 where
  pub long : length zs ≡ 64
  pub added : (k : ℕ) → k < i → get_or zs k 0 ≡ get_or xs k 0 + get_or row k 0
  pub kept : (k : ℕ) → i ≤ k → get_or zs k 0 ≡ get_or xs k 0

abbrev pub invariant-loop-i : goal.invariant-loop-i
invariant-loop-i l = Grown l.initial.lanes l.row l.lanes l.i
