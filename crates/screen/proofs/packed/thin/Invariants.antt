-- `thin` meets its contract. The invariant: the first `i` numbers are thinned, and the others are as they were. Assumes nothing.
use mathlib.Core.Path.{◌≡◌}
use mathlib.Core.List.{List}
use Prim.Native.Nat.{ℕ, ◌%◌, ◌≤◌}
use lib.ListN.{length, get_or, take}
use Rattle.screen.specs.Loops.{chunks_number, thinned}
use Rattle.screen.proofs.packed.thin.Given as goal

-- the first `i` numbers as one
abbrev pub first : List ℕ → ℕ → ℕ
first xs i = chunks_number (take i xs)

-- after `i` turns over xs, which is zs by now
pub record Thins (xs zs : List ℕ) (any before i : ℕ) : Type 0 where
  pub long : length zs ≡ length xs
  pub kept : (k : ℕ) → i ≤ k → get_or zs k 0 ≡ get_or xs k 0
  pub thins : first zs i ≡ thinned (first xs i)
  pub last : before % 4 ≡ first xs i % 4
  pub none : any ≡ 0 → first xs i ≡ 0
  pub no-any : first xs i ≡ 0 → any ≡ 0

abbrev pub invariant-loop-chunk : goal.invariant-loop-chunk
invariant-loop-chunk l = Thins l.initial.matches l.matches l.any l.before l.chunk-index
