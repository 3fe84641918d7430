-- `longest_run`: each turn takes a flag from every row, so that one is left to count less. Assumes nothing.
use mathlib.Core.Path.{◌≡◌, refl}
use mathlib.Core.Bool.{Bool, true, false}
use Prim.Native.Nat.{ℕ, ◌+◌, ◌<◌}
use native.Mathlib.Omega.{arith}
use Rattle.screen.specs.Loops.{chunks_number, thinned, Flags, longest_row}
use Rattle.screen.proofs.MatchRows.{thinned-flags, thinned-longest, some-row, no_row, row-most}
use Rattle.screen.proofs.packed.longest_run.Goals as goal

-- a turn that answers `some` and leaves m of n
abbrev Turn : Bool → ℕ → ℕ → Type 0
Turn some n m = record { matches_after : m ≡ thinned n; result_value : (some ≡ false → n ≡ 0) × (some ≡ true → 0 < n) }

module _ (k : ℕ) (some : Bool) (n m : ℕ) (flags : Flags k n) (t : Turn some n m) where
  -- it leaves flags
  turn-flags : Flags k m
  turn-flags = rw t.matches_after (thinned-flags k n flags)

  -- where there was one, the longest row is one flag shorter
  shorter : some ≡ true → longest_row k m + 1 ≡ longest_row k n
  shorter e =
      rw t.matches_after
      (omega (arith, thinned-longest k n flags, some-row k n flags (λ z. omega (arith, t.result_value.1 e))))

  -- and where there was none, there is no row
  no-more : some ≡ false → longest_row k n ≡ 0
  no-more e = rw (t.result_value.0 e) (no_row k)

pub loop-longest-init : goal.loop-longest-init
loop-longest-init c = (c.requires, refl)

pub overflow_add-longest : goal.overflow_add-longest
overflow_add-longest c = omega (arith, c.loop-longest.invariant.1, row-most 320 (chunks_number c.args.matches.now))

pub loop-longest-smaller : goal.loop-longest-smaller
loop-longest-smaller c = omega (arith, shorter 320 _ _ _ c.loop-longest.invariant.0 c.thin.ensures c.loop-longest-test.true)

pub loop-longest-preserved : goal.loop-longest-preserved
loop-longest-preserved c =
    let l = c.loop-longest in (
      turn-flags 320 _ _ _ l.invariant.0 c.thin.ensures,
      omega (arith, l.invariant.1, shorter 320 _ _ _ l.invariant.0 c.thin.ensures c.loop-longest-test.true),
    )

pub returns : goal.returns
returns c =
    let l = c.loop-longest in
    omega (arith, l.invariant.1, no-more 320 _ _ _ l.invariant.0 c.thin.ensures c.loop-longest-test.false)
