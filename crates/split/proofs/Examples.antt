-- The rows hold: by as many squares as a position has bits, and not step by step. Assumes nothing.
use mathlib.Core.Path.{◌≡◌, refl, sym, ap, ◌∙◌}
use Prim.Native.Nat.{ℕ}
use native.Mathlib.Omega.{arith}
use lib.Dec.{T, ltb, ltb→lt}
use Rattle.field.specs.Bytes.{All}
use Rattle.field.specs.Shift.{shift_up}
use Rattle.field.specs.Generator.{seed_after}
use Rattle.field.specs.Products.{times}
use Rattle.field.proofs.Tests.{both, both_left, both_right}
use Rattle.field.proofs.SeedPowers.{raised, jumps}
use Rattle.split.specs.SeedPosition.{seed, seed_at}
use Rattle.split.specs.Examples.{Holds, rows}
use Rattle.split.proofs.SeedPositions.{none-at, some_at}

-- by squares; the test is that the start is no 0, and that both numbers are of 32 bits
row : (start steps s : ℕ) → T (both (ltb 0 start) (both (ltb start 4294967296) (ltb steps 4294967296))) → raised 32 steps 2 start ≡ s
    → seed_at start steps ≡ seed s
row start steps s t e =
    let pos = ltb→lt 0 start (both_left (ltb 0 start) _ t) in
    let words = both_right (ltb 0 start) _ t in
    let fits = ltb→lt start 4294967296 (both_left (ltb start 4294967296) _ words) in
    let few = ltb→lt steps 4294967296 (both_right (ltb start 4294967296) _ words) in
    some_at start steps (λ z. omega arith) ∙ ap seed (sym (jumps steps start few fits) ∙ e)

pub examples : All Holds rows
unfolding raised times seed_after shift_up
examples = (row _ _ _ tt refl, (row _ _ _ tt refl, (row _ _ _ tt refl, (row _ _ _ tt refl, (row _ _ _ tt refl, (row _ _ _ tt refl, (none-at _ _ refl, tt)))))))
