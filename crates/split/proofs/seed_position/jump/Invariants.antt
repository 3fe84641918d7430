-- `jump` meets its contract: the power is the seed `span` steps after 1, and `bits` times as many steps are left. Assumes nothing.
use mathlib.Core.Path.{◌≡◌}
use Prim.Native.Nat.{ℕ, ◌*◌, ◌^◌, ◌<◌}
use Rattle.field.specs.Generator.{seed_after, iterate}
use Rattle.split.proofs.seed_position.jump.Given as goal

pub record Jumping (start steps seed bits power : ℕ) : Type 0 where
  pub span : ℕ
  pub reach : power ≡ iterate span seed_after 1
  pub fits : seed < 2 ^ 32
  pub rest : iterate (bits * span) seed_after seed ≡ iterate steps seed_after start

abbrev pub invariant-loop-bits : goal.invariant-loop-bits
invariant-loop-bits l = Jumping l.start l.steps l.seed l.bits l.power

abbrev pub decreases-loop-bits : goal.decreases-loop-bits
decreases-loop-bits l = l.bits
