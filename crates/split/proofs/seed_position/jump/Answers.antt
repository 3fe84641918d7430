-- `jump` meets its contract: what the search leaves. Assumes nothing.
use mathlib.Core.Path.{◌≡◌, sym, ap, ◌∙◌}
use Prim.Native.Nat.{ℕ, ◌+◌, ◌*◌, ◌/◌, ◌%◌}
use native.Mathlib.Nat.{mul-one, zero-mul}
use native.Mathlib.Omega.{arith}
use borrow.Author.Rules.{rules}
use Rattle.field.specs.Generator.{seed_after, iterate}
use Rattle.field.specs.Products.{seed_product}
use Rattle.field.proofs.SeedPowers.{bit_raised, x-is, squared, bit-lt, jump-turn}
use Rattle.split.proofs.seed_position.jump.Invariants.{Jumping}
use Rattle.split.proofs.seed_position.jump.Goals.{then-bits-eq1, else-bits-eq1}
use Rattle.split.proofs.seed_position.jump.Goals as goal

-- the seed, by the lowest bit
taken : (seed bits power : ℕ) → bits % 2 ≡ 1 → seed_product seed power ≡ bit_raised (bits % 2) power seed
taken seed bits power e = rw e

passed : (seed bits power : ℕ) → bits % 2 ≡ 0 → seed ≡ bit_raised (bits % 2) power seed
passed seed bits power e = rw e

turn : (start steps seed seed' bits power power' : ℕ) → Jumping start steps seed bits power → seed' ≡ bit_raised (bits % 2) power seed
    → power' ≡ seed_product power power → Jumping start steps seed' (bits / 2) power'
turn start steps seed seed' bits power power' now e f =
    let p = now.span in
    record {
      span = p + p;
      reach = f ∙ squared p power now.reach;
      fits = rw e (bit-lt p power now.reach (bits % 2) seed (omega arith) now.fits);
      rest = rw e (jump-turn p power now.reach bits seed now.fits ∙ now.rest);
    }

pub loop-bits-init : goal.loop-bits-init
loop-bits-init c = record { span = 1; reach = x-is; fits = search rules; rest = ap (λ n. iterate n seed_after c.args.start) (mul-one c.args.steps) }

pub loop-bits-smaller : goal.loop-bits-smaller
loop-bits-smaller c = omega arith

pub loop-bits-preserved : goal.loop-bits-preserved
loop-bits-preserved c =
    let l = c.loop-bits in
    let seed : c.if-bits-eq1.seed ≡ bit_raised (l.bits % 2) l.power l.seed =
    elim c.if-bits-eq1.branch [
      | then-bits-eq1 w ↦ w.seed-is ∙ w.product_of-seed.ensures ∙ taken l.seed l.bits l.power w.if-bits-eq1.true
      | else-bits-eq1 w ↦ w.seed-is ∙ passed l.seed l.bits l.power (omega arith)
    ] in
    turn _ _ l.seed c.if-bits-eq1.seed l.bits l.power c.product_of-power.result l.invariant seed c.product_of-power.ensures

-- no bit is left
ended : (start steps seed bits power : ℕ) → bits ≡ 0 → Jumping start steps seed bits power → seed ≡ iterate steps seed_after start
unfolding iterate
ended start steps seed bits power e now =
    ap (λ n. iterate n seed_after seed) (sym (ap (λ d. d * now.span) e ∙ zero-mul now.span)) ∙ now.rest

pub returns : goal.returns
returns c = let l = c.loop-bits in ended _ _ l.seed l.bits l.power (omega arith) l.invariant
