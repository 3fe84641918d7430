-- `segment_count` meets its contract: the library rounds up as the definition does. Assumes nothing.
use Rattle.std.proofs.Common.{◌≡◌, ℕ, ◌+◌, ◌-◌, ◌/◌, ◌≤◌, arith}
use Rattle.std.proofs.Math.Nat.{le-div_iff_mul-le, div-lt_iff_lt-mul}
use Rattle.std.proofs.lemmas.Grind.{div_ceil_times}
use Rattle.std.specs.Int.{div_ceil}
use Rattle.droplet.specs.PoolCard.{segment_count}
use Rattle.droplet.proofs.card.segment_count.Goals as goal

rounded-up : (f l : ℕ) → 1 ≤ l → div_ceil f l ≡ (f + (l - 1)) / l
rounded-up f l h =
    let bounds = div_ceil_times f l h in
    let least = (le-div_iff_mul-le {k = l} {x = div_ceil f l} {y = f + (l - 1)} h).1 (omega (arith, bounds)) in
    let most = (div-lt_iff_lt-mul {k = l} {x = f + (l - 1)} {y = div_ceil f l + 1} h).1 (omega (arith, bounds)) in
    omega (arith, least, most)

pub returns : goal.returns
unfolding segment_count
returns c = rw (c.div_ceil.ensures, c.from.ensures) (rounded-up c.args.card.f c.args.card.l c.requires.0)
