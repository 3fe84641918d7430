-- What the search leaves. Assumes nothing.
use Rattle.std.proofs.Common.{◌≡◌, ℕ, ◌+◌, ◌*◌, ◌^◌, ◌<◌, get_or, ap, arith, lit<, lt_of_lt_of_le, pow_mono, pow-add, drop_of_length-le}
use Rattle.field.specs.CheckBytes.{horner}
use Rattle.field.proofs.Remainders.{value-zero, goes_end, next-byte, byte-turn}
use Rattle.field.proofs.check_four.number_of.Goals as goal

-- the next number fits 8 bits more
wider : (r b j : ℕ) → r < 2 ^ (8 * j) → b < 2 ^ 8 → r * 256 + b < 2 ^ (8 * (j + 1))
wider r b j h hb =
    let e : 8 * (j + 1) ≡ 8 * j + 8 = omega arith in
    rw (e, pow-add 2 (8 * j) 8) (omega arith)

-- and fewer than three bytes fit 16
narrow : (r j : ℕ) → r < 2 ^ (8 * j) → j < 3 → r < 2 ^ 16
narrow r j h hj = lt_of_lt_of_le h (pow_mono {j = 16} (omega arith))

pub loop-b-init : goal.loop-b-init
loop-b-init c = record { fits = lit< tt; goes = λ i h. ap (λ (v : ℕ). horner i v c.args.word.now) (value-zero i) }

pub overflow_mul-r : goal.overflow_mul-r
overflow_mul-r c = let l = c.loop-b in omega (arith, narrow l.r l.b-index l.invariant.fits (omega arith))

pub overflow_add-r : goal.overflow_add-r
overflow_add-r c =
    let l = c.loop-b in
    omega (arith, narrow l.r l.b-index l.invariant.fits (omega arith), c.from.ensures, c.type_inv.word l.b-index)

pub loop-b-preserved : goal.loop-b-preserved
loop-b-preserved c =
    let l = c.loop-b in
    let w = c.args.word.now in
    let b : get_or w l.b-index 0 < 2 ^ 8 = omega (arith, c.type_inv.word l.b-index) in
    let n = narrow l.r l.b-index l.invariant.fits (omega arith) in
    rw c.from.ensures record {
      fits = wider l.r (get_or w l.b-index 0) l.b-index l.invariant.fits b;
      goes = byte-turn w _ _ l.r _ (next-byte w l.b-index (l.b-index + 1) (omega arith) (omega arith)) b (omega arith) l.invariant.goes;
    }

pub returns : goal.returns
returns c = goes_end _ _ c.loop-b.r (drop_of_length-le c.args.word.now (omega arith)) c.loop-b.invariant.goes
