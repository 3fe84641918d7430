-- `count_fits` meets its contract: a number is within a quotient just where its product is within the dividend. Assumes nothing.
use Rattle.std.proofs.Common.{◌≡◌, ℕ, ◌*◌, ◌/◌, ◌<◌, length, le-leb, arith}
use Rattle.std.proofs.lemmas.Bool.{lt-leb}
use native.Mathlib.Nat.{le-div_iff_mul-le, div-lt_iff_lt-mul}
use native.Mathlib.Decide.{dec_le}
use lib.Dec.{leb}
use Rattle.decoder.specs.Store.{record_bytes}
use Rattle.decoder.proofs.RecordBytes.{parts-fit}
use Rattle.decoder.proofs.store.count_fits.Goals as goal

within-quotient : (count width size : ℕ) → 0 < width → leb count (size / width) ≡ leb (count * width) size
within-quotient count width size h =
    elim (dec_le count (size / width)) [
      | yes k ↦ rw (le-leb _ _ k, le-leb _ _ ((le-div_iff_mul-le h).0 k))
      | no k ↦
          let less : size / width < count = omega arith in
          rw (lt-leb _ _ less, lt-leb _ _ ((div-lt_iff_lt-mul h).0 less))
    ]

pub nonzero_div-result : goal.nonzero_div-result
nonzero_div-result c = omega (arith, c.record_bytes.ensures, parts-fit c.args.l)

pub returns : goal.returns
returns c =
    let args = c.args in
    rw c.record_bytes.ensures (within-quotient args.count (record_bytes args.l) (length args.store.now) (omega (arith, parts-fit args.l)))
