-- The examples with R = 4: the strand is a codeword near enough to each read, so it is the one that is found. Assumes nothing.
use mathlib.Core.Path.{◌≡◌, refl}
use mathlib.Core.List.{List}
use Prim.Native.Nat.{ℕ, ◌≤◌}
use native.Mathlib.Omega.{arith}
use lib.Dec.{lit<, lit≤}
use lib.ListN.{length}
use Rattle.field.specs.Shift.{shift_up}
use Rattle.field.specs.Bytes.{AllBytes}
use Rattle.field.specs.CheckBytes.{double, times_power, horner, syndromes}
use Rattle.correction.specs.Correction.{sums_zero, differs, distance, codeword, corrected}
use Rattle.correction.specs.Examples.{strand, last_wrong, both_wrong, Examples}
use Rattle.correction.proofs.Codewords.{sums-vanish}
use Rattle.correction.proofs.ExactCorrection.{corrects-exactly}

strand-bytes : AllBytes strand
strand-bytes = (lit< tt, (lit< tt, (lit< tt, (lit< tt, (lit< tt, (lit< tt, (lit< tt, (lit< tt, (lit< tt, tt)))))))))

found : (read : List ℕ) (k : ℕ) → AllBytes read → length read ≡ 9 → distance strand read ≡ k → k ≤ 2 → corrected 4 read ≡ codeword strand k
unfolding sums_zero syndromes horner times_power double shift_up
found read k bytes size apart most =
    ((corrects-exactly 4 read (omega arith) (omega arith) bytes).found strand k).1
    (record { bytes = strand-bytes; size = omega arith; sums = sums-vanish 4 strand (omega arith) refl; close = omega (arith, apart) }, apart)

pub examples : Examples
unfolding distance differs
examples = (
  found strand 0 strand-bytes refl refl (lit≤ tt),
  (
    found last_wrong 1 (lit< tt, (lit< tt, (lit< tt, (lit< tt, (lit< tt, (lit< tt, (lit< tt, (lit< tt, (lit< tt, tt))))))))) refl refl (lit≤ tt),
    (
      found both_wrong 2 (lit< tt, (lit< tt, (lit< tt, (lit< tt, (lit< tt, (lit< tt, (lit< tt, (lit< tt, (lit< tt, tt))))))))) refl refl (lit≤ tt),
      tt,
    ),
  ),
)
