-- Marks in the front of a lent buffer: all the plain marks that its bytes have then, and that no other bytes have these. Assumes nothing.
use mathlib.Core.Path.{◌≡◌, sym, ◌∙◌}
use mathlib.Core.List.{List, [], ◌++◌, append_assoc}
use Prim.Native.Nat.{ℕ, ◌+◌, ◌-◌, ◌*◌, ◌≤◌, zero-le}
use native.Mathlib.Nat.{le_refl}
use native.Mathlib.Omega.{arith}
use lib.ListN.{length, take, drop, replicate, length-append, length-drop, replicate-append-replicate}
use lib.Seq.{take_at}
use Rattle.field.specs.Bytes.{IsByte, AllBytes}
use Rattle.field.proofs.ByteLists.{all_drop, all_append}
use Rattle.marks.specs.Marks.{mark_bytes, all_marks, packed, packed_into}
use Rattle.marks.specs.MarkLaws.{ArePlain}
use Rattle.marks.proofs.PackedMarks.{same_packed, packed-length, packed-bytes, all-packed}

-- bytes with a bit for each mark
pub bits_fit : (K n : ℕ) → mark_bytes K ≤ n → K ≤ n * 8
unfolding mark_bytes
bits_fit K n h = omega arith

pub bytes_fit : (K n : ℕ) → K ≤ n * 8 → mark_bytes K ≤ n
unfolding mark_bytes
bytes_fit K n h = omega arith

module _ (lent : List ℕ) (K : ℕ) where
  -- what stands behind the marks: unused bits, and what the bytes past these had
  abbrev pub behind : List ℕ
  behind = replicate (mark_bytes K * 8 - K) 0 ++ all_marks (drop (mark_bytes K) lent)

  fits : K ≤ mark_bytes K * 8
  fits = bits_fit K (mark_bytes K) (le_refl (mark_bytes K))

  pub into-all : (plain : List ℕ) → length plain ≡ K → ArePlain plain → all_marks (packed_into lent K plain) ≡ plain ++ behind
  unfolding packed_into
  into-all plain size plainly = rw (← size) (all-packed (mark_bytes (length plain)) plain _ plainly (rw size fits))

  pub into-none : all_marks (packed_into lent K []) ≡ replicate K 0 ++ behind
  unfolding packed_into
  into-none =
      let n = mark_bytes K * 8 in
      let sum : K + (n - K) ≡ n - 0 = omega (arith, fits) in
      all-packed (mark_bytes K) [] (drop (mark_bytes K) lent) tt zero-le
      ∙ rw (← sum, ← replicate-append-replicate {A = ℕ} K (n - K) 0) (append_assoc (replicate K 0) (replicate (n - K) 0) (all_marks (drop (mark_bytes K) lent)))

  -- the bytes of the marks
  pub into-front : (plain : List ℕ) → take (mark_bytes K) (packed_into lent K plain) ≡ packed (mark_bytes K) plain
  unfolding packed_into
  into-front plain = take_at (packed (mark_bytes K) plain) (drop (mark_bytes K) lent) (mark_bytes K) (packed-length (mark_bytes K) plain)

  module _ (plain : List ℕ) (room : mark_bytes K ≤ length lent) where
    pub into-length : length (packed_into lent K plain) ≡ length lent
    unfolding packed_into
    into-length = simp (length-append, packed-length, length-drop) (omega arith)

    -- bytes that have these plain marks, and behind them what stood there, are those that the marks are packed into
    pub only-packed : (marks : List ℕ) → AllBytes lent → AllBytes marks → length marks ≡ length lent → length plain ≡ K → ArePlain plain
        → all_marks marks ≡ plain ++ behind → marks ≡ packed_into lent K plain
    only-packed marks lent_bytes bytes same size plainly e =
        same_packed marks (packed_into lent K plain) bytes into-bytes (same ∙ sym into-length) (e ∙ sym (into-all plain size plainly))
      where
        into-bytes : AllBytes (packed_into lent K plain)
        into-bytes =
            unfold packed_into in
            all_append IsByte (packed (mark_bytes K) plain) (drop (mark_bytes K) lent) (packed-bytes (mark_bytes K) plain plainly)
            (all_drop IsByte (mark_bytes K) lent lent_bytes)
