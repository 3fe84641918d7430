-- Setting one mark: it is set, and every other is as it was. Assumes nothing.
use mathlib.Core.Path.{◌≡◌, sym, ap, ◌∙◌}
use mathlib.Core.List.{List}
use Prim.Native.Nat.{ℕ, ◌*◌, ◌/◌, ◌%◌, ◌^◌, ◌<◌}
use native.Mathlib.Omega.{arith}
use native.Mathlib.Decide.{ℕ_discrete, dec_lt}
use lib.Bits.{bit_or}
use lib.ListN.{length, get_or, set, length-set}
use lib.Seq.{set_out, get_or-set_same, get_or-set_other, ext_get_or}
use Rattle.field.proofs.OneBit.{bit-same, bit-other}
use Rattle.marks.specs.Marks.{mark_at, with_mark, all_marks}
use Rattle.marks.proofs.PlainMarks.{all-length, all-mark}

module _ (marks : List ℕ) (s : ℕ) where
  abbrev byte : ℕ
  byte = bit_or (get_or marks (s / 8) 0) (2 ^ (s % 8))

  pub with-length : length (with_mark marks s) ≡ length marks
  unfolding with_mark
  with-length = length-set marks (s / 8) byte

  pub mark_set : s < length marks * 8 → mark_at (with_mark marks s) s ≡ 1
  unfolding mark_at with_mark
  mark_set h = rw (get_or-set_same marks (s / 8) byte 0 (omega arith), bit-same (get_or marks (s / 8) 0) (s % 8))

  -- in the same byte, which has another bit for it; or in another
  mark-beside : (i : ℕ) → (i ≡ s → ⊥) → s / 8 < length marks → mark_at (with_mark marks s) i ≡ mark_at marks i
  unfolding mark_at with_mark
  mark-beside i n inside =
      elim (ℕ_discrete (i / 8) (s / 8)) [
        | yes q ↦
            rw (q, get_or-set_same marks (s / 8) byte 0 inside, bit-other (get_or marks (s / 8) 0) (s % 8) (i % 8) (λ r. n (omega arith)))
        | no q ↦ rw (get_or-set_other marks (s / 8) (i / 8) byte 0 q)
      ]

  pub mark-other : (i : ℕ) → (i ≡ s → ⊥) → mark_at (with_mark marks s) i ≡ mark_at marks i
  mark-other i n =
      elim (dec_lt (s / 8) (length marks)) [
        | yes h ↦ mark-beside i n h
        | no h ↦ ap (λ (m : List ℕ). mark_at m i) (unfold with_mark in set_out marks (s / 8) byte (omega arith))
      ]

  -- of all plain marks, one becomes 1
  pub all-with : s < length marks * 8 → all_marks (with_mark marks s) ≡ set (all_marks marks) s 1
  all-with h =
      let plain = all_marks marks in
      let size : length (all_marks (with_mark marks s)) ≡ length marks * 8 = all-length (with_mark marks s) ∙ ap (λ n. n * 8) with-length in
      ext_get_or 0 (all_marks (with_mark marks s)) (set plain s 1) (size ∙ sym (length-set plain s 1 ∙ all-length marks))
      (λ i b.
      let inside : i < length marks * 8 = omega (arith, size) in
      all-mark (with_mark marks s) i (rw with-length inside)
      ∙ elim (ℕ_discrete i s) [
        | yes q ↦ rw q (mark_set h ∙ sym (get_or-set_same plain s 1 0 (rw (all-length marks) h)))
        | no q ↦ mark-other i q ∙ sym (get_or-set_other plain s i 1 0 q ∙ all-mark marks i inside)
      ])
