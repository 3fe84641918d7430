-- The plain marks of some bytes: how many they are, and which stands where. Assumes nothing.
use mathlib.Core.Path.{◌≡◌, sym, ◌∙◌}
use mathlib.Core.List.{List}
use Prim.Native.Nat.{ℕ, ◌*◌, ◌<◌, ◌≤◌}
use native.Mathlib.Omega.{arith}
use lib.ListN.{length, get_or, take}
use lib.Seq.{length-take-le, get_or-take, ext_get_or}
use Rattle.field.proofs.Tables.{entry, table-length, tables-same}
use Rattle.marks.specs.Marks.{mark_at, unpacked, all_marks}

module _ (K : ℕ) (marks : List ℕ) where
  pub unpacked-length : length (unpacked K marks) ≡ K
  unfolding unpacked
  unpacked-length = table-length K (mark_at marks)

  pub unpacked-at : (i : ℕ) → i < K → get_or (unpacked K marks) i 0 ≡ mark_at marks i
  unfolding unpacked
  unpacked-at = entry K (mark_at marks)

  -- what stands in the bits from K on does not matter
  pub unpacked-same : (marks' : List ℕ) → ((i : ℕ) → i < K → mark_at marks i ≡ mark_at marks' i) → unpacked K marks ≡ unpacked K marks'
  unfolding unpacked
  unpacked-same marks' = tables-same K (mark_at marks) (mark_at marks')

module _ (marks : List ℕ) where
  pub all-length : length (all_marks marks) ≡ length marks * 8
  unfolding all_marks
  all-length = unpacked-length (length marks * 8) marks

  pub all-mark : (i : ℕ) → i < length marks * 8 → get_or (all_marks marks) i 0 ≡ mark_at marks i
  unfolding all_marks
  all-mark = unpacked-at (length marks * 8) marks

  pub unpacked-front : (K : ℕ) → K ≤ length marks * 8 → unpacked K marks ≡ take K (all_marks marks)
  unpacked-front K fits =
      let n = length-take-le K (all_marks marks) (rw all-length fits) in
      ext_get_or 0 (unpacked K marks) (take K (all_marks marks)) (unpacked-length K marks ∙ sym n)
      (λ i h.
      let b : i < K = omega (arith, unpacked-length K marks) in
      unpacked-at K marks i b ∙ sym (get_or-take K (all_marks marks) i 0 b ∙ all-mark i (omega arith)))
