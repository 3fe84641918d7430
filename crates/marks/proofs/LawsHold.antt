-- The laws of marks hold. Assumes nothing.
use mathlib.Core.Path.{◌≡◌, sym, ap, ◌∙◌}
use mathlib.Core.List.{List, ◌++◌}
use Prim.Native.Nat.{ℕ, ◌+◌, ◌-◌, ◌*◌, ◌<◌, ◌≤◌}
use native.Mathlib.Omega.{arith}
use lib.ListN.{length, get_or, take, drop, replicate, length-append, length-replicate, get_or-append, get_or-replicate}
use lib.Seq.{take_at, drop_at, get_or-append-add}
use Rattle.marks.specs.Marks.{mark_bytes, mark_at, unpacked, all_marks, packed, packed_into}
use Rattle.marks.specs.MarkLaws.{ArePlain, MarkLaws}
use Rattle.marks.proofs.PlainMarks.{unpacked-same, all-mark, unpacked-front}
use Rattle.marks.proofs.SetMarks.{mark_set, mark-other}
use Rattle.marks.proofs.PackedMarks.{packed-back, packed-length}
use Rattle.marks.proofs.LentBuffers.{bits_fit, behind, into-all}

module _ (lent : List ℕ) (K : ℕ) (plain : List ℕ) where
  pub into-past : drop (mark_bytes K) (packed_into lent K plain) ≡ drop (mark_bytes K) lent
  unfolding packed_into
  into-past = drop_at (packed (mark_bytes K) plain) (drop (mark_bytes K) lent) (mark_bytes K) (packed-length (mark_bytes K) plain)

  room : mark_bytes K ≤ length (packed_into lent K plain)
  unfolding packed_into
  room = simp (length-append, packed-length) (omega arith)

  module _ (size : length plain ≡ K) (plainly : ArePlain plain) where
    pub into_back : unpacked K (packed_into lent K plain) ≡ plain
    into_back =
        unpacked-front (packed_into lent K plain) K (bits_fit K _ room) ∙ ap (take K) (into-all lent K plain size plainly)
        ∙ take_at plain (behind lent K) K size

    pub into-unused : (i : ℕ) → K ≤ i → i < mark_bytes K * 8 → mark_at (packed_into lent K plain) i ≡ 0
    into-unused i past b =
        let unused = replicate {A = ℕ} (mark_bytes K * 8 - K) 0 in
        let at : i ≡ length plain + (i - K) = omega arith in
        let inside : i - K < mark_bytes K * 8 - K = omega arith in
        sym (all-mark (packed_into lent K plain) i (omega (arith, room)))
        ∙ ap (λ (m : List ℕ). get_or m i 0) (into-all lent K plain size plainly) ∙ ap (λ n. get_or (plain ++ behind lent K) n 0) at
        ∙ get_or-append-add plain (behind lent K) (i - K) 0
        ∙ get_or-append unused (all_marks (drop (mark_bytes K) lent)) 0 (i - K) (rw length-replicate inside)
        ∙ get_or-replicate {A = ℕ} (mark_bytes K * 8 - K) (i - K) 0 0 inside

pub mark-laws : MarkLaws
mark-laws = record {
  sets_it = mark_set;
  no_other = λ marks i j. mark-other marks i j;
  ignores = unpacked-same;
  gives_back = into_back;
  unused = into-unused;
  past = into-past;
  packs_back = packed-back;
}
