-- What the calls that give or take marks rest on: setting one changes no other, and unpacking gives back what was packed. Assumes nothing.
use Rattle.std.specs.Prelude.{◌≡◌, List, ℕ, ◌*◌, ◌<◌, ◌≤◌, length, drop}
use Rattle.field.specs.Bytes.{All, AllBytes}
use Rattle.marks.specs.Marks.{mark_bytes, mark_at, with_mark, unpacked, all_marks, packed, packed_into}

-- plain marks: each is 1 or 0
abbrev pub ArePlain : List ℕ → Type 0
ArePlain = All (λ m. m < 2)

pub record MarkLaws : Type 0 where
  -- setting a mark sets it, and changes no other
  pub sets_it : (marks : List ℕ) (i : ℕ) → i < length marks * 8 → mark_at (with_mark marks i) i ≡ 1
  pub no_other : (marks : List ℕ) (i j : ℕ) → (j ≡ i → ⊥) → mark_at (with_mark marks i) j ≡ mark_at marks j
  -- "bits from K on in marks handed in are ignored"
  pub ignores : (K : ℕ) (marks marks' : List ℕ) → ((i : ℕ) → i < K → mark_at marks i ≡ mark_at marks' i) → unpacked K marks ≡ unpacked K marks'
  -- unpacking what was packed into a lent buffer gives it back
  pub gives_back : (lent : List ℕ) (K : ℕ) (plain : List ℕ) → length plain ≡ K → ArePlain plain → unpacked K (packed_into lent K plain) ≡ plain
  -- "unused bits of the last byte are 0"
  pub unused : (lent : List ℕ) (K : ℕ) (plain : List ℕ) → length plain ≡ K → ArePlain plain
      → (i : ℕ) → K ≤ i → i < mark_bytes K * 8 → mark_at (packed_into lent K plain) i ≡ 0
  -- "the bytes past these keep what they had"
  pub past : (lent : List ℕ) (K : ℕ) (plain : List ℕ) → drop (mark_bytes K) (packed_into lent K plain) ≡ drop (mark_bytes K) lent
  -- and bytes are their marks: packing all that they unpack to gives them
  pub packs_back : (marks : List ℕ) → AllBytes marks → packed (length marks) (all_marks marks) ≡ marks
