-- Packing and unpacking undo each other, byte by byte. Assumes nothing.
use mathlib.Core.Path.{◌≡◌, refl, sym, ap, ap₂, ◌∙◌}
use mathlib.Core.List.{List, [], ◌∷◌, ◌++◌, append_assoc, append-nil}
use Prim.Native.Nat.{ℕ, zero, suc, ◌+◌, ◌-◌, ◌*◌, ◌/◌, ◌%◌, ◌^◌, ◌<◌, ◌≤◌}
use native.Mathlib.Nat.{zero-add, suc-add, sub-zero, pow-suc, mod-eq_of_lt}
use native.Mathlib.Numerals.{add-one}
use native.Mathlib.Omega.{arith}
use native.Mathlib.Decide.{dec_lt}
use lib.ListN.{length, take, drop, replicate, length-take, length-drop, take-append-drop, drop_of_length-le, replicate-append-replicate}
use lib.Pow.{pow_pos, shr-shr, mod-pow-add}
use lib.Seq.{length-take-le, take_all, take_at, drop_at}
use Rattle.field.specs.Bytes.{AllBytes, table_of}
use Rattle.field.proofs.ByteLists.{all_take, all_drop}
use Rattle.field.proofs.Tables.{table-length, tables-same}
use Rattle.marks.specs.Marks.{mark_at, unpacked, all_marks, mark_byte, packed}
use Rattle.marks.specs.MarkLaws.{ArePlain}

-- ---- one byte

-- the lowest n bits of a number, lowest first
abbrev bits_of : ℕ → ℕ → List ℕ
bits_of n b = table_of n (λ i. b / 2 ^ i % 2)

bits-more : (n b : ℕ) → bits_of (suc n) b ≡ b % 2 ∷ bits_of n (b / 2)
unfolding table_of
bits-more n b =
    ap₂ ◌∷◌ (let e : b / 2 ^ 0 % 2 ≡ b % 2 = omega arith in e)
    (tables-same n _ (λ i. b / 2 / 2 ^ i % 2) (λ i h. ap (λ v. v % 2) (sym (shr-shr b 1 i ∙ rw (suc-add 0 i, zero-add)))))

bits_none : (n : ℕ) → bits_of n 0 ≡ replicate n 0
unfolding table_of
bits_none zero = refl
bits_none (suc n) = bits-more n 0 ∙ ap (◌∷◌ 0) (bits_none n)

-- a number's bits spell it
byte-back : (n b : ℕ) → mark_byte (bits_of n b) ≡ b % 2 ^ n
unfolding mark_byte
byte-back zero b = unfold table_of in omega arith
byte-back (suc n) b =
    let rest = byte-back n (b / 2) in
    let parts : b % 2 ^ suc n ≡ b / 2 % 2 ^ n * 2 + b % 2 = ap (λ k. b % 2 ^ k) (sym (add-one n)) ∙ mod-pow-add b n 1 in
    ap mark_byte (bits-more n b) ∙ omega (arith, rest, parts)

-- and the bits of a byte of marks are the marks
bits_back : (n : ℕ) (plain : List ℕ) → ArePlain plain → length plain ≤ n → bits_of n (mark_byte plain) ≡ plain ++ replicate (n - length plain) 0
unfolding mark_byte
bits_back n [] h fits = rw sub-zero (bits_none n)
bits_back zero (m ∷ ms) h fits = absurd (let z : ⊥ = omega arith in z)
bits_back (suc n) (m ∷ ms) h fits =
    let v = mark_byte ms in
    let low : (m + 2 * v) % 2 ≡ m = omega (arith, h.0) in
    let high : (m + 2 * v) / 2 ≡ v = omega (arith, h.0) in
    let left : suc n - suc (length ms) ≡ n - length ms = omega arith in
    bits-more n (m + 2 * v) ∙ rw (low, high, left) (ap (◌∷◌ m) (bits_back n ms h.1 (omega arith)))

byte-lt : (n : ℕ) (plain : List ℕ) → ArePlain plain → length plain ≤ n → mark_byte plain < 2 ^ n
unfolding mark_byte
byte-lt n [] h fits = pow_pos n
byte-lt zero (m ∷ ms) h fits = absurd (let z : ⊥ = omega arith in z)
byte-lt (suc n) (m ∷ ms) h fits =
    let rest = byte-lt n ms h.1 (omega arith) in
    rw (pow-suc 2 n) (omega (arith, h.0))

-- ---- all bytes

table-both : (n m : ℕ) (f : ℕ → ℕ) → table_of (n + m) f ≡ table_of n f ++ table_of m (λ k. f (n + k))
unfolding table_of
table-both zero m f = rw zero-add (tables-same m f (λ k. f (0 + k)) (λ k h. rw zero-add))
table-both (suc n) m f =
    rw (suc-add n m)
    (ap (◌∷◌ (f 0)) (table-both n m (λ k. f (suc k)) ∙ ap (◌++◌ (table_of n (λ k. f (suc k)))) (tables-same m _ _ (λ k h. rw (suc-add n k)))))

module _ (b : ℕ) (bs : List ℕ) where
  mark-here : (i : ℕ) → i < 8 → mark_at (b ∷ bs) i ≡ b / 2 ^ i % 2
  unfolding mark_at
  mark-here i h =
      let none : i / 8 ≡ 0 = omega arith in
      let same : i % 8 ≡ i = omega arith in
      rw (none, same)

  mark-behind : (k : ℕ) → mark_at (b ∷ bs) (8 + k) ≡ mark_at bs k
  unfolding mark_at
  mark-behind k =
      let next : (8 + k) / 8 ≡ suc (k / 8) = omega arith in
      let same : (8 + k) % 8 ≡ k % 8 = omega arith in
      rw (next, same)

  all_cons : all_marks (b ∷ bs) ≡ bits_of 8 b ++ all_marks bs
  unfolding all_marks unpacked
  all_cons =
      let m = length bs * 8 in
      let size : suc (length bs) * 8 ≡ 8 + m = omega arith in
      ap (λ n. table_of n (mark_at (b ∷ bs))) size ∙ table-both 8 m (mark_at (b ∷ bs))
      ∙ ap₂ ◌++◌ (tables-same 8 _ (λ i. b / 2 ^ i % 2) mark-here) (tables-same m _ (mark_at bs) (λ k h. mark-behind k))

-- bytes are packed of all their marks
pub packed-back : (marks : List ℕ) → AllBytes marks → packed (length marks) (all_marks marks) ≡ marks
unfolding packed
packed-back [] h = refl
packed-back (b ∷ bs) h =
    let eight = table-length 8 (λ i. b / 2 ^ i % 2) in
    rw (all_cons b bs, take_at (bits_of 8 b) (all_marks bs) 8 eight, drop_at (bits_of 8 b) (all_marks bs) 8 eight, packed-back bs h.1)
    (ap (λ v. v ∷ bs) (byte-back 8 b ∙ mod-eq_of_lt h.0))

-- bytes with the same marks are the same
pub same_packed : (a b : List ℕ) → AllBytes a → AllBytes b → length a ≡ length b → all_marks a ≡ all_marks b → a ≡ b
same_packed a b ha hb size e = sym (packed-back a ha) ∙ rw (size, e) (packed-back b hb)

pub packed-length : (n : ℕ) (plain : List ℕ) → length (packed n plain) ≡ n
unfolding packed
packed-length zero plain = refl
packed-length (suc n) plain = ap suc (packed-length n (drop 8 plain))

pub packed-bytes : (n : ℕ) (plain : List ℕ) → ArePlain plain → AllBytes (packed n plain)
unfolding packed
packed-bytes zero plain h = tt
packed-bytes (suc n) plain h = (
  byte-lt 8 (take 8 plain) (all_take (λ m. m < 2) 8 plain h) (rw length-take (omega arith)),
  packed-bytes n (drop 8 plain) (all_drop (λ m. m < 2) 8 plain h),
)

-- what was packed, with the unused bits behind it, and then what follows
pub all-packed : (n : ℕ) (plain rest : List ℕ) → ArePlain plain → length plain ≤ n * 8
    → all_marks (packed n plain ++ rest) ≡ plain ++ (replicate (n * 8 - length plain) 0 ++ all_marks rest)
unfolding packed
all-packed zero [] rest h fits = refl
all-packed zero (m ∷ ms) rest h fits = absurd (let z : ⊥ = omega arith in z)
all-packed (suc n) plain rest h fits =
    let front = take 8 plain in
    let back = drop 8 plain in
    let later = all-packed n back rest (all_drop (λ m. m < 2) 8 plain h) (rw length-drop (omega arith)) in
    all_cons (mark_byte front) (packed n back ++ rest)
    ∙ rw (bits_back 8 front (all_take (λ m. m < 2) 8 plain h) (rw length-take (omega arith)), later)
    (elim (dec_lt (length plain) 8) [ yes l ↦ short l | no l ↦ long (omega arith) ])
  where
    -- the last marks: unused bits here, and all bytes behind unused
    short : length plain < 8
        → (take 8 plain ++ replicate (8 - length (take 8 plain)) 0) ++ (drop 8 plain ++ (replicate (n * 8 - length (drop 8 plain)) 0 ++ all_marks rest))
        ≡ plain ++ (replicate (suc n * 8 - length plain) 0 ++ all_marks rest)
    short l =
        let none : drop 8 plain ≡ [] = drop_of_length-le plain {i = 8} (omega arith) in
        let sum : 8 - length plain + n * 8 ≡ suc n * 8 - length plain = omega arith in
        rw (
          take_all 8 plain (omega arith),
          none,
          sub-zero,
          append_assoc,
          ← append_assoc (replicate (8 - length plain) 0) (replicate (n * 8) 0) (all_marks rest),
          replicate-append-replicate {A = ℕ} (8 - length plain) (n * 8) 0,
          sum,
        )

    -- eight marks, and the others behind them
    long : 8 ≤ length plain
        → (take 8 plain ++ replicate (8 - length (take 8 plain)) 0) ++ (drop 8 plain ++ (replicate (n * 8 - length (drop 8 plain)) 0 ++ all_marks rest))
        ≡ plain ++ (replicate (suc n * 8 - length plain) 0 ++ all_marks rest)
    long l =
        let left : n * 8 - (length plain - 8) ≡ suc n * 8 - length plain = omega arith in
        rw (length-take-le 8 plain l, length-drop, left, append-nil, ← append_assoc (take 8 plain) (drop 8 plain) _, take-append-drop)
