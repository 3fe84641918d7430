-- The bases of a word as one number, two bits to a base: C and G by the bits that differ, pairs of bits that are 0, and both for
-- bases behind others. Assumes nothing.
use mathlib.Core.Path.{◌≡◌, refl, sym, ap, ◌∙◌}
use mathlib.Core.Bool.{cond}
use mathlib.Core.List.{List, [], ◌∷◌, ◌++◌}
use Prim.Native.Nat.{ℕ, zero, suc, ◌+◌, ◌*◌, ◌/◌, ◌%◌, ◌^◌, ◌<◌, ◌≤◌, zero-le}
use native.Mathlib.Nat.{zero-add, add-suc, add_assoc, mul_assoc, pow-suc}
use native.Mathlib.Numerals.{add-one}
use native.Mathlib.Omega.{arith}
use lib.Bits.{bit_and, bit_or, bit_xor, and_zero_r, and_block, xor_block, xor_shr, xor_mod, xor_lt, or_shr, or_mod, and_lt}
use lib.Count.{ones, ones_in, ones_cat}
use lib.Dec.{eqb, eqb→eq, T, lit<}
use lib.ListN.{length, get_or, drop}
use lib.Seq.{drop-cons}
use Rattle.field.proofs.Tests.{below, at}
use Rattle.screen.specs.Letters.{byte_bases, word_bases}
use Rattle.screen.specs.Screen.{gc_count, byte_gc}
use Rattle.screen.specs.Loops.{number_after, low_bits, gc_in, zero_pairs, matches}
use Rattle.screen.proofs.Screening.{gc-most, gc-cons}

-- ---- the formulas, a base at a time

-- two rules that are computed and compared at every number below a bound
pub agree : (bound : ℕ) (f g : ℕ → ℕ) → T (below bound (λ m. eqb (f m) (g m))) → (m : ℕ) → m < bound → f m ≡ g m
agree bound f g t m h = eqb→eq (f m) (g m) (at bound (λ i. eqb (f i) (g i)) t m h)

-- a mask of one base more takes the last pair of bits apart
and_low : (y k : ℕ) → bit_and y (low_bits (suc k)) ≡ bit_and (y / 4) (low_bits k) * 4 + bit_and (y % 4) 1
unfolding low_bits
and_low y k =
    let e : y ≡ y / 4 * 4 + y % 4 = omega arith in
    ap (λ (x : ℕ). bit_and x (low_bits k * 4 + 1)) e ∙ and_block 2 (y / 4) (low_bits k) (y % 4) 1 (omega arith) (lit< tt)

-- the last base, by the three last bits
last-gc : (n : ℕ) → ones (bit_and (bit_xor n (n / 2) % 4) 1) ≡ gc_count (n % 4 ∷ [])
unfolding ones ones_in gc_count
last-gc n =
    let a : n % 4 ≡ n % 8 % 4 = omega arith in
    let b : n / 2 % 4 ≡ n % 8 / 2 = omega arith in
    rw (xor_mod n (n / 2) 2, a, b)
    (agree 8 (λ m. ones (bit_and (bit_xor (m % 4) (m / 2)) 1)) (λ m. gc_count (m % 4 ∷ [])) tt (n % 8) (omega arith))

-- the ones of the masked XOR count C and G: a base is C or G where its two bits differ
pub gc-bits : (k n : ℕ) → ones (bit_and (bit_xor n (n / 2)) (low_bits k)) ≡ gc_in k n
unfolding ones ones_in gc_in low_bits
gc-bits zero n = rw (and_zero_r (bit_xor n (n / 2)))
gc-bits (suc k) n =
    let y = bit_xor n (n / 2) in
    let e : n / 2 / 4 ≡ n / 4 / 2 = omega arith in
    ap ones (and_low y k) ∙ ones_cat 2 (bit_and (y / 4) (low_bits k)) (bit_and (y % 4) 1) (and_lt 2 (y % 4) 1 (omega arith) (lit< tt))
    ∙ rw (xor_shr n (n / 2) 2, e, last-gc n, gc-bits k (n / 4))

-- the last pair of bits
last-pair : (d : ℕ) → bit_xor (bit_and (bit_or d (d / 2) % 4) 1) 1 ≡ cond (eqb (d % 4) 0) 1 0
last-pair d =
    let a : d % 4 ≡ d % 8 % 4 = omega arith in
    let b : d / 2 % 4 ≡ d % 8 / 2 = omega arith in
    rw (or_mod d (d / 2) 2, a, b)
    (agree 8 (λ m. bit_xor (bit_and (bit_or (m % 4) (m / 2)) 1) 1) (λ m. cond (eqb (m % 4) 0) 1 0) tt (d % 8) (omega arith))

-- the masked OR of each pair's bits, turned over, is 1 where the pair is 0
pub pair-bits : (k d : ℕ) → bit_xor (bit_and (bit_or d (d / 2)) (low_bits k)) (low_bits k) ≡ zero_pairs k d
unfolding zero_pairs low_bits
pair-bits zero d = rw (and_zero_r (bit_or d (d / 2)))
pair-bits (suc k) d =
    let y = bit_or d (d / 2) in
    let e : d / 2 / 4 ≡ d / 4 / 2 = omega arith in
    ap (λ (x : ℕ). bit_xor x (low_bits k * 4 + 1)) (and_low y k)
    ∙ xor_block 2 (bit_and (y / 4) (low_bits k)) (low_bits k) (bit_and (y % 4) 1) 1 (and_lt 2 (y % 4) 1 (omega arith) (lit< tt)) (lit< tt)
    ∙ rw (or_shr d (d / 2) 2, e, last-pair d, pair-bits k (d / 4))

-- ---- j bases more, as x behind c

place : (j c : ℕ) → c * 4 ^ suc j ≡ c * 4 ^ j * 4
place j c = rw (pow-suc 4 j) (sym (mul_assoc c (4 ^ j) 4))

-- the last base of x taken off
fewer : (j c x : ℕ) → (c * 4 ^ suc j + x) / 4 ≡ c * 4 ^ j + x / 4
fewer j c x = omega (arith, place j c)

less : (j x : ℕ) → x < 4 ^ suc j → x / 4 < 4 ^ j
less j x h = omega (arith, pow-suc 4 j)

-- and that base
last : (j c x : ℕ) → (c * 4 ^ suc j + x) % 4 ≡ x % 4
last j c x = omega (arith, place j c)

-- what is counted of both
pub gc-more : (k j c x : ℕ) → x < 4 ^ j → gc_in (k + j) (c * 4 ^ j + x) ≡ gc_in k c + gc_in j x
unfolding gc_in
gc-more k zero c x h =
    let e : k + 0 ≡ k = omega arith in
    let f : c * 1 + x ≡ c = omega arith in
    rw (e, f) (omega arith)
gc-more k (suc j) c x h =
    rw (add-suc k j, fewer j c x, last j c x, gc-more k j c (x / 4) (less j x h)) (add_assoc (gc_in k c) (gc_in j (x / 4)) _)

-- the flags of both
pairs-more : (k j c x : ℕ) → x < 4 ^ j → zero_pairs (k + j) (c * 4 ^ j + x) ≡ zero_pairs k c * 4 ^ j + zero_pairs j x
unfolding zero_pairs
pairs-more k zero c x h =
    let e : k + 0 ≡ k = omega arith in
    let f : c * 1 + x ≡ c = omega arith in
    rw (e, f) (omega arith)
pairs-more k (suc j) c x h =
    rw (add-suc k j, fewer j c x, last j c x, pairs-more k j c (x / 4) (less j x h)) (omega (arith, place j (zero_pairs k c)))

-- a number with 32 bases more and one behind them, against itself moved on by one base
followed-on : (n x t : ℕ) → x < 2 ^ 64 → t < 4
    → (let m = (n * 2 ^ 64 + x) * 4 + t in let f = n * 4 + x / 2 ^ 62 in
    bit_xor m (m / 4) ≡ bit_xor f (f / 4) * 2 ^ 64 + bit_xor (x % 2 ^ 62 * 4 + t) x)
followed-on n x t h l =
    let f = n * 4 + x / 2 ^ 62 in
    let whole : (n * 2 ^ 64 + x) * 4 + t ≡ f * 2 ^ 64 + (x % 2 ^ 62 * 4 + t) = omega arith in
    let up : (f * 2 ^ 64 + (x % 2 ^ 62 * 4 + t)) / 4 ≡ n * 2 ^ 64 + x = omega arith in
    let front : f / 4 ≡ n = omega arith in
    rw (whole, up, front) (xor_block 64 f n (x % 2 ^ 62 * 4 + t) x (omega arith) h)

-- so that the matches before the last of the 32 hang on the first of them alone
pub matches-more : (k n x t : ℕ) → x < 2 ^ 64 → t < 4
    → matches (k + 32) ((n * 2 ^ 64 + x) * 4 + t) ≡ matches k (n * 4 + x / 2 ^ 62) * 2 ^ 64 + zero_pairs 32 (bit_xor (x % 2 ^ 62 * 4 + t) x)
matches-more k n x t h l =
    let f = n * 4 + x / 2 ^ 62 in
    rw (followed-on n x t h l) (pairs-more k 32 (bit_xor f (f / 4)) (bit_xor (x % 2 ^ 62 * 4 + t) x) (xor_lt 64 (x % 2 ^ 62 * 4 + t) x (omega arith) h))

-- C and G are no more than the bases
pub gc-few : (k n : ℕ) → gc_in k n ≤ k
unfolding gc_in
gc-few zero n = zero-le
gc-few (suc k) n = omega (arith, gc-few k (n / 4), gc-most (n % 4 ∷ []))

-- ---- bytes of a word

-- bytes behind bytes
pub number_append : (n : ℕ) (xs ys : List ℕ) → number_after (number_after n xs) ys ≡ number_after n (xs ++ ys)
unfolding number_after
number_append n [] ys = refl
number_append n (x ∷ xs) ys = number_append (n * 256 + x) xs ys

-- one byte
pub next-byte : (word : List ℕ) (n i j : ℕ) → i < length word → j ≡ i + 1
    → number_after n (drop i word) ≡ number_after (n * 256 + get_or word i 0) (drop j word)
unfolding number_after
next-byte word n i j h e = rw (e, add-one i, drop-cons word i 0 h)

-- ---- the C and G of a word

-- four bases are a byte
byte-four : (b : ℕ) → gc_in 4 b ≡ byte_gc b
unfolding gc_in byte_gc byte_bases gc_count
byte-four b =
    let two : b / 4 / 4 ≡ b / 16 = omega arith in
    let three : b / 16 / 4 ≡ b / 64 = omega arith in
    rw (two, three) (omega arith)

-- document 02, Item 4, for one byte: the ones of its masked XOR
pub byte-ones : (b : ℕ) → ones (bit_and (bit_xor b (b / 2)) 0x55) ≡ byte_gc b
unfolding low_bits
byte-ones b = gc-bits 4 b ∙ byte-four b

-- bytes behind k bases
gc-from : (k n : ℕ) (bs : List ℕ) → ((i : ℕ) → get_or bs i 0 < 256) → gc_in (k + 4 * length bs) (number_after n bs) ≡ gc_in k n + gc_count (word_bases bs)
unfolding number_after word_bases gc_count
gc-from k n [] h = let e : k + 4 * 0 ≡ k = omega arith in rw e (omega arith)
gc-from k n (b ∷ bs) h =
    let e : k + 4 * suc (length bs) ≡ k + 4 + 4 * length bs = omega arith in
    rw (e, gc-from (k + 4) (n * 256 + b) bs (λ i. h (suc i)), gc-more k 4 n b (h 0), byte-four b, gc-cons b bs) (add_assoc (gc_in k n) (byte_gc b) _)

-- and all bytes
pub word-gc : (n : ℕ) (bs : List ℕ) → ((i : ℕ) → get_or bs i 0 < 256) → gc_in (4 * length bs) (number_after n bs) ≡ gc_count (word_bases bs)
unfolding gc_in
word-gc n bs h = simp zero-add at (gc-from 0 n bs h)
