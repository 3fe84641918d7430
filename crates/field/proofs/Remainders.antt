-- A word's remainder by the generator polynomial for R = 4, as the number that its four bytes spell: one, four or eight more bytes
-- give the next remainder, four and eight by tables of half bytes; and the remainder gives the word's syndromes and its parity.
-- Assumes nothing.
use Rattle.std.proofs.Common.{◌≡◌, ℕ, zero, suc, ◌+◌, ◌*◌, ◌/◌, ◌%◌, ◌^◌, ◌<◌, ◌≤◌, List, [], ◌∷◌, ◌++◌, length, get_or, drop, sym, refl, ap, ◌∙◌, ap₂, mod-lt, arith, lit<, drop-cons, pow_pos}
use lib.Bits.{bit_xor, xor_shr, xor_mod, xor_comm, xor_self, xor_shifted}
use lib.Pow.{mod-pow-add}
use Rattle.field.specs.Bytes.{AllBytes, xor_lists, to_big_endian}
use Rattle.field.specs.CheckBytes.{times_power, horner, value_at, syndromes, parity}
use Rattle.field.specs.Loops.{number_at, Leaves, up_four, up_eight, halves_table, at_halves}
use Rattle.field.proofs.Xor.{xors, xor-zero-eq}
use Rattle.field.proofs.BigEndian.{four-back, to-bytes}
use Rattle.field.proofs.Powers.{power-xor, power_zero, power-add}
use Rattle.field.proofs.Horner.{horner-append, horner-xor, horner-zeros}
use Rattle.field.proofs.Weights.{horner-weighted, value-weighted}
use Rattle.field.proofs.Parity.{parity-length, parity-bytes, parity-vanishes}
use Rattle.field.proofs.Unique.{parity-only}
use Rattle.field.proofs.Tables.{entry}

-- ---- the value of a number's bytes

part-xor : (k a b : ℕ) → bit_xor a b / 2 ^ k % 2 ^ 8 ≡ bit_xor (a / 2 ^ k % 2 ^ 8) (b / 2 ^ k % 2 ^ 8)
part-xor k a b = ap (λ (v : ℕ). v % 2 ^ 8) (xor_shr a b k) ∙ xor_mod (a / 2 ^ k) (b / 2 ^ k) 8

value-xor : (i a b : ℕ) → number_at i (bit_xor a b) ≡ bit_xor (number_at i a) (number_at i b)
unfolding to_big_endian xor_lists
value-xor i a b =
    ap (horner i 0) (ap₂ ◌∷◌ (part-xor 24 a b) (ap₂ ◌∷◌ (part-xor 16 a b) (ap₂ ◌∷◌ (part-xor 8 a b) (ap₂ ◌∷◌ (xor_mod a b 8) refl))))
    ∙ horner-xor i 0 0 (to_big_endian a) (to_big_endian b) refl

-- a number's bytes are those of its lowest 32 bits
low_value : (i x : ℕ) → number_at i (x % 2 ^ 32) ≡ number_at i x
unfolding to_big_endian
low_value i x =
    let a : x % 2 ^ 32 / 16777216 % 256 ≡ x / 16777216 % 256 = omega arith in
    let b : x % 2 ^ 32 / 65536 % 256 ≡ x / 65536 % 256 = omega arith in
    let c : x % 2 ^ 32 / 256 % 256 ≡ x / 256 % 256 = omega arith in
    let d : x % 2 ^ 32 % 256 ≡ x % 256 = omega arith in
    rw (a, b, c, d)

pub value-zero : (i : ℕ) → number_at i 0 ≡ 0
unfolding to_big_endian
value-zero i = horner-zeros i 4

-- ---- four or eight bytes behind it

four-more : (i s x : ℕ) → horner i s (to_big_endian x) ≡ bit_xor (times_power (i * 4) s) (number_at i x)
unfolding to_big_endian
four-more i s x = horner-weighted i s (to_big_endian x) ∙ ap (bit_xor (times_power (i * 4) s)) (sym (value-weighted i (to_big_endian x)))

four-value : (i x : ℕ) → i < 4 → number_at i (up_four x) ≡ times_power (i * 4) (number_at i x)
unfolding up_four
four-value i x h =
    let p = parity 4 (to_big_endian x) in
    let e = (four-back p (parity-length 4 (to_big_endian x)) (parity-bytes 4 (to_big_endian x) (to-bytes x))).0 in
    sym (xor-zero-eq (times_power (i * 4) (number_at i x)) (number_at i (up_four x))
    (sym (four-more i (number_at i x) (up_four x)) ∙ ap (horner i (number_at i x)) e ∙ sym (horner-append i 0 (to_big_endian x) p)
    ∙ parity-vanishes 4 (to_big_endian x) i h))

eight-value : (i x : ℕ) → i < 4 → number_at i (up_eight x) ≡ times_power (i * 4 + i * 4) (number_at i x)
unfolding up_eight
eight-value i x h =
    four-value i (up_four x) h ∙ ap (times_power (i * 4)) (four-value i x h) ∙ sym (power-add (i * 4) (i * 4) (number_at i x))

-- ---- a table's entries for half bytes

-- the entry of half byte k at the value n
half-entry : (f : ℕ → ℕ) (k n : ℕ) → k < 8 → n < 16 → get_or (halves_table f) (n + 16 * k) 0 ≡ f (n * 2 ^ (4 * k))
unfolding halves_table
half-entry f k n hk hn =
    let m : (n + 16 * k) % 16 ≡ n = omega arith in
    let d : (n + 16 * k) / 16 ≡ k = omega arith in
    entry 128 (λ (j : ℕ). f (j % 16 * 2 ^ (4 * (j / 16)))) (n + 16 * k) (omega arith)
    ∙ ap₂ (λ (a b : ℕ). f (a * 2 ^ (4 * b))) m d

-- one half byte more of a number's lowest k
low_halves : (k x : ℕ) → bit_xor (x % 2 ^ (4 * k)) (x / 2 ^ (4 * k) % 16 * 2 ^ (4 * k)) ≡ x % 2 ^ (4 * suc k)
low_halves k x =
    let n = x / 2 ^ (4 * k) % 16 in
    let e : 4 + 4 * k ≡ 4 * suc k = omega arith in
    xor_comm (x % 2 ^ (4 * k)) (n * 2 ^ (4 * k)) ∙ xor_shifted n (4 * k) (x % 2 ^ (4 * k)) (mod-lt x (pow_pos (4 * k)))
    ∙ sym (mod-pow-add x 4 (4 * k)) ∙ ap (λ (w : ℕ). x % 2 ^ w) e

-- where a map multiplies the value at a^i by a power of the root, its table does so too
module _ (i p : ℕ) (f : ℕ → ℕ) (law : (x : ℕ) → number_at i (f x) ≡ times_power p (number_at i x)) where
  halves-value : (k x : ℕ) → k ≤ 8 → number_at i (at_halves k (halves_table f) x) ≡ times_power p (number_at i (x % 2 ^ (4 * k)))
  unfolding at_halves
  halves-value zero x h = let e : x % 2 ^ (4 * 0) ≡ 0 = omega arith in simp (e, value-zero, power_zero)
  halves-value (suc k) x h =
      let n = x / 2 ^ (4 * k) % 16 in
      let low = x % 2 ^ (4 * k) in
      value-xor i (at_halves k (halves_table f) x) (get_or (halves_table f) (n + 16 * k) 0)
      ∙ ap₂ bit_xor (halves-value k x (omega arith)) (ap (number_at i) (half-entry f k n (omega arith) (omega arith)) ∙ law (n * 2 ^ (4 * k)))
      ∙ sym (power-xor p (number_at i low) (number_at i (n * 2 ^ (4 * k))))
      ∙ ap (times_power p) (sym (value-xor i low (n * 2 ^ (4 * k))) ∙ ap (number_at i) (low_halves k x))

  all-halves : (x : ℕ) → number_at i (at_halves 8 (halves_table f) x) ≡ times_power p (number_at i x)
  all-halves x = halves-value 8 x (omega arith) ∙ ap (times_power p) (low_value i x)

four-halves : (i x : ℕ) → i < 4 → number_at i (at_halves 8 (halves_table up_four) x) ≡ times_power (i * 4) (number_at i x)
four-halves i x h = all-halves i (i * 4) up_four (λ y. four-value i y h) x

eight-halves : (i x : ℕ) → i < 4 → number_at i (at_halves 8 (halves_table up_eight) x) ≡ times_power (i * 4 + i * 4) (number_at i x)
eight-halves i x h = all-halves i (i * 4 + i * 4) up_eight (λ y. eight-value i y h) x

-- ---- a turn of a loop

-- what is left of the word takes the number's values to the word's
abbrev pub Goes : List ℕ → ℕ → List ℕ → Type 0
Goes word x left = (i : ℕ) → i < 4 → horner i (number_at i x) left ≡ value_at i word

pub goes-from : (word front left : List ℕ) (x : ℕ) → front ++ left ≡ word → Leaves front x → Goes word x left
goes-from word front left x e l i h =
    ap (λ (v : ℕ). horner i v left) (l i h) ∙ sym (horner-append i 0 front left) ∙ ap (horner i 0) e

pub goes_end : (word left : List ℕ) (x : ℕ) → left ≡ [] → Goes word x left → Leaves word x
unfolding horner
goes_end word left x e g i h = ap (horner i (number_at i x)) (sym e) ∙ g i h

pub next-byte : (word : List ℕ) (j k : ℕ) → k ≡ suc j → j < length word → drop j word ≡ get_or word j 0 ∷ drop k word
next-byte word j k e h = rw e (drop-cons word j 0 h)

-- one more byte
byte-value : (i x b : ℕ) → x < 2 ^ 24 → b < 2 ^ 8 → number_at i (x * 256 + b) ≡ bit_xor (times_power i (number_at i x)) b
unfolding to_big_endian horner
byte-value i x b hx hb =
    let p : (x * 256 + b) / 16777216 % 256 ≡ x / 65536 % 256 = omega arith in
    let q : (x * 256 + b) / 65536 % 256 ≡ x / 256 % 256 = omega arith in
    let r : (x * 256 + b) / 256 % 256 ≡ x % 256 = omega arith in
    let s : (x * 256 + b) % 256 ≡ b = omega arith in
    let z : x / 16777216 % 256 ≡ 0 = omega arith in
    simp (p, q, r, s, z, power_zero)

pub byte-turn : (word left left' : List ℕ) (x b : ℕ) → left ≡ b ∷ left' → b < 2 ^ 8 → x < 2 ^ 24 → Goes word x left
    → Goes word (x * 256 + b) left'
unfolding horner
byte-turn word left left' x b e hb hx g i hi =
    ap (λ (v : ℕ). horner i v left') (byte-value i x b hx hb) ∙ ap (horner i (number_at i x)) (sym e) ∙ g i hi

-- four more bytes
pub four-turn : (word left left' : List ℕ) (x y : ℕ) → left ≡ to_big_endian y ++ left' → Goes word x left
    → Goes word (bit_xor y (at_halves 8 (halves_table up_four) x)) left'
four-turn word left left' x y e g i h =
    let u = number_at i x in
    let v = number_at i y in
    ap (λ (s : ℕ). horner i s left')
    (value-xor i y (at_halves 8 (halves_table up_four) x) ∙ ap (bit_xor v) (four-halves i x h) ∙ xor_comm v (times_power (i * 4) u)
    ∙ sym (four-more i u y))
    ∙ sym (horner-append i u (to_big_endian y) left') ∙ ap (horner i u) (sym e) ∙ g i h

-- eight more bytes
module _ (word left left' : List ℕ) (x y z : ℕ) where
  eight-value-more : (i : ℕ) → i < 4
      → number_at i (bit_xor (bit_xor z (at_halves 8 (halves_table up_four) y)) (at_halves 8 (halves_table up_eight) x))
      ≡ horner i (horner i (number_at i x) (to_big_endian y)) (to_big_endian z)
  eight-value-more i h =
      let a = at_halves 8 (halves_table up_four) y in
      let b = at_halves 8 (halves_table up_eight) x in
      let u = number_at i x in
      let v = number_at i y in
      let w = number_at i z in
      let e : bit_xor (bit_xor w (times_power (i * 4) v)) (times_power (i * 4 + i * 4) u)
      ≡ bit_xor (times_power (i * 4) (bit_xor (times_power (i * 4) u) v)) w = simp (power-xor, power-add, xors) in
      value-xor i (bit_xor z a) b
      ∙ ap₂ bit_xor (value-xor i z a ∙ ap (bit_xor w) (four-halves i y h)) (eight-halves i x h) ∙ e
      ∙ sym (ap (λ (s : ℕ). horner i s (to_big_endian z)) (four-more i u y) ∙ four-more i _ z)

  pub eight-turn : left ≡ to_big_endian y ++ (to_big_endian z ++ left') → Goes word x left
      → Goes word (bit_xor (bit_xor z (at_halves 8 (halves_table up_four) y)) (at_halves 8 (halves_table up_eight) x)) left'
  eight-turn e g i h =
      ap (λ (s : ℕ). horner i s left') (eight-value-more i h)
      ∙ sym (horner-append i (horner i (number_at i x) (to_big_endian y)) (to_big_endian z) left')
      ∙ sym (horner-append i (number_at i x) (to_big_endian y) (to_big_endian z ++ left')) ∙ ap (horner i (number_at i x)) (sym e) ∙ g i h

-- ---- what the remainder is for

pub parity-by : (message : List ℕ) (x : ℕ) → AllBytes message → Leaves message x
    → to_big_endian (at_halves 8 (halves_table up_four) x) ≡ parity 4 message
unfolding to_big_endian
parity-by message x hm l =
    let y = at_halves 8 (halves_table up_four) x in
    (parity-only 4 message (to_big_endian y) (omega arith) hm (to-bytes y) refl).0
    (λ i h. horner-append i 0 message (to_big_endian y) ∙ four-more i (value_at i message) y
    ∙ ap (bit_xor (times_power (i * 4) (value_at i message))) (four-halves i x h ∙ ap (times_power (i * 4)) (l i h))
    ∙ xor_self (times_power (i * 4) (value_at i message)))

pub syndromes-by : (word : List ℕ) (x : ℕ) → Leaves word x → syndromes 4 (to_big_endian x) ≡ syndromes 4 word
unfolding syndromes
syndromes-by word x l =
    ap₂ ◌∷◌ (l 0 (lit< tt)) (ap₂ ◌∷◌ (l 1 (lit< tt)) (ap₂ ◌∷◌ (l 2 (lit< tt)) (ap₂ ◌∷◌ (l 3 (lit< tt)) refl)))
