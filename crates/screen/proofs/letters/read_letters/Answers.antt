-- `read_letters`: four letters of the read are a byte more of the word, and the first four that are not end it. Assumes nothing.
use mathlib.Core.Path.{◌≡◌, refl, sym, ◌∙◌}
use mathlib.Core.Bool.{Bool, true, false, ◌&&◌}
use mathlib.Core.List.{List, [], ◌∷◌, append_assoc, append-nil}
use mathlib.Core.Logic.{inl, inr}
use Prim.Native.Nat.{ℕ, suc, ◌+◌, ◌*◌, ◌<◌, ◌≤◌}
use native.Mathlib.Numerals.{add-one, add-two, add-three, add-four}
use native.Mathlib.Omega.{arith}
use lib.ListN.{length, get_or, drop, set, length-set, drop_of_length-le}
use lib.Seq.{drop-cons, take-suc-set, take_all}
use Rattle.field.proofs.Tests.{either}
use Rattle.std.proofs.Common.{Option, Some, None}
use Rattle.screen.specs.Letters.{letter_bits, is_bits, all_letters, letters_byte, letters_word}
use Rattle.screen.specs.Loops.{spelled}
use Rattle.screen.proofs.letters.read_letters.Invariants.{Stands}
use Rattle.screen.proofs.letters.read_letters.Goals as goal

four-and : (p q r s t : Bool) → (p && (q && (r && (s && t)))) ≡ ((p && (q && (r && (s && true)))) && t)
four-and false q r s t = refl
four-and true false r s t = refl
four-and true true false s t = refl
four-and true true true false t = refl
four-and true true true true t = refl

module _ (a b c d : ℕ) where
  abbrev four : List ℕ
  four = a ∷ b ∷ c ∷ d ∷ []

  all-four : (rest : List ℕ) → all_letters (a ∷ b ∷ c ∷ d ∷ rest) ≡ (all_letters four && all_letters rest)
  unfolding all_letters
  all-four rest = four-and (is_bits (letter_bits a)) (is_bits (letter_bits b)) (is_bits (letter_bits c)) (is_bits (letter_bits d)) (all_letters rest)

  is_byte : (v : ℕ) → spelled a b c d ≡ Some v → (all_letters four ≡ true) × (v ≡ letters_byte a b c d)
  unfolding spelled
  is_byte v e = elim (either (all_letters four)) [ inl t ↦ (t, cc (rw t at e)) | inr f ↦ (cc (rw f at e), cc (rw f at e)) ]

  is-none : spelled a b c d ≡ None → all_letters four ≡ false
  unfolding spelled
  is-none e = elim (either (all_letters four)) [ inl t ↦ cc (rw t at e) | inr f ↦ f ]

-- what is left of the read from a place on
module _ (read : List ℕ) (n : ℕ) (fits : n + 4 ≤ length read) where
  left : drop n read ≡ get_or read n 0 ∷ get_or read (n + 1) 0 ∷ get_or read (n + 2) 0 ∷ get_or read (n + 3) 0 ∷ drop (n + 4) read
  left =
      rw (
        add-one,
        add-two,
        add-three,
        add-four,
        drop-cons read n 0 (omega arith),
        drop-cons read (suc n) 0 (omega arith),
        drop-cons read (suc (suc n)) 0 (omega arith),
        drop-cons read (suc (suc (suc n))) 0 (omega arith),
      )

module _ (read word₀ word : List ℕ) (i : ℕ) (now : Stands read word₀ word i) (same : length read ≡ 4 * length word₀) where
  abbrev next : Option ℕ
  next = spelled (get_or read (4 * i) 0) (get_or read (4 * i + 1) 0) (get_or read (4 * i + 2) 0) (get_or read (4 * i + 3) 0)

  turned : (v : ℕ) → i < length word → next ≡ Some v → Stands read word₀ (set word i v) (i + 1)
  unfolding letters_word
  turned v h e =
      let l = left read (4 * i) (omega (arith, now.long)) in
      let s = is_byte _ _ _ _ v e in
      let m : 4 * (i + 1) ≡ 4 * i + 4 = omega arith in
      record {
        long = simp length-set now.long;
        letters = rw m (rw (l, all-four, s.0) at now.letters);
        spells = rw (m, add-one i, take-suc-set word i v h, append_assoc, s.1) (rw l at now.spells);
      }

  stopped : i < length word → next ≡ None → false ≡ all_letters read
  stopped h e =
      let l = left read (4 * i) (omega (arith, now.long)) in
      rw (l, all-four, is-none _ _ _ _ e) at now.letters

  all_read : length word ≤ i → drop (4 * i) read ≡ []
  all_read h = let m : length read ≤ 4 * i = omega (arith, now.long) in drop_of_length-le read m

  all-letters : length word ≤ i → true ≡ all_letters read
  unfolding all_letters
  all-letters h = rw (all_read h) at now.letters

  all-spelled : length word ≤ i → word ≡ letters_word read
  unfolding letters_word
  all-spelled h = rw (all_read h, take_all i word h, append-nil) at now.spells

pub returns-in_default : goal.returns-in_default
returns-in_default c =
    let a = c.args in
    record {
      value = stopped a.read.now a.word.now c.loop-i.word c.loop-i.i c.loop-i.invariant c.requires (omega arith) (sym c.read_byte.ensures ∙ c.in_default.is);
      word_after = λ (e : false ≡ true). cc;
    }

pub loop-i-preserved : goal.loop-i-preserved
loop-i-preserved c =
    let a = c.args in
    turned a.read.now a.word.now c.loop-i.word c.loop-i.i c.loop-i.invariant c.requires _ (omega arith)
    (sym c.read_byte.ensures ∙ c.in-Some.is)

pub returns : goal.returns
returns c =
    let a = c.args in
    record {
      value = all-letters a.read.now a.word.now c.loop-i.word c.loop-i.i c.loop-i.invariant c.requires (omega arith);
      word_after = λ e. all-spelled a.read.now a.word.now c.loop-i.word c.loop-i.i c.loop-i.invariant c.requires (omega arith);
    }
