-- `correct_word` meets its contract: a word with syndromes all 0 stays, any other is corrected if it can be. Assumes nothing.
use Rattle.std.proofs.Common.{◌≡◌, ℕ, false, eqb, List, [], ◌∷◌, length, Option, refl, sym, ◌∙◌, inr, ⊎_elim, rules}
use Rattle.std.specs.Cmp.Lexicographic.{pointwise}
use Rattle.std.proofs.lemmas.Bool.{eqb-false, or_parts}
use Rattle.field.specs.Bytes.{IsByte}
use Rattle.field.specs.CheckBytes.{CheckCount}
use Rattle.field.proofs.ByteLists.{all_from, four}
use Rattle.correction.specs.Correction.{all_zero, Corrects}
use Rattle.correction.specs.Locators.{square, single_error}
use Rattle.correction.proofs.CorrectionCases.{clean-word}
use Rattle.correction.proofs.correct.correct_word.Goals as goal

-- the code compares the four sums with four zeros
zeros : (s : List ℕ) → length s ≡ 4 → all_zero s ≡ pointwise eqb s (0 ∷ 0 ∷ 0 ∷ 0 ∷ [])
zeros s e = rw (four s e)

-- where a single wrong byte is ruled out, R is 4 and the locator has a square term
curved : (R : ℕ) (s : List ℕ) → CheckCount R → single_error R s ≡ false → (R ≡ 4) × (square s ≡ 0 → ⊥)
curved R s count e =
    let no = or_parts (eqb R 2) (eqb (square s) 0) e in
    (⊎_elim (λ two. absurd (eqb-false R 2 no.0 two)) (λ four. four) count, eqb-false (square s) 0 no.1)

-- past the tests R is 4, and what is known of R is known of 4
of_four : (R : ℕ) (read : List ℕ) (r : Option ℕ) (word : List ℕ) → R ≡ 4 → Corrects 4 read r word → Corrects R read r word
of_four R read r word e h = rw e h

pub returns-then-eq : goal.returns-then-eq
returns-then-eq c =
    let read = c.args.word.now in
    let s = c.syndromes_of-sums.result in
    clean-word c.args.r read s c.requires.0 c.requires.1 (all_from IsByte read 0 (λ i h. search rules))
    c.syndromes_of-sums.ensures (zeros s (search rules) ∙ sym c.eq.ensures ∙ c.if-eq.true)

pub correct_one-requires : goal.correct_one-requires
correct_one-requires c =
    let s = c.syndromes_of-sums.result in (
      record {
        check_count = c.requires.0;
        size = c.requires.1;
        sums = c.syndromes_of-sums.ensures;
        nonzero = zeros s (search rules) ∙ sym c.eq.ensures ∙ c.if-eq.false;
      },
      sym c.single_error.ensures ∙ c.if-single_error.true,
    )

pub correct_two-requires : goal.correct_two-requires
correct_two-requires c =
    let s = c.syndromes_of-sums.result in
    let both = curved _ s c.requires.0 (sym c.single_error.ensures ∙ c.if-single_error.false) in (
      record {
        check_count = inr refl;
        size = c.requires.1;
        sums = rw both.0 at c.syndromes_of-sums.ensures;
        nonzero = zeros s (search rules) ∙ sym c.eq.ensures ∙ c.if-eq.false;
      },
      both.1,
    )

pub returns : goal.returns
returns c =
    let both = curved _ c.syndromes_of-sums.result c.requires.0 (sym c.single_error.ensures ∙ c.if-single_error.false) in
    of_four _ _ _ _ both.0 c.correct_two.ensures
