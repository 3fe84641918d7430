-- What a caller of the correction learns from its answer and the word that it left. Assumes nothing.
use mathlib.Core.Path.{◌≡◌, sym, ap, ◌∙◌}
use mathlib.Core.List.{List}
use Rattle.std.proofs.Common.{Option, Some, None}
use Prim.Native.Nat.{ℕ}
use Rattle.correction.specs.Correction.{codeword, none, corrected, answered, Corrects}

module _ (R : ℕ) (read : List ℕ) (r : Option ℕ) (word : List ℕ) (corrects : Corrects R read r word) where
  pub corrected-to : (k : ℕ) → r ≡ Some k → corrected R read ≡ codeword word k
  corrected-to k e = sym corrects.says ∙ ap (λ (x : Option ℕ). answered x word) e

  pub not-corrected : r ≡ None → corrected R read ≡ none
  not-corrected e = sym corrects.says ∙ ap (λ (x : Option ℕ). answered x word) e
