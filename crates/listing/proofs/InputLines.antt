-- The input gone through byte by byte, and ended, comes to what its lines come to. So its cuts into pieces do not matter.
-- Assumes nothing.
use Rattle.std.proofs.Common.{◌≡◌, ℕ, ◌<◌, true, false, eqb, List, [], ◌∷◌, ◌++◌, length, refl, ◌∙◌, inl, inr, arith}
use mathlib.Core.List.{foldl}
use Rattle.field.proofs.Tests.{either}
use Rattle.droplet.specs.declared.card.Card.{Card}
use Rattle.listing.specs.Listing.{Listed, last_line, lines_from, after_line, listing}
use Rattle.listing.specs.Loops.{Progress, start, after_newline, after_byte, after_bytes, after_end}

module _ (c : Card) (weights : List ℕ) where
  pub last_none : (s : Listed) (line : List ℕ) → length line ≡ 0 → foldl (after_line c weights) s (last_line line) ≡ s
  unfolding last_line
  last_none s [] e = refl
  last_none s (b ∷ bs) e = absurd (let z : ⊥ = omega arith in z)

  pub last_one : (s : Listed) (line : List ℕ) → 0 < length line → foldl (after_line c weights) s (last_line line) ≡ after_line c weights s line
  unfolding last_line
  last_one s [] h = absurd (let z : ⊥ = omega arith in z)
  last_one s (b ∷ bs) h = refl

  byte-newline : (p : Progress) (b : ℕ) → eqb b 10 ≡ true → after_byte c weights p b ≡ record { listed = after_line c weights p.listed p.line; line = [] }
  unfolding after_byte after_newline
  byte-newline p b t = rw t

  byte-other : (p : Progress) (b : ℕ) → eqb b 10 ≡ false → after_byte c weights p b ≡ record { listed = p.listed; line = p.line ++ (b ∷ []) }
  unfolding after_byte
  byte-other p b t = rw t

  -- what is left comes to after a progress
  abbrev rest : Progress → List ℕ → Listed
  rest p bytes = foldl (after_line c weights) p.listed (lines_from p.line bytes)

  rest-byte : (p : Progress) (b : ℕ) (bytes : List ℕ) → rest (after_byte c weights p b) bytes ≡ rest p (b ∷ bytes)
  unfolding lines_from
  rest-byte p b bytes = elim (either (eqb b 10)) [ inl t ↦ rw (byte-newline p b t, t) | inr t ↦ rw (byte-other p b t, t) ]

  lines-from : (p : Progress) (bytes : List ℕ) → after_end c weights (after_bytes c weights p bytes) ≡ rest p bytes
  unfolding after_end lines_from
  lines-from p [] = refl
  lines-from p (b ∷ bytes) = lines-from (after_byte c weights p b) bytes ∙ rest-byte p b bytes

  pub input-listed : (store input : List ℕ) → after_end c weights (after_bytes c weights (start store) input) ≡ listing c weights store input
  unfolding listing
  input-listed store input = lines-from (start store) input
