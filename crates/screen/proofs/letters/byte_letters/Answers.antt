-- `byte_letters` meets its contract: each letter is that of a base of the byte. Assumes nothing.
use mathlib.Core.Path.{◌≡◌, ◌∙◌, ap}
use mathlib.Core.List.{List, [], ◌∷◌}
use Prim.Native.Nat.{ℕ, ◌<◌}
use native.Mathlib.Omega.{arith}
use lib.Dec.{lit<}
use lib.ListN.{length, get_or}
use Rattle.screen.specs.Letters.{letter_of, byte_letters, byte_bases}
use Rattle.screen.proofs.letters.byte_letters.Goals as goal

-- four letters, each that of its base
four : (b : ℕ) (letters : List ℕ) → length letters ≡ 4 → ((k : ℕ) → k < 4 → get_or letters k 0 ≡ letter_of (get_or (byte_bases b) k 0))
    → letters ≡ byte_letters b
unfolding byte_bases byte_letters
four b (w ∷ (x ∷ (y ∷ (z ∷ [])))) long at = rw (at 0 (lit< tt), at 1 (lit< tt), at 2 (lit< tt), at 3 (lit< tt))
four b [] long at = absurd (let z : ⊥ = omega arith in z)
four b (w ∷ []) long at = absurd (let z : ⊥ = omega arith in z)
four b (w ∷ (x ∷ [])) long at = absurd (let z : ⊥ = omega arith in z)
four b (w ∷ (x ∷ (y ∷ []))) long at = absurd (let z : ⊥ = omega arith in z)
four b (w ∷ (x ∷ (y ∷ (z ∷ (more ∷ rest))))) long at = absurd (let z : ⊥ = omega arith in z)

pub returns : goal.returns
returns c =
    let items = c.map.ensures.items in
    four c.args.b c.map.result items.long
    (λ k h. (items.at k 0 0 h).2.met ∙ ap (λ (bases : List ℕ). letter_of (get_or bases k 0)) c.byte_bases.ensures)
