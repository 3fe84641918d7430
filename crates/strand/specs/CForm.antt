-- Document 01, "Shelf": "The read check's C form takes the same inputs and a lent buffer"; and the card of what a C host hands over, with
-- the two numbers of document 02, Item 14. Assumes nothing.
use Rattle.std.specs.Prelude.{cond, not, List, ◌++◌, ℕ, ◌+◌, eqb, leb, length, drop}
use Rattle.field.specs.Bytes.{to_big_endian}
use Rattle.droplet.specs.declared.card.Card.{Card}
use Rattle.strand.specs.ReadCheck.{Reading, droplet, refused}

-- the card of the numbers that a C host hands over: the fourth field is there unless `dealt` is 0
abbrev pub handed_card : ℕ → ℕ → ℕ → ℕ → ℕ → ℕ → ℕ → ℕ → Card
handed_card f l r m lo hi dealt width = record { f = f; l = l; r = r; m = m; lo = lo; hi = hi; interleaved = not (eqb dealt 0); width = width }

-- the number returned, and the lent buffer after it
pub data CAnswer : Type 0 where
  handed : ℕ → List ℕ → CAnswer

-- "For an accepted read it writes the seed and the L payload bytes into the buffer's first 4 + L bytes, leaves the others as
-- they were and returns 0. Otherwise it returns the refusal number"; 16: "buffer at least 4 + L bytes?". For a read that was corrected
-- "the C form still returns 0" (document 02, Item 3)
unfoldable pub droplet_over : ℕ → List ℕ → ℕ → List ℕ → CAnswer
droplet_over L out seed payload =
    cond (leb (4 + L) (length out)) (handed 0 (to_big_endian seed ++ (payload ++ drop (4 + L) out))) (handed 16 out)

unfoldable pub handed_over : ℕ → List ℕ → Reading → CAnswer
handed_over L out (refused n) = handed n out
handed_over L out (droplet seed payload k) = droplet_over L out seed payload
