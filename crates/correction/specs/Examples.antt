-- Our own examples of document 02's Item 3 with R = 4, for which the search is too long to be computed: seed 1, payload E4 and four check
-- bytes, read as it is, with its last byte wrong, and with its first and last bytes wrong. Assumes nothing.
use Rattle.std.specs.Prelude.{◌≡◌, List, [], ◌∷◌, ℕ}
use Rattle.field.specs.Bytes.{All}
use Rattle.correction.specs.Correction.{codeword, corrected}

abbrev pub strand : List ℕ
strand = 0x00 ∷ 0x00 ∷ 0x00 ∷ 0x01 ∷ 0xE4 ∷ 0x96 ∷ 0x02 ∷ 0x29 ∷ 0x58 ∷ []

abbrev pub last_wrong : List ℕ
last_wrong = 0x00 ∷ 0x00 ∷ 0x00 ∷ 0x01 ∷ 0xE4 ∷ 0x96 ∷ 0x02 ∷ 0x29 ∷ 0x5B ∷ []

abbrev pub both_wrong : List ℕ
both_wrong = 0xC0 ∷ 0x00 ∷ 0x00 ∷ 0x01 ∷ 0xE4 ∷ 0x96 ∷ 0x02 ∷ 0x29 ∷ 0x5B ∷ []

-- a read, and in how many bytes it is wrong
pub data Row : Type 0 where
  wrong : List ℕ → ℕ → Row

abbrev pub Holds : Row → Type 0
Holds (wrong read k) = corrected 4 read ≡ codeword strand k

abbrev pub rows : List Row
rows = wrong strand 0 ∷ wrong last_wrong 1 ∷ wrong both_wrong 2 ∷ []

abbrev pub Examples : Type 0
Examples = All Holds rows
