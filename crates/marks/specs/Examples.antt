-- Marks as bits, as rows under one proposition: document 02's "bench marks 0 1 1 1 become hex 0E", and our own. Assumes nothing.
use Rattle.std.specs.Prelude.{◌≡◌, refl, List, [], ◌∷◌, ℕ, length}
use Rattle.field.specs.Bytes.{All, table_of}
use Rattle.marks.specs.Marks.{mark_bytes, mark_at, with_mark, unpacked, mark_byte, packed, packed_into}

pub data Row : Type 0 where
  packs : List ℕ → List ℕ → List ℕ → Row
  takes : ℕ → ℕ → Row
  sets : List ℕ → ℕ → List ℕ → Row
  reads : List ℕ → List ℕ → Row

abbrev pub Holds : Row → Type 0
Holds (packs plain lent marks) = (packed_into lent (length plain) plain ≡ marks) × (unpacked (length plain) marks ≡ plain)
Holds (takes K n) = mark_bytes K ≡ n
Holds (sets marks i marks') = with_mark marks i ≡ marks'
Holds (reads marks plain) = unpacked (length plain) marks ≡ plain

-- the bench marks over lent bytes of ones; one mark, eight and nine; the bytes that marks take; a mark that is set in a byte, in another, and
-- twice; marks handed in with bits from K on
abbrev pub rows : List Row
rows =
    packs (0 ∷ 1 ∷ 1 ∷ 1 ∷ []) (0xFF ∷ []) (0x0E ∷ [])
    ∷ packs (1 ∷ []) (0xFF ∷ 0xFF ∷ []) (0x01 ∷ 0xFF ∷ [])
    ∷ packs (0 ∷ 1 ∷ 1 ∷ 1 ∷ 0 ∷ 0 ∷ 0 ∷ 1 ∷ []) (0xFF ∷ 0xFF ∷ []) (0x8E ∷ 0xFF ∷ [])
    ∷ packs (0 ∷ 1 ∷ 1 ∷ 1 ∷ 0 ∷ 0 ∷ 0 ∷ 0 ∷ 1 ∷ []) (0xFF ∷ 0xFF ∷ 0xFF ∷ []) (0x0E ∷ 0x01 ∷ 0xFF ∷ [])
    ∷ takes 1 1
    ∷ takes 7 1
    ∷ takes 8 1
    ∷ takes 9 2
    ∷ takes 131072 16384
    ∷ sets (0x0C ∷ 0x80 ∷ []) 1 (0x0E ∷ 0x80 ∷ [])
    ∷ sets (0x0C ∷ 0x80 ∷ []) 8 (0x0C ∷ 0x81 ∷ [])
    ∷ sets (0x0E ∷ []) 1 (0x0E ∷ [])
    ∷ reads (0xFE ∷ []) (0 ∷ 1 ∷ 1 ∷ 1 ∷ [])
    ∷ []

pub examples : All Holds rows
unfolding mark_bytes mark_at with_mark unpacked table_of mark_byte packed packed_into
examples = ((refl, refl), ((refl, refl), ((refl, refl), ((refl, refl), (refl, (refl, (refl, (refl, (refl, (refl, (refl, (refl, (refl, tt)))))))))))))
