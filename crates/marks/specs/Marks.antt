-- Document 02, Item 11: eight marks to a byte. Plain marks are those of document 01, one to a byte, 1 or 0. Assumes nothing.
use Rattle.std.specs.Prelude.{List, [], ◌∷◌, ◌++◌, ℕ, zero, suc, ◌+◌, ◌*◌, ◌/◌, ◌%◌, ◌^◌, length, get_or, take, drop, set}
use Rattle.std.specs.Int.Bits.{bit_or}
use Rattle.field.specs.Bytes.{table_of}

-- "K/8 bytes, rounded up"
unfoldable pub mark_bytes : ℕ → ℕ
mark_bytes K = (K + 7) / 8

-- "segment i is bit i modulo 8 of byte i divided by 8, lowest bit first": its mark, 1 or 0
unfoldable pub mark_at : List ℕ → ℕ → ℕ
mark_at marks i = get_or marks (i / 8) 0 / 2 ^ (i % 8) % 2

-- the same bytes with the mark of segment i set
unfoldable pub with_mark : List ℕ → ℕ → List ℕ
with_mark marks i = set marks (i / 8) (bit_or (get_or marks (i / 8) 0) (2 ^ (i % 8)))

-- "unpacking": the plain marks of K segments; "bits from K on in marks handed in are ignored"
unfoldable pub unpacked : ℕ → List ℕ → List ℕ
unpacked K marks = table_of K (mark_at marks)

-- all the marks that some bytes have a bit for
unfoldable pub all_marks : List ℕ → List ℕ
all_marks marks = unpacked (length marks * 8) marks

-- the byte of eight plain marks, the first in its lowest bit; where there are fewer, the "unused bits" are 0
unfoldable pub mark_byte : List ℕ → ℕ
mark_byte [] = 0
mark_byte (m ∷ ms) = m + 2 * mark_byte ms

-- plain marks in n bytes
unfoldable pub packed : ℕ → List ℕ → List ℕ
packed zero plain = []
packed (suc n) plain = mark_byte (take 8 plain) ∷ packed n (drop 8 plain)

-- the plain marks of K segments in the front of a lent buffer: "the bytes past these keep what they had"
unfoldable pub packed_into : List ℕ → ℕ → List ℕ → List ℕ
packed_into lent K plain = packed (mark_bytes K) plain ++ drop (mark_bytes K) lent
