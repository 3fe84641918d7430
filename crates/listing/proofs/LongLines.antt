-- A line that is longer than the line's buffer is answered as its front that fits the buffer: neither has the length of a strand.
-- Assumes nothing.
use Rattle.std.proofs.Common.{◌≡◌, ℕ, ◌<◌, ◌≤◌, eqb, leb, List, length, take, ap, inl, inr, arith, length-take, take_all, ne_eqb, eqb-true, leb-false, leb-true}
use Rattle.field.proofs.Tests.{either}
use Rattle.droplet.specs.declared.card.Card.{Card}
use Rattle.droplet.specs.PoolCard.{strand_bytes, strand_bases}
use Rattle.droplet.specs.Questions.{card_refusal}
use Rattle.droplet.proofs.LegalCard.{legal}
use Rattle.strand.specs.ReadCheck.{refused, letters_reading, read_check}
use Rattle.decoder.specs.Store.{store_read}

module _ (c : Card) where
  -- no strand has this length
  no-strand : (read : List ℕ) → strand_bytes c ≤ 72 → 288 < length read → letters_reading c read ≡ refused 9
  unfolding letters_reading
  no-strand read short long = rw (ne_eqb (length read) (strand_bases c) (λ e. omega arith))

  module _ (w : ℕ) (wide : 289 ≤ w) (line : List ℕ) where
    letters-cut : strand_bytes c ≤ 72 → letters_reading c (take w line) ≡ letters_reading c line
    letters-cut short =
        elim (either (leb (length line) w)) [
          | inl t ↦ ap (letters_reading c) (take_all w line (leb-true (length line) w t))
          | inr t ↦
              let long = leb-false (length line) w t in
              rw (no-strand line short (omega arith), no-strand (take w line) short (rw length-take (omega arith)))
        ]

    reading-cut : (weights : List ℕ) → read_check c weights (take w line) ≡ read_check c weights line
    unfolding read_check
    reading-cut weights =
        elim (either (eqb (card_refusal c weights) 0)) [
          | inl t ↦ rw t (letters-cut (legal c weights (eqb-true (card_refusal c weights) 0 t)).sizes.strand-most)
          | inr t ↦ rw t
        ]

    pub long-line : (weights buffer : List ℕ) (count : ℕ) → store_read c weights buffer count (take w line) ≡ store_read c weights buffer count line
    unfolding store_read
    long-line weights buffer count = rw (reading-cut weights)
