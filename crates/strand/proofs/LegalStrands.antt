-- The read check accepts exactly the reads within R/2 bytes of a legal strand, and gives back its seed, its payload and the number of bytes.
-- Assumes nothing.
use mathlib.Core.Path.{◌≡◌, sym, ap₂, ◌∙◌}
use mathlib.Core.Bool.{false}
use mathlib.Core.List.{List, ◌++◌}
use mathlib.Core.Logic.{inl, inr}
use Prim.Native.Nat.{ℕ, ◌<◌, ◌≤◌}
use native.Mathlib.Omega.{arith}
use borrow.Author.Tests.{eq-eqb, ne_eqb, eqb-true, eqb-false}
use lib.Dec.{eqb}
use lib.ListN.{length}
use Rattle.field.specs.Bytes.{to_big_endian}
use Rattle.field.proofs.Tests.{either}
use Rattle.field.proofs.Parity.{parity-vanishes}
use Rattle.field.proofs.Syndromes.{checks-bounds}
use Rattle.droplet.specs.declared.card.Card.{Card}
use Rattle.droplet.specs.PoolCard.{strand_bytes}
use Rattle.droplet.specs.Questions.{card_refusal}
use Rattle.droplet.proofs.LegalCard.{legal}
use Rattle.correction.specs.Correction.{distance, codeword, corrected, Near}
use Rattle.correction.proofs.ExactCorrection.{corrects-exactly}
use Rattle.screen.specs.Letters.{word_letters, letters_word}
use Rattle.screen.proofs.Spelling.{word_back, spelled-bytes, spelled-length}
use Rattle.strand.specs.ReadCheck.{droplet, word_seed, strand_reading, letters_reading, read_check, strand_word}
use Rattle.strand.specs.Loops.{InRange}
use Rattle.strand.specs.LegalStrand.{LegalStrand, bytes_apart, NearLegal, AcceptsExactly}
use Rattle.strand.proofs.ReadingCases.{strand-fits, case-corrected, case-letters}
use Rattle.strand.proofs.StrandWords.{strand-length, strand-bytes, strand-seed, strand-payload}
use Rattle.strand.proofs.CodewordParts.{seed-lt, payload-bytes, word-strand}
use Rattle.strand.proofs.LetThrough.{not-refused, StrandThrough, let_through, word, word-said, near, word_size, letters-payload}

-- ---- the theorem

pub card-range : (c : Card) (weights : List ℕ) → card_refusal c weights ≡ 0 → InRange c
card-range c weights fine =
    let sizes = (legal c weights fine).sizes in record { l_most = sizes.l_most; check_count = sizes.check_count }

module _ (c : Card) (weights read : List ℕ) (seed : ℕ) (p : List ℕ) (k : ℕ) where
  card-fine : read_check c weights read ≡ droplet seed p k → card_refusal c weights ≡ 0
  unfolding read_check
  card-fine e =
      elim (either (eqb (card_refusal c weights) 0)) [
        | inl t ↦ eqb-true (card_refusal c weights) 0 t
        | inr t ↦ absurd (not-refused (simp t at e))
      ]

  module _ (e : read_check c weights read ≡ droplet seed p k) where
    fine : card_refusal c weights ≡ 0
    fine = card-fine e

    range : InRange c
    range = card-range c weights fine

    letters : letters_reading c read ≡ droplet seed p k
    letters = sym (case-letters c weights read fine) ∙ e

    the_word : List ℕ
    the_word = word c read seed p k letters range

    through : StrandThrough c the_word seed p
    unfolding the_word
    through = word-said c read seed p k letters range

    close-by : Near c.r (letters_word read) the_word × (distance the_word (letters_word read) ≡ k)
    unfolding the_word
    close-by = near c read seed p k letters range

    size : length the_word ≡ strand_bytes c
    unfolding the_word
    size = word_size c read seed p k letters range

    few : c.r ≤ 4
    few = (checks-bounds range.check_count).1

    strand : the_word ≡ strand_word c seed p
    strand =
        word-strand c few the_word size close-by.0.bytes close-by.0.sums
        ∙ ap₂ (strand_word c) through.seed-is through.payload-is

    legal-strand : LegalStrand c weights seed p
    legal-strand =
        let is-seed = through.seed-is in
        let is-payload = through.payload-is in
        let positive = eqb-false (word_seed the_word) 0 through.nonzero in
        record {
          card = fine;
          nonzero = rw is-seed at (let z : 0 < word_seed the_word = omega arith in z);
          fits = rw is-seed at (seed-lt c few the_word size close-by.0.bytes);
          size = letters-payload c read seed p k letters range;
          bytes = rw is-payload at (payload-bytes c few the_word size close-by.0.bytes);
          screened = rw (← strand) through.passes;
        }

    apart : bytes_apart (word_letters (strand_word c seed p)) read ≡ k
    apart = rw (word_back (strand_word c seed p) (strand-bytes c seed p legal-strand.bytes), ← strand) close-by.1

    spells : NearLegal c weights read seed p k
    spells =
        let through = let_through c read seed p k letters in
        let near = close-by in
        record {
          strand = legal-strand;
          near = record {
            bases = omega (arith, through.bases);
            letters = through.all;
            close = omega (arith, apart, near.1, near.0.close);
          };
          number = apart;
        }

  accepted : NearLegal c weights read seed p k → read_check c weights read ≡ droplet seed p k
  unfolding read_check letters_reading strand_reading
  accepted h =
      let range = card-range c weights h.strand.card in
      let word = strand_word c seed p in
      let back : letters_word (word_letters word) ≡ word = word_back word (strand-bytes c seed p h.strand.bytes) in
      let spelled = spelled-length (strand_bytes c) read (omega (arith, h.near.bases)) in
      let long = strand-length c seed p h.strand.size in
      let close : Near c.r (letters_word read) word = record {
        bytes = strand-bytes c seed p h.strand.bytes;
        size = long ∙ sym spelled;
        sums = (unfold strand_word in parity-vanishes c.r (to_big_endian seed ++ p));
        close = rw back at h.near.close;
      } in
      let eleven : corrected c.r (letters_word read) ≡ codeword word k =
      ((corrects-exactly c.r (letters_word read) (checks-bounds range.check_count).1 (omega (arith, spelled, (strand-fits c range).1)) (spelled-bytes read)).found word k).1
      (close, rw back at h.number) in
      let twelve : eqb seed 0 ≡ false = ne_eqb seed 0 (λ z. omega (arith, h.strand.nonzero)) in
      rw (eq-eqb _ _ h.strand.card, eq-eqb _ _ h.near.bases, h.near.letters, case-corrected c (letters_word read) word k eleven, strand-seed c seed p h.strand.fits, twelve, h.strand.screened, strand-payload c seed p h.strand.size)

pub accepts-exactly : AcceptsExactly
accepts-exactly c weights read seed p k = (spells c weights read seed p k, accepted c weights read seed p k)
