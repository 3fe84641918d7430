-- What the read check says of a read near to a strand, when 11 says no, and that document 01's legal strings are the strands of legal seeds and
-- payloads. Assumes nothing.
use mathlib.Core.Path.{◌≡◌, refl, sym, ap, ◌∙◌}
use mathlib.Core.List.{List, ◌++◌}
use mathlib.Core.Logic.{inl, inr}
use Prim.Native.Nat.{ℕ}
use native.Mathlib.Omega.{arith}
use lib.Dec.{eqb}
use Rattle.field.specs.Bytes.{to_big_endian}
use Rattle.field.proofs.Tests.{either}
use Rattle.field.proofs.Parity.{parity-vanishes}
use Rattle.field.proofs.Syndromes.{checks-bounds}
use Rattle.droplet.specs.declared.card.Card.{Card}
use Rattle.droplet.specs.PoolCard.{strand_bytes}
use Rattle.correction.specs.Correction.{distance, Corrected, codeword, none, corrected}
use Rattle.correction.proofs.Distances.{distance-same, distance_none}
use Rattle.correction.proofs.ExactCorrection.{corrects-exactly}
use Rattle.correction.proofs.Codewords.{sums-vanish, vanish-sums}
use Rattle.screen.specs.Letters.{word_letters, letters_word}
use Rattle.screen.specs.Screen.{screen_passes}
use Rattle.screen.proofs.Spelling.{word_back, letters-all, letters-length, spelled-bytes, spelled-length, read_back}
use Rattle.strand.specs.ReadCheck.{droplet, refused, word_seed, word_payload, strand_reading, corrected_reading, word_reading, read_check, strand_word}
use Rattle.strand.specs.LegalStrand.{LegalStrand, bytes_apart, NearStrand, ElevenExactly, IsLegal, LegalExactly}
use Rattle.strand.proofs.ReadingCases.{strand-fits, case-11, case-word, case-letters}
use Rattle.strand.proofs.StrandWords.{strand-length, strand-bytes, strand-seed}
use Rattle.strand.proofs.CodewordParts.{seed-lt, payload-bytes, word-strand, payload-size}
use Rattle.strand.proofs.LetThrough.{not-refused, word, near}
use Rattle.strand.proofs.LegalStrands.{card-range, accepts-exactly}

-- ---- question 11

refused-same : {m n : ℕ} → refused m ≡ refused n → m ≡ n
refused-same e = cc

strand-not-11 : (c : Card) (word : List ℕ) (k : ℕ) → strand_reading c word k ≡ refused 11 → ⊥
unfolding strand_reading
strand-not-11 c word k reads =
    elim (either (eqb (word_seed word) 0)) [
      | inl z ↦ let n : ◌≡◌ {A = ℕ} 12 11 = refused-same (simp z at reads) in omega arith
      | inr z ↦
          elim (either (screen_passes c word)) [
            | inl x ↦ not-refused (sym (simp (z, x) at reads))
            | inr x ↦ let n : ◌≡◌ {A = ℕ} 13 11 = refused-same (simp (z, x) at reads) in omega arith
          ]
    ]

eleven-answer : (c : Card) (a : Corrected) → corrected_reading c a ≡ refused 11 → a ≡ none
eleven-answer c (codeword word k) reads = absurd (strand-not-11 c word k reads)
eleven-answer c none reads = refl

pub eleven-exactly : ElevenExactly
unfolding word_reading
eleven-exactly c weights read fine n letters =
    let range = card-range c weights fine in
    let spelt = spelled-length (strand_bytes c) read (omega (arith, n)) in
    let exact = corrects-exactly c.r (letters_word read) (checks-bounds range.check_count).1 (omega (arith, spelt, (strand-fits c range).1)) (spelled-bytes read) in
    let asked : read_check c weights read ≡ word_reading c (letters_word read) =
    case-letters c weights read fine ∙ case-word c read (omega (arith, n)) letters in (
      λ e. exact.missing.0 (eleven-answer c (corrected c.r (letters_word read)) (sym asked ∙ e)),
      λ f. asked ∙ case-11 c (letters_word read) (exact.missing.1 f),
    )

-- ---- reads near to a strand

-- what is near to a strand that is accepted as it is, is accepted with its seed and payload
pub near-accepted : (c : Card) (weights strand read : List ℕ) (seed : ℕ) (p : List ℕ) → read_check c weights strand ≡ droplet seed p 0
    → NearStrand c strand read → read_check c weights read ≡ droplet seed p (bytes_apart strand read)
near-accepted c weights strand read seed p clean near =
    let spelt = (accepts-exactly c weights strand seed p 0).0 clean in
    let word = word_letters (strand_word c seed p) in
    let long = spelled-length (strand_bytes c) word (omega (arith, letters-length (strand_word c seed p), strand-length c seed p spelt.strand.size)) in
    let short = spelled-length (strand_bytes c) strand (omega (arith, spelt.near.bases)) in
    let same : letters_word word ≡ letters_word strand =
    distance_none (letters_word word) (letters_word strand) (long ∙ sym short) (omega (arith, spelt.number)) in
    let apart : bytes_apart word read ≡ bytes_apart strand read = ap (λ (w : List ℕ). distance w (letters_word read)) same in
    (accepts-exactly c weights read seed p (bytes_apart strand read)).1
    (record {
      strand = spelt.strand;
      near = record { bases = near.bases; letters = near.letters; close = omega (arith, apart, near.close) };
      number = apart;
    })

-- a legal strand itself is accepted as it is
pub clean-accepted : (c : Card) (weights : List ℕ) (seed : ℕ) (p : List ℕ) → LegalStrand c weights seed p
    → read_check c weights (word_letters (strand_word c seed p)) ≡ droplet seed p 0
clean-accepted c weights seed p h =
    let word = strand_word c seed p in
    (accepts-exactly c weights (word_letters word) seed p 0).1
    (record {
      strand = h;
      near = record {
        bases = omega (arith, letters-length word, strand-length c seed p h.size);
        letters = letters-all word;
        close = omega (arith, distance-same (letters_word (word_letters word)));
      };
      number = distance-same (letters_word (word_letters word));
    })

-- a read that is accepted as it is, is the strand of its seed and payload
pub clean-read : (c : Card) (weights read : List ℕ) (seed : ℕ) (p : List ℕ) → read_check c weights read ≡ droplet seed p 0
    → read ≡ word_letters (strand_word c seed p)
clean-read c weights read seed p clean =
    let spelt = (accepts-exactly c weights read seed p 0).0 clean in
    let word = strand_word c seed p in
    let long = spelled-length (strand_bytes c) (word_letters word) (omega (arith, letters-length word, strand-length c seed p spelt.strand.size)) in
    let short = spelled-length (strand_bytes c) read (omega (arith, spelt.near.bases)) in
    let same : letters_word (word_letters word) ≡ letters_word read =
    distance_none (letters_word (word_letters word)) (letters_word read) (long ∙ sym short) (omega (arith, spelt.number)) in
    sym (read_back (strand_bytes c) read (omega (arith, spelt.near.bases)) spelt.near.letters)
    ∙ ap word_letters (sym same ∙ word_back word (strand-bytes c seed p spelt.strand.bytes))

-- ---- legal strings

legal-strand : (c : Card) (weights string : List ℕ) → IsLegal c weights string
    → (seed : ℕ) × (payload : List ℕ) × LegalStrand c weights seed payload × (string ≡ word_letters (strand_word c seed payload))
legal-strand c weights string h =
    let few = (checks-bounds (card-range c weights h.card).check_count).1 in
    let word = letters_word string in
    let size = spelled-length (strand_bytes c) string (omega (arith, h.bases)) in
    let bytes = spelled-bytes string in
    let strand = word-strand c few word size bytes (sums-vanish c.r word few h.sums) in (
      word_seed word,
      word_payload c word,
      record {
        card = h.card;
        nonzero = h.nonzero;
        fits = seed-lt c few word size bytes;
        size = payload-size c word size;
        bytes = payload-bytes c few word size bytes;
        screened = rw (← strand) h.screened;
      },
      rw (← strand) (sym (read_back (strand_bytes c) string (omega (arith, h.bases)) h.letters)),
    )

strand-legal : (c : Card) (weights string : List ℕ) (seed : ℕ) (p : List ℕ) → LegalStrand c weights seed p → string ≡ word_letters (strand_word c seed p)
    → IsLegal c weights string
strand-legal c weights string seed p h e =
    let few = (checks-bounds (card-range c weights h.card).check_count).1 in
    let word = strand_word c seed p in
    let same : letters_word string ≡ word = ap letters_word e ∙ word_back word (strand-bytes c seed p h.bytes) in
    record {
      card = h.card;
      bases = rw e (omega (arith, letters-length word, strand-length c seed p h.size));
      letters = rw e (letters-all word);
      sums = rw same (vanish-sums c.r word few (unfold strand_word in parity-vanishes c.r (to_big_endian seed ++ p)));
      nonzero = rw (same, strand-seed c seed p h.fits) h.nonzero;
      screened = rw same h.screened;
    }

pub legal-exactly : LegalExactly
legal-exactly c weights string = (
  legal-strand c weights string,
  λ l. strand-legal c weights string l.0 l.1 l.2 l.3,
)
