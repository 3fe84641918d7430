-- Pairs of calls under document 01's bench card, as rows under one proposition: our own, for document 02 has no example for Item 8. Assumes
-- nothing.
use Rattle.std.specs.Prelude.{◌≡◌, refl, Bool, true, false, List, [], ◌∷◌, ◌++◌, ℕ, take, drop}
use Rattle.field.specs.Bytes.{All, from_big_endian, same_bytes}
use Rattle.field.specs.Shift.{shift_up}
use Rattle.field.specs.CheckBytes.{double, times_power, horner, syndromes}
use Rattle.droplet.specs.declared.card.Card.{Card}
use Rattle.droplet.specs.PoolCard.{number_at, weight_at, first_weights, segment_count, strand_bytes, strand_bases}
use Rattle.droplet.specs.Questions.{sizes_right, limits_right, weights_right, width_right, card_refusal}
use Rattle.correction.specs.Correction.{sums_zero, differs, distance, first_of, within, corrected}
use Rattle.screen.specs.Letters.{letter_bits, text_letters, letters_bases, all_letters, byte_bases, word_bases, letters_byte, letters_word}
use Rattle.screen.specs.Sites.{site_before, site_after}
use Rattle.screen.specs.Screen.{order_of, with_base, longest_of, longest_run, gc_count, measure_of, verdict, word_verdict, screen_passes}
use Rattle.strand.specs.ReadCheck.{strand_reading, word_reading, letters_reading}
use Rattle.basecalls.specs.TwoCallers.{sites_right, middle, call_passes, Choice, first, second, refused, first_passing, choose_call, lender, part_start, part_size}

-- card P with another L, or with the fourth field and a W of 1
abbrev pub card_p : ℕ → Bool → Card
card_p L there = record { f = 4; l = L; r = 2; m = 15; lo = 214; hi = 1000; interleaved = there; width = 1 }

-- the strand of seed 1 and, one byte of it misread, its first four letters; that of seed 2
abbrev pub strand1 : List ℕ
strand1 = text_letters "AAAAAAAAAAAAAAACTGCAATCGTCAT"

abbrev pub one_byte_wrong : List ℕ
one_byte_wrong = text_letters "TTTTAAAAAAAAAAACTGCAATCGTCAT"

abbrev pub strand2 : List ℕ
strand2 = text_letters "AAAAAAAAAAAAAAAGCGGCGTCCTCTG"

-- a strand as it was ordered
abbrev pub ordered : List ℕ → List ℕ
ordered strand = site_before ++ (strand ++ site_after)

-- what the two calls are, what is chosen, and the letters handed back
pub data Row : Type 0 where
  pair : Card → List ℕ → List ℕ → Choice → List ℕ → Row

abbrev pub Holds : Row → Type 0
Holds (pair c call call' choice letters) =
    (choose_call c (0 ∷ 0 ∷ 0 ∷ 1 ∷ 0 ∷ 0 ∷ 0 ∷ 1 ∷ []) call call' ≡ choice)
    × (take (part_size (strand_bases c) choice) (drop (part_start choice) (lender choice call call')) ≡ letters)

-- in their order: both pass; the first is mended; its first letter is another, a letter of the site after it is small, its last one is
-- missing, its sites are swapped; neither passes; a card with L 0, and one with W 1
abbrev pub rows : List Row
rows =
    pair (card_p 1 false) (ordered strand1) (ordered strand2) first strand1
    ∷ pair (card_p 1 false) (ordered one_byte_wrong) (ordered strand1) first one_byte_wrong
    ∷ pair (card_p 1 false) (text_letters "CTTTCAGAGTTCTACAGTCCGACGATCAAAAAAAAAAAAAAACTGCAATCGTCATTGGAATTCTCGGGTGCCAAGG") (ordered one_byte_wrong) second one_byte_wrong
    ∷ pair (card_p 1 false) (text_letters "GTTTCAGAGTTCTACAGTCCGACGATCAAAAAAAAAAAAAAACTGCAATCGTCATTGGAATTCTCGGGTGCCAAGg") (ordered strand2) second strand2
    ∷ pair (card_p 1 false) (text_letters "GTTTCAGAGTTCTACAGTCCGACGATCAAAAAAAAAAAAAAACTGCAATCGTCATTGGAATTCTCGGGTGCCAAG") (ordered strand2) second strand2
    ∷ pair (card_p 1 false) (site_after ++ (strand1 ++ site_before)) (ordered strand2) second strand2
    ∷ pair (card_p 1 false) strand1 (ordered (text_letters "AAAAAAAAAAAAAAACTGCAATCGTCAN")) (refused 21) []
    ∷ pair (card_p 0 false) (ordered strand1) (ordered strand2) (refused 2) []
    ∷ pair (card_p 1 true) strand1 strand2 (refused 27) []
    ∷ []

pub examples : All Holds rows
unfolding choose_call first_passing call_passes sites_right middle same_bytes site_before site_after text_letters card_refusal sizes_right limits_right weights_right width_right segment_count strand_bytes first_weights weight_at number_at from_big_endian strand_reading word_reading letters_reading corrected within first_of distance differs sums_zero syndromes horner times_power double shift_up screen_passes word_verdict verdict measure_of gc_count longest_run longest_of with_base order_of letters_bases word_bases byte_bases all_letters letter_bits letters_word letters_byte
examples = (
  (refl, refl),
  ((refl, refl), ((refl, refl), ((refl, refl), ((refl, refl), ((refl, refl), ((refl, refl), ((refl, refl), ((refl, refl), tt)))))))),
)
