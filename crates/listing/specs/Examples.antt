-- Document 01, end of "Bench examples": what lines are, and what the five lines under card P come to, with the third line of document 02's
-- Item 6, as rows under one proposition. Assumes nothing.
use Rattle.std.specs.Prelude.{◌≡◌, ℕ, List, [], ◌∷◌, ◌++◌, replicate, refl}
use Rattle.field.specs.Bytes.{All, from_big_endian, to_big_endian, same_bytes}
use Rattle.field.specs.Shift.{shift_up}
use Rattle.field.specs.CheckBytes.{double, times_power, horner, syndromes}
use Rattle.droplet.specs.declared.card.Card.{Card}
use Rattle.droplet.specs.PoolCard.{number_at, weight_at, first_weights, segment_count, strand_bytes}
use Rattle.droplet.specs.Questions.{sizes_right, limits_right, weights_right, width_right, card_refusal}
use Rattle.correction.specs.Correction.{sums_zero, differs, distance, first_of, within, corrected}
use Rattle.screen.specs.Letters.{letter_bits, text_letters, letters_bases, all_letters, byte_bases, word_bases, letters_byte, letters_word}
use Rattle.screen.specs.Sites.{site_before, site_after}
use Rattle.screen.specs.Screen.{order_of, with_base, longest_of, longest_run, gc_count, measure_of, verdict, word_verdict, screen_passes}
use Rattle.strand.specs.ReadCheck.{strand_reading, word_reading, letters_reading, read_check}
use Rattle.decoder.specs.Store.{record_bytes, evidence_text, record_text, record_payload, record_state, record_count, record_from, records, find_seed, overwritten, appended, counted_again, unless_full, compared, store_record, store_reading, store_read}
use Rattle.decoder.specs.Demand3.{total_count}
use Rattle.vault.specs.BenchExamples.{card_p, weights, letters1, letters2, letters3, one_byte_wrong}
use Rattle.listing.specs.Listing.{Listed, last_line, lines_from, lines_of, after_answer, after_line, listing, behind}

pub data Row : Type 0 where
  cuts : List ℕ → List (List ℕ) → Row
  comes : List ℕ → List ℕ → Row

-- reads, accepted, repeated and refused, the count of records, and the reads behind them
abbrev pub numbers : Card → Listed → List ℕ
numbers c s = s.reads ∷ s.accepted ∷ s.repeated ∷ s.refused ∷ s.count ∷ behind c s ∷ []

abbrev pub Holds : Row → Type 0
Holds (cuts input lines) = lines_of input ≡ lines
Holds (comes input ns) = numbers (card_p 15 214) (listing (card_p 15 214) (weights 2 1) (replicate 31 9) input) ≡ ns

-- the first four lines, and AAAN
abbrev pub four : List ℕ
four = letters2 ++ (10 ∷ (letters1 ++ (10 ∷ (letters3 ++ (10 ∷ (letters1 ++ (10 ∷ [])))))))

abbrev pub last : List ℕ
last = 65 ∷ 65 ∷ 65 ∷ 78 ∷ []

-- the last row: a mended read, then the strand itself, which replaces it (document 02, Item 5)
abbrev pub rows : List Row
rows =
    cuts [] []
    ∷ cuts (10 ∷ []) ([] ∷ [])
    ∷ cuts (65 ∷ 10 ∷ 10 ∷ 67 ∷ []) ((65 ∷ []) ∷ [] ∷ (67 ∷ []) ∷ [])
    ∷ cuts (65 ∷ 13 ∷ 10 ∷ []) ((65 ∷ 13 ∷ []) ∷ [])
    ∷ comes (four ++ (last ++ (10 ∷ []))) (5 ∷ 3 ∷ 1 ∷ 1 ∷ 3 ∷ 4 ∷ [])
    ∷ comes (four ++ last) (5 ∷ 3 ∷ 1 ∷ 1 ∷ 3 ∷ 4 ∷ [])
    ∷ comes (10 ∷ []) (1 ∷ 0 ∷ 0 ∷ 1 ∷ 0 ∷ 0 ∷ [])
    ∷ comes [] (0 ∷ 0 ∷ 0 ∷ 0 ∷ 0 ∷ 0 ∷ [])
    ∷ comes (one_byte_wrong ++ (10 ∷ (letters1 ++ (10 ∷ [])))) (2 ∷ 1 ∷ 1 ∷ 0 ∷ 1 ∷ 2 ∷ [])
    ∷ []

pub examples : All Holds rows
unfolding last_line lines_from after_answer after_line listing to_big_endian from_big_endian times_power double shift_up horner syndromes card_refusal sizes_right limits_right weights_right width_right segment_count strand_bytes first_weights weight_at number_at letter_bits all_letters byte_bases word_bases letters_byte letters_word text_letters letters_bases site_before site_after order_of with_base longest_of longest_run gc_count measure_of verdict word_verdict screen_passes sums_zero differs distance first_of within corrected strand_reading word_reading letters_reading read_check record_bytes evidence_text record_text record_payload record_state record_count record_from records same_bytes find_seed overwritten appended counted_again unless_full compared store_record store_reading store_read total_count behind
examples = (refl, (refl, (refl, (refl, (refl, (refl, (refl, (refl, (refl, tt)))))))))
