-- Document 01, "Bench examples": all starred lines, each part of each, and then examples of document 02's Item 1 and our own of Items 3, 5,
-- 12, 2 and 14, as rows of one list under one proposition, over the definitions that the contracts cite. Assumes nothing.
use Rattle.std.specs.Prelude.{◌≡◌, refl, Bool, true, false, List, [], ◌∷◌, ◌++◌, map, ℕ, zero, suc, ◌+◌, ◌*◌, replicate}
use Rattle.field.specs.declared.generator.Draw.{Draw}
use Rattle.field.specs.Bytes.{All, from_big_endian, to_big_endian, xor_lists, padded, same_bytes, table_of}
use Rattle.field.specs.Shift.{shift_up}
use Rattle.field.specs.Generator.{of_seed, after_draw, number_drawn, xorshift, seed_after}
use Rattle.field.specs.CheckBytes.{double, times_power, horner, syndromes, by_root, multiple, remainder_after, parity}
use Rattle.droplet.specs.declared.card.Card.{Card}
use Rattle.droplet.specs.PoolCard.{number_at, to_two_bytes, field_bytes, width_field, card_bytes, weights_end, width_there, card_numbers, well_formed, card_weights, weight_count, weight_at, first_weights, segment_count, strand_bytes, strand_bases}
use Rattle.droplet.specs.Questions.{sizes_right, limits_right, weights_right, width_right, card_refusal, card_reading_refusal, CardRead, card_reading}
use Rattle.droplet.specs.CardCutter.{Cut, cut, CutEnd, ended, cut_card}
use Rattle.droplet.specs.Droplet.{degree_from, degree, member, pick_from, degree_of, segments_of, segment, payload}
use Rattle.interleave.specs.Interleaving.{with_remainder, first_columns, interleave, column_start, interleaved_place, deinterleave, reordered}
use Rattle.interleave.specs.InterleaveCalls.{both_long, reorder_refusal, Reordered, done, ReorderEnd, file_reordered, reorder_file}
use Rattle.correction.specs.Correction.{sums_zero, differs, distance, first_of, within, corrected}
use Rattle.screen.specs.Letters.{letter_of, letter_bits, text_letters, letters_bases, all_letters, byte_bases, word_bases, byte_letters, word_letters, letters_byte, letters_word}
use Rattle.screen.specs.Sites.{site_before, site_after}
use Rattle.screen.specs.Screen.{order_of, with_base, longest_of, longest_run, gc_count, measure_of, verdict, word_verdict, screen_passes}
use Rattle.strand.specs.declared.writer.Stop.TheVariants.{Done, Spent}
use Rattle.strand.specs.ReadCheck.{Reading, droplet, refused, strand_reading, word_reading, letters_reading, read_check, strand_word}
use Rattle.strand.specs.Writer.{seed_word, one_try, write_from, writer_run, own_refusal, writer_refusal, Written, written, writer_answer}
use Rattle.decoder.specs.Store.{LegalRead, Record, accepted, replaced, repeat, Kept, kept, record_bytes, evidence_text, record_text, record_payload, record_state, record_count, record_from, records, find_seed, overwritten, appended, counted_again, unless_full, compared, store_record, store_reading, store_read}
use Rattle.decoder.specs.Store.Stored.{refusal}
use Rattle.decoder.specs.Demand3.{those, best_of, count_of, counted_record}
use Rattle.decoder.specs.Restorer.{droplets, marked, missing, known, filled, filled_by, step, pass, present, peel, cleared, peel_all, contradicts, contradictions, has_seed, room_refusal, later_refusal, restore_refusal, restored, RestoreEnd, restore_end, restore}

-- card P's bytes
abbrev pub bytes_p : List ℕ
bytes_p =
    0x01 ∷ 0x00 ∷ 0x06 ∷ 0x00 ∷ 0x00 ∷ 0x00 ∷ 0x04 ∷ 0x01 ∷ 0x02 ∷ 0x02 ∷ 0x00 ∷ 0x05 ∷ 0x0F ∷ 0x00 ∷ 0xD6 ∷ 0x03 ∷ 0xE8 ∷ 0x03 ∷ 0x00 ∷ 0x08
    ∷ 0x00 ∷ 0x00 ∷ 0x00 ∷ 0x01 ∷ 0x00 ∷ 0x00 ∷ 0x00 ∷ 0x01 ∷ []

-- card P with other limits, or with another m and lo alone, D weights of one value (P's are 2 of value 1), and file Q
abbrev pub limits_p : ℕ → ℕ → ℕ → Card
limits_p m lo hi = record { f = 4; l = 1; r = 2; m = m; lo = lo; hi = hi; interleaved = false; width = 0 }

abbrev pub card_p : ℕ → ℕ → Card
card_p m lo = limits_p m lo 1000

abbrev pub weights : ℕ → ℕ → List ℕ
weights zero value = []
weights (suc D) value = 0 ∷ 0 ∷ 0 ∷ value ∷ weights D value

abbrev pub file_q : List ℕ
file_q = 0x1B ∷ 0x27 ∷ 0x4E ∷ 0xE4 ∷ []

-- a pool of seven bytes that is dealt with W 3, or with another W: card, file and dealt file
abbrev pub card_w : ℕ → Card
card_w W = record { f = 7; l = 1; r = 2; m = 15; lo = 214; hi = 1000; interleaved = true; width = W }

abbrev pub bytes_w : List ℕ
bytes_w =
    0x01 ∷ 0x00 ∷ 0x06 ∷ 0x00 ∷ 0x00 ∷ 0x00 ∷ 0x07 ∷ 0x01 ∷ 0x02 ∷ 0x02 ∷ 0x00 ∷ 0x05 ∷ 0x0F ∷ 0x00 ∷ 0xD6 ∷ 0x03 ∷ 0xE8 ∷ 0x03 ∷ 0x00 ∷ 0x08
    ∷ 0x00 ∷ 0x00 ∷ 0x00 ∷ 0x01 ∷ 0x00 ∷ 0x00 ∷ 0x00 ∷ 0x01 ∷ 0x04 ∷ 0x00 ∷ 0x04 ∷ 0x00 ∷ 0x00 ∷ 0x00 ∷ 0x03 ∷ []

abbrev pub file_w : List ℕ
file_w = 0xA0 ∷ 0xA1 ∷ 0xA2 ∷ 0xA3 ∷ 0xA4 ∷ 0xA5 ∷ 0xA6 ∷ []

abbrev pub dealt_w : List ℕ
dealt_w = 0xA0 ∷ 0xA3 ∷ 0xA6 ∷ 0xA1 ∷ 0xA4 ∷ 0xA2 ∷ 0xA5 ∷ []

-- what an example asks, with its answer
pub data Row : Type 0 where
  cards : List ℕ → Card → List ℕ → Row
  draws : ℕ → List ℕ → Row
  picks : ℕ → List ℕ → List ℕ → Row
  checks : List ℕ → List ℕ → Row
  prints : ℕ → List ℕ → List ℕ → ℕ → ℕ → Row
  reads : ℕ → ℕ → List ℕ → Reading → Row
  steps : ℕ → ℕ → Row
  answers : List ℕ → ℕ → Row
  restores : List (List ℕ) → RestoreEnd → Row
  stores : List ℕ → ℕ → List ℕ → Kept → Row
  best : ℕ → List LegalRead → List Record → Row
  writes : Card → ℕ → ℕ → ℕ → Written → Row
  cuts_card : Card → List ℕ → List ℕ → CutEnd → Row
  deals : Card → List ℕ → List ℕ → ReorderEnd → Row
  undeals : Card → List ℕ → List ℕ → ReorderEnd → Row

-- the first numbers drawn from a state, as many as the list has
abbrev pub drawn_from : Draw → List ℕ → List ℕ
drawn_from d [] = []
drawn_from d (n ∷ ns) = number_drawn (after_draw d) ∷ drawn_from (after_draw d) ns

-- the store after reads that are offered in this order
abbrev pub counted : ℕ → Kept → ℕ
counted count (kept (accepted n) buffer) = n
counted count (kept (replaced n) buffer) = n
counted count (kept (repeat n) buffer) = n
counted count (kept (refusal q) buffer) = count

abbrev pub held : Kept → List ℕ
held (kept a buffer) = buffer

abbrev pub restore_after : List (List ℕ) → List ℕ → ℕ → RestoreEnd
restore_after [] buffer count = restore (card_p 15 214) (weights 2 1) buffer count (9 ∷ 9 ∷ 9 ∷ 9 ∷ []) (9 ∷ 9 ∷ 9 ∷ 9 ∷ []) 2
restore_after (r ∷ rs) buffer count =
    let after = store_read (card_p 15 214) (weights 2 1) buffer count r in restore_after rs (held after) (counted count after)

abbrev pub Holds : Row → Type 0
Holds (cards bytes c ws) = (card_reading bytes ≡ CardRead.accepted c (weight_count ws)) × (card_weights bytes ≡ ws)
Holds (draws s ns) = drawn_from (of_seed s) ns ≡ ns
Holds (picks seed set order) =
    (segments_of (weights 2 1) (segment_count (card_p 15 214)) seed ≡ order) × All (λ s. member s order ≡ member s set) (0 ∷ 1 ∷ 2 ∷ 3 ∷ [])
Holds (checks message bytes) = parity 2 message ≡ bytes
Holds (prints seed word letters longest g) =
    (seed_word (card_p 15 214) (weights 2 1) file_q seed ≡ word)
    × (word_letters word ≡ letters) × (longest_run (word_bases word) ≡ longest) × (gc_count (word_bases word) ≡ g)
Holds (reads m lo letters reading) = read_check (card_p m lo) (weights 2 1) letters ≡ reading
Holds (steps s t) = seed_after s ≡ t
Holds (answers ws n) = card_refusal (card_p 15 214) ws ≡ n
Holds (restores offered end) = restore_after offered (replicate 31 7) 0 ≡ end
Holds (stores buffer count read end) = store_read (card_p 15 214) (weights 2 1) buffer count read ≡ end
Holds (best s taken one) = map (counted_record taken) (best_of s taken) ≡ one
Holds (writes c start wanted budget answer) = writer_answer c (weights 2 1) file_q start wanted budget (wanted * (strand_bases c + 1)) 2 ≡ answer
Holds (cuts_card c ws buffer end) = cut_card c ws buffer ≡ end
Holds (deals c source target end) = reorder_file false c (weights 2 1) source target ≡ end
Holds (undeals c source target end) = reorder_file true c (weights 2 1) source target ≡ end

-- the strands of seeds 1, 2 and 3
abbrev pub letters1 : List ℕ
letters1 =
    65 ∷ 65 ∷ 65 ∷ 65 ∷ 65 ∷ 65 ∷ 65 ∷ 65 ∷ 65 ∷ 65 ∷ 65 ∷ 65 ∷ 65 ∷ 65 ∷ 65 ∷ 67 ∷ 84 ∷ 71 ∷ 67 ∷ 65 ∷ 65 ∷ 84 ∷ 67 ∷ 71 ∷ 84 ∷ 67 ∷ 65 ∷ 84 ∷ []

abbrev pub letters2 : List ℕ
letters2 =
    65 ∷ 65 ∷ 65 ∷ 65 ∷ 65 ∷ 65 ∷ 65 ∷ 65 ∷ 65 ∷ 65 ∷ 65 ∷ 65 ∷ 65 ∷ 65 ∷ 65 ∷ 71 ∷ 67 ∷ 71 ∷ 71 ∷ 67 ∷ 71 ∷ 84 ∷ 67 ∷ 67 ∷ 84 ∷ 67 ∷ 84 ∷ 71 ∷ []

abbrev pub letters3 : List ℕ
letters3 =
    65 ∷ 65 ∷ 65 ∷ 65 ∷ 65 ∷ 65 ∷ 65 ∷ 65 ∷ 65 ∷ 65 ∷ 65 ∷ 65 ∷ 65 ∷ 65 ∷ 65 ∷ 84 ∷ 65 ∷ 71 ∷ 67 ∷ 84 ∷ 67 ∷ 71 ∷ 65 ∷ 65 ∷ 67 ∷ 65 ∷ 67 ∷ 65 ∷ []

-- the strand of seed 1 misread: all four letters of its first byte, which is one wrong byte; its first and its last letter, which are two;
-- and a strand of seed 0 with its last letter misread (document 02, Item 3)
abbrev pub one_byte_wrong : List ℕ
one_byte_wrong = text_letters "TTTTAAAAAAAAAAACTGCAATCGTCAT"

abbrev pub two_bytes_wrong : List ℕ
two_bytes_wrong = text_letters "TAAAAAAAAAAAAAACTGCAATCGTCAA"

abbrev pub zero_misread : List ℕ
zero_misread = text_letters "AAAAAAAAAAAAAAAAAAAAAAAAAAAC"

-- the record of seed 1 with a payload, a state byte and a count below 256, one with a larger count, by its first and its last byte, a mended
-- one of seed 2, and a read of seed 1 (document 02, Items 5 and 6)
abbrev pub bytes_of1 : ℕ → ℕ → ℕ → List ℕ
bytes_of1 payload state count = 0 ∷ 0 ∷ 0 ∷ 1 ∷ payload ∷ state ∷ 0 ∷ 0 ∷ 0 ∷ count ∷ []

abbrev pub many_of1 : ℕ → ℕ → ℕ → ℕ → List ℕ
many_of1 payload state first last = 0 ∷ 0 ∷ 0 ∷ 1 ∷ payload ∷ state ∷ first ∷ 255 ∷ 255 ∷ last ∷ []

abbrev pub bytes_of2 : List ℕ
bytes_of2 = 0 ∷ 0 ∷ 0 ∷ 2 ∷ 0x69 ∷ 1 ∷ 0 ∷ 0 ∷ 0 ∷ 1 ∷ []

abbrev pub read_of1 : ℕ → Bool → LegalRead
read_of1 payload clean = record { seed = 1; payload = payload ∷ []; clean = clean }

-- document 02, Item 1: strands that make a run with the site behind or before them or just miss one, and two with no run over 2 and
-- over 1, though both sites have runs of 3
abbrev pub ends_in_ttt : List ℕ
ends_in_ttt = text_letters "TCAGACGCATAGGAGAATCGTTGAGTTT"

abbrev pub ends_in_att : List ℕ
ends_in_att = text_letters "AAGCAACACGTATTAACGCGGTGACATT"

abbrev pub starts_with_ccc : List ℕ
starts_with_ccc = text_letters "CCCGGTCGTTGTTCCTATTGCTAAGAAG"

abbrev pub starts_with_gcc : List ℕ
starts_with_gcc = text_letters "GCCGGAACTTCAGGACATATGCCTTGCG"

abbrev pub runs_of_two : List ℕ
runs_of_two = text_letters "ATCTCCATTAGCGTTCTTGGTAAGAGGA"

abbrev pub no_runs : List ℕ
no_runs = text_letters "GACAGTATCTCGCATGCTCTGCTATGCA"

-- the last thirty-six: a read with one byte wrong, whose mended strand has a run of 15 though the read has none over 11, one with two, and
-- one whose mended seed is 0 (document 02, Item 3); the first of these accepted as mended, its strand over it, over a mended record with
-- another payload and a state of 7, and beside a clean one with another payload, the mended read beside a clean and a mended record with
-- the same payload and with another, the strand over the second of three records, of which the third has its seed too; repeats of a count that
-- carries and of the last but one, and a repeat, a clean read over a mended record and another payload where the count is full (Item 6); the
-- best of some reads, with their number (Items 5 and 6); ten strands of Q, with the strands dropped on the way under three pairs of limits, and a budget that is spent on a
-- strand with both faults (Item 12); card P cut into a buffer with a byte to spare and into one a byte short, and a plan that is refused
-- before the buffer is (Item 2); the card with W 3 read and cut, its file dealt and undealt, each from a byte more into a byte more, and
-- W 7, 1 and 8, a source and a target a byte short (Item 14)
abbrev pub rows : List Row
rows =
    cards bytes_p (card_p 15 214) (weights 2 1)
    ∷ draws 1 (632806 ∷ 68359563 ∷ [])
    ∷ picks 1 (3 ∷ []) (3 ∷ [])
    ∷ picks 2 (1 ∷ 2 ∷ []) (2 ∷ 1 ∷ [])
    ∷ picks 3 (1 ∷ []) (1 ∷ [])
    ∷ checks (0x01 ∷ []) (0x03 ∷ 0x02 ∷ [])
    ∷ checks (0x01 ∷ 0x00 ∷ []) (0x07 ∷ 0x06 ∷ [])
    ∷ prints 1 (0x00 ∷ 0x00 ∷ 0x00 ∷ 0x01 ∷ 0xE4 ∷ 0x36 ∷ 0xD3 ∷ []) letters1 15 6
    ∷ reads 15 214 letters1 (droplet 1 (0xE4 ∷ []) 0)
    ∷ reads 14 214 letters1 (refused 13)
    ∷ reads 15 215 letters1 (refused 13)
    ∷ steps 0x80000000 0x000000C5
    ∷ steps 0x00000001 0x00000002
    ∷ reads 15 214 (replicate 28 65) (refused 12)
    ∷ answers (weights 4 1) 0
    ∷ answers (weights 5 1) 4
    ∷ answers (weights 2 0) 4
    ∷ restores (letters2 ∷ letters1 ∷ letters3 ∷ [])
    (restore_end (restored 3 3 0) (record { file = 0x00 ∷ 0x27 ∷ 0x4E ∷ 0xE4 ∷ []; marks = 0 ∷ 1 ∷ 1 ∷ 1 ∷ [] }))
    ∷ reads 3 214 ends_in_ttt (refused 13)
    ∷ reads 4 214 ends_in_ttt (droplet 0xD2193288 (0x36 ∷ []) 0)
    ∷ reads 2 214 ends_in_att (refused 13)
    ∷ reads 3 214 ends_in_att (droplet 0x09046CF0 (0x66 ∷ []) 0)
    ∷ reads 3 214 starts_with_ccc (refused 13)
    ∷ reads 4 214 starts_with_ccc (droplet 0x56B6FBD7 (0x3E ∷ []) 0)
    ∷ reads 3 214 starts_with_gcc (droplet 0x9681F4A1 (0x33 ∷ []) 0)
    ∷ reads 2 214 runs_of_two (droplet 0x3753C9BD (0xFA ∷ []) 0)
    ∷ reads 1 214 no_runs (droplet 0x84B3764E (0x77 ∷ []) 0)
    ∷ reads 15 214 one_byte_wrong (droplet 1 (0xE4 ∷ []) 1)
    ∷ reads 14 214 one_byte_wrong (refused 13)
    ∷ reads 15 214 two_bytes_wrong (refused 11)
    ∷ reads 15 214 zero_misread (refused 12)
    ∷ stores (replicate 11 7) 0 one_byte_wrong (kept (accepted 1) (bytes_of1 0xE4 1 1 ++ (7 ∷ [])))
    ∷ stores (bytes_of1 0xE4 1 1 ++ (7 ∷ [])) 1 letters1 (kept (replaced 1) (bytes_of1 0xE4 0 2 ++ (7 ∷ [])))
    ∷ stores (bytes_of1 0xE5 7 1) 1 letters1 (kept (replaced 1) (bytes_of1 0xE4 0 2))
    ∷ stores (bytes_of1 0xE5 0 1) 1 letters1 (kept (refusal 15) (bytes_of1 0xE5 0 1))
    ∷ stores (bytes_of1 0xE4 0 1) 1 one_byte_wrong (kept (repeat 1) (bytes_of1 0xE4 0 2))
    ∷ stores (bytes_of1 0xE4 7 0) 1 one_byte_wrong (kept (repeat 1) (bytes_of1 0xE4 7 1))
    ∷ stores (bytes_of1 0xE5 1 1) 1 one_byte_wrong (kept (refusal 15) (bytes_of1 0xE5 1 1))
    ∷ stores (bytes_of1 0xE5 0 1) 1 one_byte_wrong (kept (refusal 15) (bytes_of1 0xE5 0 1))
    ∷ stores (bytes_of2 ++ (bytes_of1 0xE5 1 1 ++ bytes_of1 0xE5 1 1)) 3 letters1
    (kept (replaced 3) (bytes_of2 ++ (bytes_of1 0xE4 0 2 ++ bytes_of1 0xE5 1 1)))
    ∷ stores (many_of1 0xE4 0 0 255) 1 letters1 (kept (repeat 1) (0 ∷ 0 ∷ 0 ∷ 1 ∷ 0xE4 ∷ 0 ∷ 1 ∷ 0 ∷ 0 ∷ 0 ∷ []))
    ∷ stores (many_of1 0xE4 0 255 254) 1 letters1 (kept (repeat 1) (many_of1 0xE4 0 255 255))
    ∷ stores (many_of1 0xE4 0 255 255) 1 letters1 (kept (refusal 20) (many_of1 0xE4 0 255 255))
    ∷ stores (many_of1 0xE5 1 255 255) 1 letters1 (kept (refusal 20) (many_of1 0xE5 1 255 255))
    ∷ stores (many_of1 0xE5 0 255 255) 1 letters1 (kept (refusal 15) (many_of1 0xE5 0 255 255))
    ∷ best 1 (read_of1 0xE5 false ∷ read_of1 0xE4 true ∷ read_of1 0xE6 true ∷ []) (record { read = read_of1 0xE4 true; count = 3 } ∷ [])
    ∷ best 1 (read_of1 0xE5 false ∷ read_of1 0xE4 false ∷ []) (record { read = read_of1 0xE5 false; count = 2 } ∷ [])
    ∷ writes (limits_p 3 450 550) 0x12345678 10 1000 (written Done 10 62 0xD862C7F9 23 29)
    ∷ writes (limits_p 4 450 550) 0x12345678 10 1000 (written Done 10 49 0x506EC32B 7 32)
    ∷ writes (limits_p 3 400 600) 0x12345678 10 1000 (written Done 10 13 0x8ACEB9DE 2 1)
    ∷ writes (limits_p 3 450 550) 0x12345678 10 20 (written Spent 2 20 0x675CDD91 5 13)
    ∷ cuts_card (card_p 15 214) (weights 2 1) (replicate 29 7) (ended (cut 28) (bytes_p ++ (7 ∷ [])))
    ∷ cuts_card (card_p 15 214) (weights 2 1) (replicate 27 7) (ended (Cut.refused 19) (replicate 27 7))
    ∷ cuts_card (card_p 15 214) (weights 5 1) [] (ended (Cut.refused 4) [])
    ∷ cards bytes_w (card_w 3) (weights 2 1)
    ∷ cuts_card (card_w 3) (weights 2 1) (replicate 36 7) (ended (cut 35) (bytes_w ++ (7 ∷ [])))
    ∷ deals (card_w 3) (file_w ++ (9 ∷ [])) (replicate 8 7) (ReorderEnd.ended done (dealt_w ++ (7 ∷ [])))
    ∷ undeals (card_w 3) (dealt_w ++ (9 ∷ [])) (replicate 8 7) (ReorderEnd.ended done (file_w ++ (7 ∷ [])))
    ∷ deals (card_w 7) file_w (replicate 7 7) (ReorderEnd.ended done file_w)
    ∷ deals (card_w 1) file_w [] (ReorderEnd.ended (Reordered.refused 27) [])
    ∷ deals (card_w 8) file_w [] (ReorderEnd.ended (Reordered.refused 27) [])
    ∷ deals (card_w 3) (replicate 6 9) (replicate 7 7) (ReorderEnd.ended (Reordered.refused 28) (replicate 7 7))
    ∷ undeals (card_w 3) dealt_w (replicate 6 7) (ReorderEnd.ended (Reordered.refused 28) (replicate 6 7))
    ∷ []

pub examples : All Holds rows
unfolding card_reading card_reading_refusal well_formed card_bytes width_field field_bytes to_two_bytes card_numbers weights_end width_there width_right cut_card with_remainder first_columns interleave column_start interleaved_place table_of deinterleave reordered both_long reorder_refusal file_reordered reorder_file seed_after seed_word segments_of degree_of degree degree_from pick_from member of_seed after_draw number_drawn xorshift segment payload padded strand_word to_big_endian from_big_endian parity remainder_after xor_lists multiple by_root times_power double shift_up horner syndromes card_refusal sizes_right limits_right weights_right segment_count strand_bytes first_weights weight_at number_at letter_of letter_bits all_letters byte_bases word_bases byte_letters word_letters letters_byte letters_word text_letters letters_bases site_before site_after order_of with_base longest_of longest_run gc_count measure_of verdict word_verdict screen_passes sums_zero differs distance first_of within corrected strand_reading word_reading letters_reading read_check record_bytes evidence_text record_text record_payload record_state record_count record_from records same_bytes find_seed overwritten appended counted_again unless_full compared store_record store_reading store_read those best_of count_of droplets marked missing known filled filled_by step pass present peel cleared peel_all contradicts contradictions has_seed room_refusal later_refusal restore_refusal restore one_try write_from writer_run own_refusal writer_refusal
examples = (
  (refl, refl),
  (
    refl,
    (
      (refl, (refl, (refl, (refl, (refl, tt))))),
      (
        (refl, (refl, (refl, (refl, (refl, tt))))),
        (
          (refl, (refl, (refl, (refl, (refl, tt))))),
          (
            refl,
            (
              refl,
              (
                (refl, refl, refl, refl),
                (refl, (refl, (refl, (refl, (refl, (refl, (refl, (refl, (refl, (refl, (refl, (refl, (refl, (refl, (refl, (refl, (refl, (refl, (refl, (refl, (refl, (refl, (refl, (refl, (refl, (refl, (refl, (refl, (refl, (refl, (refl, (refl, (refl, (refl, (refl, (refl, (refl, (refl, (refl, (refl, (refl, (refl, (refl, (refl, (refl, (refl, ((refl, refl), (refl, (refl, (refl, (refl, (refl, (refl, (refl, (refl, tt))))))))))))))))))))))))))))))))))))))))))))))))))))))),
              ),
            ),
          ),
        ),
      ),
    ),
  ),
)
