-- Lines: a strand's line has n letters and a newline, a run's text as many lines as it made, each with its seed's letters, and a line
-- stands in the buffer. Assumes nothing.
use mathlib.Core.Path.{◌≡◌, sym, ap, ◌∙◌}
use mathlib.Core.List.{List, [], ◌∷◌, ◌++◌, append_assoc, append-nil}
use Prim.Native.Nat.{ℕ, zero, suc, ◌+◌, ◌-◌, ◌*◌, ◌<◌, ◌≤◌}
use native.Mathlib.Nat.{zero-mul, suc-mul, add_comm}
use native.Mathlib.Omega.{arith}
use lib.ListN.{length, get_or, take, drop, length-append, length-drop}
use lib.Seq.{take_at, drop_at, drop-drop, length-take-le, take_all}
use borrow.Rule.Slice.PartMut.{put_mid}
use Rattle.std.proofs.lemmas.List.{drop_all}
use Rattle.droplet.specs.declared.card.Card.{Card}
use Rattle.droplet.specs.PoolCard.{strand_bases}
use Rattle.screen.specs.Letters.{word_letters}
use Rattle.screen.proofs.Spelling.{letters-length}
use Rattle.strand.specs.declared.writer.Stop.{Stop}
use Rattle.strand.specs.Writer.{seed_word, strand_line, Progress, run_end, writer_run}
use Rattle.strand.specs.WriterRuns.{strand_lines}
use Rattle.strand.specs.Loops.{with_front}
use Rattle.strand.proofs.SeedWords.{word-length}
use Rattle.strand.proofs.Runs.{run-facts}

module _ (c : Card) (ws file : List ℕ) where
  pub line-length : (seed : ℕ) → length (strand_line (seed_word c ws file seed)) ≡ strand_bases c + 1
  line-length seed =
      rw (length-append, letters-length, word-length) (omega arith)

  lines-length : (seeds : List ℕ) → length (strand_lines c ws file seeds) ≡ length seeds * (strand_bases c + 1)
  unfolding strand_lines
  lines-length [] = omega arith
  lines-length (seed ∷ seeds) = rw (suc-mul, length-append, lines-length seeds, line-length seed) (omega arith)

  pub text-length : (start wanted budget : ℕ) (stop : Stop) (p : Progress) → writer_run c ws file start wanted budget ≡ run_end stop p
      → length p.text ≡ p.made * (strand_bases c + 1)
  text-length start wanted budget stop p e =
      let f = run-facts c ws file start wanted budget stop p e in
      ap length f.prints ∙ lines-length _ ∙ ap (λ n. n * (strand_bases c + 1)) (sym f.counts)

  letters-long : (seed : ℕ) → length (word_letters (seed_word c ws file seed)) ≡ strand_bases c
  letters-long seed = omega (arith, letters-length (seed_word c ws file seed), word-length c ws file seed)

  -- the letters of line i
  pub line_at : (seeds rest : List ℕ) (i : ℕ) → i < length seeds
      → take (strand_bases c) (drop (i * (strand_bases c + 1)) (strand_lines c ws file seeds ++ rest)) ≡ word_letters (seed_word c ws file (get_or seeds i 0))
  unfolding strand_lines
  line_at [] rest i h = absurd (let z : ⊥ = omega arith in z)
  line_at (seed ∷ seeds) rest zero h =
      let letters = word_letters (seed_word c ws file seed) in
      let lines = strand_lines c ws file seeds in
      ap (λ k. take (strand_bases c) (drop k ((strand_line (seed_word c ws file seed) ++ lines) ++ rest))) (zero-mul (strand_bases c + 1))
      ∙ ap (take (strand_bases c)) (append_assoc (letters ++ (10 ∷ [])) lines rest ∙ append_assoc letters (10 ∷ []) (lines ++ rest))
      ∙ take_at letters (10 ∷ (lines ++ rest)) (strand_bases c) (letters-long seed)
  line_at (seed ∷ seeds) rest (suc i) h =
      let m = strand_bases c + 1 in
      let line = strand_line (seed_word c ws file seed) in
      let lines = strand_lines c ws file seeds in
      ap (λ k. take (strand_bases c) (drop k ((line ++ lines) ++ rest))) (suc-mul i m ∙ add_comm (i * m) m)
      ∙ ap (take (strand_bases c)) (sym (drop-drop (i * m) m ((line ++ lines) ++ rest))
      ∙ ap (λ l. drop (i * m) (drop m l)) (append_assoc line lines rest) ∙ ap (drop (i * m)) (drop_at line (lines ++ rest) m (line-length seed)))
      ∙ line_at seeds rest i (omega arith)

-- a text in a buffer, behind its first places
module _ (at : ℕ) (text out : List ℕ) (room : at ≤ length out) where
  abbrev behind : List ℕ
  behind = take at out ++ with_front text (drop at out)

  front : length (take at out ++ text) ≡ at + length text
  front = length-append (take at out) text ∙ ap (λ n. n + length text) (length-take-le at out room)

  in_parts : behind ≡ (take at out ++ text) ++ drop (at + length text) out
  unfolding with_front
  in_parts = rw (drop-drop (length text) at out) (sym (append_assoc (take at out) text (drop (at + length text) out)))

  pub text-taken : take (at + length text) behind ≡ take at out ++ text
  text-taken = rw in_parts (take_at (take at out ++ text) _ _ front)

  pub text-dropped : drop (at + length text) behind ≡ drop (at + length text) out
  text-dropped = rw in_parts (drop_at (take at out ++ text) _ _ front)

-- a buffer from a place on, as a part that is lent, and as it comes back
module _ (at : ℕ) (out : List ℕ) where
  pub part-lent : take (length out - at) (drop at out) ≡ drop at out
  part-lent = take_all _ (drop at out) (omega (arith, length-drop at out))

  pub part-back : (part : List ℕ) → put_mid at (length out - at) out part ≡ take at out ++ part
  part-back part =
      let none : drop (length out - at) (drop at out) ≡ [] = drop_all _ (drop at out) (omega (arith, length-drop at out)) in
      rw (none, append-nil {A = ℕ})
