-- `measure_in` meets its contract: the rows of a word's matches are its runs. Assumes nothing.
use mathlib.Core.Path.{◌≡◌, ◌∙◌}
use mathlib.Core.List.{List}
use Prim.Native.Nat.{ℕ, ◌+◌, ◌-◌, ◌*◌, ◌<◌, ◌≤◌}
use native.Mathlib.Omega.{arith}
use lib.ListN.{length, get_or}
use Rattle.screen.specs.Screen.{measure_of}
use Rattle.screen.specs.Loops.{chunks_number, Flags, longest_row, MatchesOf}
use Rattle.screen.proofs.Screening.{measure-is}
use Rattle.screen.proofs.PackedBases.{word-gc}
use Rattle.screen.proofs.PackedRuns.{word-run}
use Rattle.screen.proofs.MatchRows.{more-flags, more_rows, pairs-flags}
use Rattle.screen.proofs.screen.measure_in.Goals as goal

module _ (word : List ℕ) (gc : ℕ) (chunks : List ℕ) (short : length word ≤ 72) (put : MatchesOf 1 word 3 gc chunks) where
  -- the word's bases and the one after them are no more than 320
  enough : 4 * length word + 1 + (319 - 4 * length word) ≡ 320
  enough = omega arith

  flags : Flags (4 * length word + 1) (chunks_number chunks)
  flags = rw put.flags (pairs-flags (4 * length word + 1) _)

  all-flags : Flags 320 (chunks_number chunks)
  all-flags = rw enough at (more-flags (4 * length word + 1) (319 - 4 * length word) (chunks_number chunks) flags)

  measured : (longest : ℕ) → ((i : ℕ) → get_or word i 0 < 256) → 0 < length word → longest ≡ longest_row 320 (chunks_number chunks) + 1
      → record { longest = longest; gc = gc } ≡ measure_of word
  measured longest bytes some e =
      let row = rw enough at (more_rows (4 * length word + 1) (319 - 4 * length word) (chunks_number chunks) flags) in
      measure-is word (e ∙ rw (row, put.flags) (omega (arith, word-run word bytes some))) (put.counts ∙ word-gc 1 word bytes)

pub longest_run-longest-requires : goal.longest_run-longest-requires
longest_run-longest-requires c =
    all-flags _ _ _ c.requires.1 c.put_matches-gc.ensures

pub returns : goal.returns
returns c =
    measured c.args.word.now _ _ c.requires.1 c.put_matches-gc.ensures
    c.longest_run-longest.result (λ i. omega (arith, c.type_inv.word i)) c.requires.0 c.longest_run-longest.ensures
