-- What the contracts of functions below the read check and the writer cite: what they ask of a card and of a word, and what each step of
-- the writer leaves. No sentence of document 01 stands here. Assumes nothing.
use Rattle.std.specs.Prelude.{◌≡◌, cond, List, [], ◌++◌, ℕ, ◌≤◌, ◌+◌, ◌*◌, length, take, drop}
use Rattle.field.specs.CheckBytes.{CheckCount}
use Rattle.droplet.specs.declared.card.Card.{Card}
use Rattle.droplet.specs.PoolCard.{strand_bytes, weight_count, strand_bases}
use Rattle.screen.specs.declared.limits.Verdict.{Verdict}
use Rattle.screen.specs.Screen.{word_verdict, screen_passes}
use Rattle.strand.specs.declared.writer.Run.{Run}
use Rattle.strand.specs.declared.writer.Stop.TheVariants.{Spent}
use Rattle.strand.specs.Writer.{seed_word, strand_line, judged, run_end, writer_run, answered_progress}

-- what the functions that check a read need of a card that was not refused
pub record InRange (c : Card) : Type 0 where
  pub l_most : c.l ≤ 64
  pub check_count : CheckCount c.r

-- a word of a strand's length under such a card
pub record IsWord (c : Card) (word : List ℕ) : Type 0 where
  pub card : InRange c
  pub long : length word ≡ strand_bytes c

-- ---- the writer

-- a run that has tried no seed yet
abbrev pub begun : ℕ → Run
begun start = record { stop = Spent; made = 0; tried = 0; next = start; dropped_run = 0; dropped_gc = 0 }

-- a run with one more seed, by the verdict on its strand
abbrev pub counted : Verdict → Run → Run
counted v run =
    let one = judged v run.next [] in
    record {
      stop = run.stop;
      made = run.made + one.made;
      tried = run.tried + one.tried;
      next = one.next;
      dropped_run = run.dropped_run + one.dropped_run;
      dropped_gc = run.dropped_gc + one.dropped_gc;
    }

-- each seed tried counts once
pub record Counts (run : Run) : Type 0 where
  pub adds_up : run.tried ≡ run.made + (run.dropped_run + run.dropped_gc)

-- a text at the front of a buffer
unfoldable pub with_front : List ℕ → List ℕ → List ℕ
with_front text out = text ++ drop (length text) out

-- the word of a seed stands in a buffer's first bytes, and the number list is as it was past D
pub record Made (c : Card) (weights file : List ℕ) (seed : ℕ) (list list' word' : List ℕ) : Type 0 where
  pub fills : take (strand_bytes c) word' ≡ seed_word c weights file seed
  pub keeps : drop (weight_count weights) list' ≡ drop (weight_count weights) list

-- a strand's line stands at the front of the buffer if it passes the screen, and the result is the verdict on it
pub record Printed (c : Card) (word : List ℕ) (v : Verdict) (out out' : List ℕ) : Type 0 where
  pub says : v ≡ word_verdict c word
  pub prints : out' ≡ cond (screen_passes c word) (with_front (strand_line word) out) out

-- the same for the strand of a seed, with the number list as it was past D
pub record Tried (c : Card) (weights file : List ℕ) (seed : ℕ) (v : Verdict) (out list out' list' : List ℕ) : Type 0 where
  pub printed : Printed c (seed_word c weights file seed) v out out'
  pub keeps : drop (weight_count weights) list' ≡ drop (weight_count weights) list

-- the run ended so, with its text at the front of the buffer and the rest of the buffer as it was
pub record Ran (c : Card) (weights file : List ℕ) (start wanted budget : ℕ) (run : Run) (out list out' list' : List ℕ) : Type 0 where
  pub ends : writer_run c weights file start wanted budget
      ≡ run_end run.stop (answered_progress run (take (run.made * (strand_bases c + 1)) out'))
  pub rest : drop (run.made * (strand_bases c + 1)) out' ≡ drop (run.made * (strand_bases c + 1)) out
  pub keeps : drop (weight_count weights) list' ≡ drop (weight_count weights) list
