-- What a run of the writer did, in the words of document 01, "Writer", and of document 02, Item 12; that it can be continued; that
-- every answer of the writer tells of such a run; and a run with the lines that it printed. Assumes nothing.
use Rattle.std.specs.Prelude.{◌≡◌, cond, List, [], ◌∷◌, ◌++◌, ◌↔◌, ℕ, ◌+◌, ◌*◌, ◌^◌, ◌<◌, ◌≤◌, length, take, drop, Ok}
use Rattle.field.specs.Generator.{seed_after, iterate, seeds_from}
use Rattle.droplet.specs.declared.card.Card.{Card}
use Rattle.droplet.specs.PoolCard.{strand_bases}
use Rattle.screen.specs.declared.limits.Verdict.{Verdict}
use Rattle.screen.specs.declared.limits.Verdict.TheVariants.{Passes, LongRun, GcAlone}
use Rattle.screen.specs.Screen.{word_verdict, is}
use Rattle.strand.specs.declared.writer.Run.{Run}
use Rattle.strand.specs.declared.writer.Stop.{Stop}
use Rattle.strand.specs.declared.writer.Stop.TheVariants.{Done, Spent}
use Rattle.strand.specs.Writer.{seed_word, strand_line, Progress, followed, RunEnd, run_end, writer_run, writer_refusal, answered_progress, WriterPromise}

-- the seeds of a list whose strands have this verdict, in their order
unfoldable pub seeds_with : Verdict → Card → List ℕ → List ℕ → List ℕ → List ℕ
seeds_with v c weights file [] = []
seeds_with v c weights file (seed ∷ seeds) =
    cond (is v (word_verdict c (seed_word c weights file seed))) (seed ∷ seeds_with v c weights file seeds) (seeds_with v c weights file seeds)

-- those among the first t seeds of the schedule: whose strands pass the screen, are dropped for a run, or for GC alone
abbrev pub passing_first : Card → List ℕ → List ℕ → ℕ → ℕ → List ℕ
passing_first c weights file start t = seeds_with Passes c weights file (seeds_from t start)

abbrev pub long_run_first : Card → List ℕ → List ℕ → ℕ → ℕ → List ℕ
long_run_first c weights file start t = seeds_with LongRun c weights file (seeds_from t start)

abbrev pub gc_alone_first : Card → List ℕ → List ℕ → ℕ → ℕ → List ℕ
gc_alone_first c weights file start t = seeds_with GcAlone c weights file (seeds_from t start)

-- the strands of seeds, a line each
unfoldable pub strand_lines : Card → List ℕ → List ℕ → List ℕ → List ℕ
strand_lines c weights file [] = []
strand_lines c weights file (seed ∷ seeds) = strand_line (seed_word c weights file seed) ++ strand_lines c weights file seeds

-- what a run from a start seed did, in the documents' words
pub record RunFacts (c : Card) (weights file : List ℕ) (start wanted budget : ℕ) (stop : Stop) (p : Progress) : Type 0 where
  -- "Seeds are tried in schedule order, the start first. Each strand that passes the screen is written"
  pub prints : p.text ≡ strand_lines c weights file (passing_first c weights file start p.tried)
  pub counts : p.made ≡ length (passing_first c weights file start p.tried)
  -- "Tried equals made plus both, and each equals its count over the seeds tried" (document 02, Item 12)
  pub adds_up : p.tried ≡ p.made + (p.dropped_run + p.dropped_gc)
  pub counts_runs : p.dropped_run ≡ length (long_run_first c weights file start p.tried)
  pub counts_gc : p.dropped_gc ≡ length (gc_alone_first c weights file start p.tried)
  -- "the next seed (the step after the last one tried, or the start if none was)"
  pub steps : p.next ≡ iterate p.tried seed_after start
  pub in_budget : p.tried ≤ budget
  pub not_more : p.made ≤ wanted
  -- "It stops as done when made = wanted, otherwise as spent when tried = budget; done comes first"
  pub done : (stop ≡ Done) ↔ (p.made ≡ wanted)
  pub spent : stop ≡ Spent → p.tried ≡ budget
  -- with fewer tries it had made fewer
  pub at_once : (t : ℕ) → t < p.tried → length (passing_first c weights file start t) < wanted

-- a run that goes on after another, both taken as one run
abbrev pub continuing : Progress → RunEnd → RunEnd
continuing p (run_end stop q) = run_end stop (followed p q)

-- every run, continued from its next seed for more strands with a budget of b, is one run with the sums of both; where it was spent,
-- at least one strand more is wanted
abbrev pub RunsContinue : Type 0
RunsContinue = (c : Card) (weights file : List ℕ) (start wanted budget : ℕ) (stop : Stop) (p : Progress)
    → writer_run c weights file start wanted budget ≡ run_end stop p → (more b : ℕ) → (stop ≡ Spent → 0 < more)
    → writer_run c weights file start (p.made + more) (p.tried + b) ≡ continuing p (writer_run c weights file p.next more b)

-- the run that an answer tells of: no question refused it, and `RunFacts` holds of the answer's numbers and of the text in front of
-- the buffer
pub record AnsweredRun (c : Card) (weights file : List ℕ) (start wanted budget : ℕ) (out list : List ℕ) (run : Run) (out' : List ℕ) : Type 0 where
  pub unrefused : writer_refusal c weights (length file) start wanted (length out) (length list) ≡ 0
  pub text : List ℕ
  pub ends : writer_run c weights file start wanted budget ≡ run_end run.stop (answered_progress run text)
  pub facts : RunFacts c weights file start wanted budget run.stop (answered_progress run text)
  pub prints : out' ≡ text ++ drop (length text) out

-- so it is for every call that is not refused
abbrev pub AnswersRun : Type 0
AnswersRun = (c : Card) (weights file : List ℕ) (start wanted budget : ℕ) (out list : List ℕ) (run : Run) (out' list' : List ℕ)
    → WriterPromise c weights file start wanted budget out list (Ok run) out' list'
    → AnsweredRun c weights file start wanted budget out list run out'

-- a call of the writer for a file, not refused: what it was handed, its answer, and what it left
pub record PrintedRun (c : Card) (weights file : List ℕ) : Type 0 where
  pub start : ℕ
  pub wanted : ℕ
  pub budget : ℕ
  pub out : List ℕ
  pub list : List ℕ
  pub run : Run
  pub out' : List ℕ
  pub list' : List ℕ
  pub wrote : WriterPromise c weights file start wanted budget out list (Ok run) out' list'
  -- the start is of 32 bits; that the budget is too is a premise where it matters
  pub fits : start < 2 ^ 32

-- the n letters of a line that it left in its buffer
abbrev pub printed_line : {c : Card} {weights file : List ℕ} → PrintedRun c weights file → ℕ → List ℕ
printed_line {c} p i = take (strand_bases c) (drop (i * (strand_bases c + 1)) p.out')
