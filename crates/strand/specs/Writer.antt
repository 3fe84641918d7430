-- Document 01, "Writer", and its questions 5 to 8, with the counts of document 02, Item 12. Assumes nothing.
use Rattle.std.specs.Prelude.{◌≡◌, false, cond, ◌&&◌, List, [], ◌∷◌, ◌++◌, ℕ, zero, suc, ◌+◌, ◌*◌, eqb, leb, length, drop, Result, Ok, Err}
use Rattle.field.specs.Generator.{seed_after}
use Rattle.droplet.specs.declared.card.Card.{Card}
use Rattle.droplet.specs.PoolCard.{segment_count, weight_count, strand_bases}
use Rattle.droplet.specs.Questions.{card_refusal}
use Rattle.droplet.specs.Droplet.{segments_of, payload}
use Rattle.screen.specs.declared.limits.Verdict.{Verdict}
use Rattle.screen.specs.declared.limits.Verdict.TheVariants.{Passes, LongRun, GcAlone}
use Rattle.screen.specs.Letters.{word_letters}
use Rattle.screen.specs.Screen.{word_verdict}
use Rattle.strand.specs.declared.writer.Run.{Run}
use Rattle.strand.specs.declared.writer.Stop.{Stop}
use Rattle.strand.specs.declared.writer.Stop.TheVariants.{Done, Spent}
use Rattle.droplet.specs.declared.refusal.Refusal.{Refusal}
use Rattle.droplet.specs.Refusals.{refusal_number}
use Rattle.strand.specs.ReadCheck.{strand_word}

-- the payload that a file gives for a seed, and the word of its strand
abbrev pub payload_for : Card → List ℕ → List ℕ → ℕ → List ℕ
payload_for c weights file seed = payload c.l file (segments_of weights (segment_count c) seed)

unfoldable pub seed_word : Card → List ℕ → List ℕ → ℕ → List ℕ
seed_word c weights file seed = strand_word c seed (payload_for c weights file seed)

-- "n letters and a newline byte"
abbrev pub strand_line : List ℕ → List ℕ
strand_line word = word_letters word ++ (10 ∷ [])

-- how far a run has come: strands made, seeds tried, the next seed, strands dropped for a run and for GC alone, and all that it wrote
pub record Progress : Type 0 where
  pub made : ℕ
  pub tried : ℕ
  pub next : ℕ
  pub dropped_run : ℕ
  pub dropped_gc : ℕ
  pub text : List ℕ

abbrev pub progress : ℕ → ℕ → ℕ → ℕ → ℕ → List ℕ → Progress
progress made tried next dropped_run dropped_gc text =
    record { made = made; tried = tried; next = next; dropped_run = dropped_run; dropped_gc = dropped_gc; text = text }

-- a part of a run and what comes after it, taken as one
abbrev pub followed : Progress → Progress → Progress
followed p q =
    progress (p.made + q.made) (p.tried + q.tried) q.next (p.dropped_run + q.dropped_run) (p.dropped_gc + q.dropped_gc) (p.text ++ q.text)

-- what one seed adds, by the verdict on its strand: "Each strand that passes the screen is written", and the others count as
-- "strands dropped for a run" or "strands dropped for GC alone" (document 02, Item 12)
abbrev pub judged : Verdict → ℕ → List ℕ → Progress
judged Passes seed line = progress 1 1 (seed_after seed) 0 0 line
judged LongRun seed line = progress 0 1 (seed_after seed) 1 0 []
judged GcAlone seed line = progress 0 1 (seed_after seed) 0 1 []

unfoldable pub one_try : Card → List ℕ → List ℕ → ℕ → Progress
one_try c weights file seed = let word = seed_word c weights file seed in judged (word_verdict c word) seed (strand_line word)

-- how a run ended
pub data RunEnd : Type 0 where
  run_end : Stop → Progress → RunEnd

-- the run that has come so far, with `left` seeds of the budget:
-- "done when made = wanted, otherwise spent when tried = budget; done comes first"
unfoldable pub write_from : Card → List ℕ → List ℕ → ℕ → ℕ → Progress → RunEnd
write_from c weights file wanted zero p = cond (eqb p.made wanted) (run_end Done p) (run_end Spent p)
write_from c weights file wanted (suc left) p =
    cond (eqb p.made wanted) (run_end Done p) (write_from c weights file wanted left (followed p (one_try c weights file p.next)))

-- "Seeds are tried in schedule order, the start first"
unfoldable pub writer_run : Card → List ℕ → List ℕ → ℕ → ℕ → ℕ → RunEnd
writer_run c weights file start wanted budget = write_from c weights file wanted budget (progress 0 0 start 0 0 [])

-- 5 to 8, of D and the lengths: "file length F? Start not 0? Wanted at most 1,000,000 and buffer at least wanted times (n+1)?
-- Number list at least D long?"
unfoldable pub own_refusal : Card → ℕ → ℕ → ℕ → ℕ → ℕ → ℕ → ℕ
own_refusal c D file_length start wanted out_length list_length =
    cond (eqb file_length c.f)
    (cond (eqb start 0) 6
    (cond (leb wanted 1000000 && leb (wanted * (strand_bases c + 1)) out_length) (cond (leb D list_length) 0 8) 7)) 5

-- 2 to 4 and 27, and then these
unfoldable pub writer_refusal : Card → List ℕ → ℕ → ℕ → ℕ → ℕ → ℕ → ℕ
writer_refusal c weights file_length start wanted out_length list_length =
    cond (eqb (card_refusal c weights) 0) (own_refusal c (weight_count weights) file_length start wanted out_length list_length)
    (card_refusal c weights)

-- what the writer answers, by its cases: the stop, made, tried, the next seed, strands dropped for a run and for GC alone, or the
-- refusal number
pub data Written : Type 0 where
  written : Stop → ℕ → ℕ → ℕ → ℕ → ℕ → Written
  refusal : ℕ → Written

abbrev pub write_answer : Result Run Refusal → Written
write_answer (Ok run) = written run.stop run.made run.tried run.next run.dropped_run run.dropped_gc
write_answer (Err q) = refusal (refusal_number q)

-- an answer's numbers, with a text
abbrev pub answered_progress : Run → List ℕ → Progress
answered_progress run text = progress run.made run.tried run.next run.dropped_run run.dropped_gc text

abbrev pub run_answer : RunEnd → Written
run_answer (run_end stop p) = written stop p.made p.tried p.next p.dropped_run p.dropped_gc

abbrev pub run_text : RunEnd → List ℕ
run_text (run_end stop p) = p.text

-- the answer, and "Bytes past made times (n+1) keep what they had"; a refusal changes nothing
abbrev pub writer_answer : Card → List ℕ → List ℕ → ℕ → ℕ → ℕ → ℕ → ℕ → Written
writer_answer c weights file start wanted budget out_length list_length =
    let no = writer_refusal c weights (length file) start wanted out_length list_length in
    cond (eqb no 0) (run_answer (writer_run c weights file start wanted budget)) (refusal no)

abbrev pub writer_text : Card → List ℕ → List ℕ → ℕ → ℕ → ℕ → List ℕ → ℕ → List ℕ
writer_text c weights file start wanted budget out list_length =
    let text = run_text (writer_run c weights file start wanted budget) in
    cond (eqb (writer_refusal c weights (length file) start wanted (length out) list_length) 0) (text ++ drop (length text) out) out

-- what the writer leaves: its buffer at exit, and the number list, free in its first D places alone
pub record WriterLeaves (c : Card) (weights file : List ℕ) (start wanted budget : ℕ) (out list out' list' : List ℕ) : Type 0 where
  pub prints : out' ≡ writer_text c weights file start wanted budget out (length list)
  pub keeps : drop (weight_count weights) list' ≡ drop (weight_count weights) list
  pub untouched : eqb (writer_refusal c weights (length file) start wanted (length out) (length list)) 0 ≡ false → list' ≡ list

-- the promise of the writer
pub record WriterPromise (c : Card) (weights file : List ℕ) (start wanted budget : ℕ) (out list : List ℕ) (r : Result Run Refusal) (out' list' : List ℕ) : Type 0 where
  pub says : write_answer r ≡ writer_answer c weights file start wanted budget (length out) (length list)
  pub leaves : WriterLeaves c weights file start wanted budget out list out' list'
