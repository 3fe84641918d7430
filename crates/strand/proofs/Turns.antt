-- One turn of the writer's loop: what is left of the budget takes the numbers and lines so far to the whole run, and the buffer past them is
-- as it was lent. Assumes nothing.
use mathlib.Core.Path.{◌≡◌, refl, sym, ap, ◌∙◌}
use mathlib.Core.Bool.{false}
use mathlib.Core.List.{List, ◌++◌, append-nil}
use Prim.Native.Nat.{ℕ, suc, ◌+◌, ◌-◌, ◌*◌, ◌<◌, ◌≤◌}
use native.Mathlib.Nat.{mul-le-mul_right, zero-mul, suc-mul, sub-zero, add-zero}
use native.Mathlib.Numerals.{add-one}
use native.Mathlib.Omega.{arith}
use lib.ListN.{length, take, drop, length-append, take-append-drop}
use lib.Seq.{drop-drop}
use Rattle.droplet.specs.declared.card.Card.{Card}
use Rattle.droplet.specs.PoolCard.{weight_count, strand_bases}
use Rattle.screen.specs.declared.limits.Verdict.{Verdict}
use Rattle.screen.specs.declared.limits.Verdict.TheVariants.{Passes, LongRun, GcAlone}
use Rattle.screen.specs.Screen.{is}
use Rattle.screen.proofs.Screening.{passes, fails}
use Rattle.strand.specs.declared.writer.Run.{Run}
use Rattle.strand.specs.declared.writer.Stop.{Stop}
use Rattle.strand.specs.declared.writer.Stop.TheVariants.{Done, Spent}
use Rattle.strand.specs.Writer.{seed_word, strand_line, followed, judged, one_try, run_end, write_from, writer_run, answered_progress}
use Rattle.strand.specs.Loops.{with_front, begun, counted, Counts, Tried, Ran}
use Rattle.strand.proofs.Runs.{run-done, run-spent, run-try}
use Rattle.strand.proofs.Lines.{line-length, text-taken, text-dropped}

-- where the next line goes
abbrev pub place : Card → Run → ℕ
place c run = run.made * (strand_bases c + 1)

-- a run as it ended
abbrev pub stopped : Stop → Run → Run
stopped stop run = record { stop = stop; made = run.made; tried = run.tried; next = run.next; dropped_run = run.dropped_run; dropped_gc = run.dropped_gc }

-- where the run stands after i seeds
pub record Stands (c : Card) (ws file : List ℕ) (start wanted budget : ℕ) (out₀ list₀ out list : List ℕ) (run : Run) (i : ℕ) : Type 0 where
  pub tries : run.tried ≡ i
  pub counts : Counts run
  pub not_more : run.made ≤ wanted
  pub goes_on : write_from c ws file wanted (budget - i) (answered_progress run (take (place c run) out)) ≡ writer_run c ws file start wanted budget
  pub rest : drop (place c run) out ≡ drop (place c run) out₀
  pub long : length out ≡ length out₀
  pub keeps : drop (weight_count ws) list ≡ drop (weight_count ws) list₀

module _ {c : Card} {ws file : List ℕ} {start wanted budget : ℕ} {out₀ list₀ : List ℕ} where
  pub at_start : Stands c ws file start wanted budget out₀ list₀ out₀ list₀ (begun start) 0
  unfolding writer_run
  at_start = record {
    tries = refl;
    counts = record { adds_up = omega arith };
    not_more = omega arith;
    goes_on = rw (zero-mul (strand_bases c + 1), sub-zero budget);
    rest = refl;
    long = refl;
    keeps = refl;
  }

  module _ {out list : List ℕ} {run : Run} {i : ℕ} (now : Stands c ws file start wanted budget out₀ list₀ out list run i) where
    abbrev at : ℕ
    at = place c run

    -- the two ways in which it stops
    ended : (stop : Stop) → writer_run c ws file start wanted budget ≡ run_end stop (answered_progress run (take at out))
        → Ran c ws file start wanted budget (stopped stop run) out₀ list₀ out list
    ended stop e = record { ends = e; rest = now.rest; keeps = now.keeps }

    pub done : run.made ≡ wanted → Ran c ws file start wanted budget (stopped Done run) out₀ list₀ out list
    done e = ended Done (sym now.goes_on ∙ run-done c ws file wanted (budget - i) _ e)

    pub spent : (run.made ≡ wanted → ⊥) → i ≡ budget → Ran c ws file start wanted budget (stopped Spent run) out₀ list₀ out list
    spent more e =
        let none : budget - i ≡ 0 = omega arith in
        ended Spent (sym (rw none at now.goes_on) ∙ run-spent c ws file wanted _ more)

    -- a turn, in which it does not
    module _ (more : run.made ≡ wanted → ⊥) (left : i < budget) where
      -- there is room for one more line
      pub room : wanted * (strand_bases c + 1) ≤ length out₀ → at + (strand_bases c + 1) ≤ length out
      room h =
          let k : suc run.made ≤ wanted = omega (arith, now.not_more) in
          omega (arith, now.long, suc-mul run.made (strand_bases c + 1), mul-le-mul_right (strand_bases c + 1) k)

      module _ {v : Verdict} {part list' : List ℕ} (turn : Tried c ws file run.next v (drop at out) list part list')
          (long : length part ≡ length (drop at out)) (fits : at + (strand_bases c + 1) ≤ length out) where
        -- the buffer after it: the seed had the part behind the lines so far
        abbrev out' : List ℕ
        out' = take at out ++ part

        same-length : length out' ≡ length out
        same-length = length-append (take at out) part ∙ ap (λ n. length (take at out) + n) long ∙ sym (length-append (take at out) (drop at out))
            ∙ ap length (take-append-drop at out)

        line : List ℕ
        line = strand_line (seed_word c ws file run.next)

        -- what the seed adds, by its verdict
        added : write_from c ws file wanted (budget - (i + 1)) (followed (answered_progress run (take at out)) (judged v run.next line))
            ≡ writer_run c ws file start wanted budget
        unfolding one_try line
        added =
            let goes : budget - i ≡ suc (budget - (i + 1)) = omega arith in
            rw turn.printed.says
            (sym (run-try c ws file wanted (budget - (i + 1)) (answered_progress run (take at out)) more)
            ∙ ap (λ k. write_from c ws file wanted k (answered_progress run (take at out))) (sym goes) ∙ now.goes_on)

        passed : v ≡ Passes → Stands c ws file start wanted budget out₀ list₀ out' list' (counted Passes run) (i + 1)
        unfolding line
        passed e =
            let n = line-length c ws file run.next in
            let p = passes c (seed_word c ws file run.next) turn.printed.says e in
            let printed : part ≡ with_front line (drop at out) = rw p at turn.printed.prints in
            let written : out' ≡ take at out ++ with_front line (drop at out) = ap (λ (l : List ℕ). take at out ++ l) printed in
            let behind : (run.made + 1) * (strand_bases c + 1) ≡ at + (strand_bases c + 1) = rw (add-one run.made) (omega (arith, suc-mul run.made (strand_bases c + 1))) in
            let taken : take (at + (strand_bases c + 1)) out' ≡ take at out ++ line =
            ap (take (at + (strand_bases c + 1))) written ∙ rw n at (text-taken at line out (omega arith)) in
            record {
              tries = ap (λ k. k + 1) now.tries;
              counts = record { adds_up = omega (arith, now.counts) };
              not_more = omega (arith, now.not_more);
              goes_on = rw (behind, taken) (rw e at added);
              rest =
                  rw behind
                  (ap (drop (at + (strand_bases c + 1))) written ∙ rw n at (text-dropped at line out (omega arith))
                  ∙ sym (drop-drop (strand_bases c + 1) at out) ∙ ap (drop (strand_bases c + 1)) now.rest ∙ drop-drop (strand_bases c + 1) at out₀);
              long = same-length ∙ now.long;
              keeps = turn.keeps ∙ now.keeps;
            }

        -- it was not written, and counts under why
        dropped : (w : Verdict) → v ≡ w → is Passes w ≡ false → (counted w run).made ≡ run.made → (counted w run).tried ≡ run.tried + 1
            → Counts (counted w run)
            → followed (answered_progress run (take at out)) (judged w run.next line) ≡ answered_progress (counted w run) (take at out)
            → Stands c ws file start wanted budget out₀ list₀ out' list' (counted w run) (i + 1)
        dropped w e over same one counts numbers =
            let here : place c (counted w run) ≡ at = ap (λ k. k * (strand_bases c + 1)) same in
            let stays = fails c (seed_word c ws file run.next) turn.printed.says (ap (is Passes) e ∙ over) in
            let part-kept : part ≡ drop at out = rw stays at turn.printed.prints in
            let kept : out' ≡ out = ap (λ (l : List ℕ). take at out ++ l) part-kept ∙ take-append-drop at out in
            record {
              tries = one ∙ ap (λ k. k + 1) now.tries;
              counts = counts;
              not_more = omega (arith, same, now.not_more);
              goes_on = rw (here, kept) (simp (e, numbers) at added);
              rest = rw (here, kept) now.rest;
              long = same-length ∙ now.long;
              keeps = turn.keeps ∙ now.keeps;
            }

        turned-as : (w : Verdict) → v ≡ w → Stands c ws file start wanted budget out₀ list₀ out' list' (counted w run) (i + 1)
        turned-as Passes e = passed e
        turned-as LongRun e = dropped LongRun e refl (add-zero run.made) refl (record { adds_up = omega (arith, now.counts) }) (rw append-nil)
        turned-as GcAlone e = dropped GcAlone e refl (add-zero run.made) refl (record { adds_up = omega (arith, now.counts) }) (rw append-nil)

        pub turned : Stands c ws file start wanted budget out₀ list₀ out' list' (counted v run) (i + 1)
        turned = turned-as v refl
