-- A run writes the strands of the passing seeds among those it tried, counts the others under why they were dropped, stops at once when
-- it is done, and can be continued. Assumes nothing.
use mathlib.Core.Path.{◌≡◌, refl, sym, ap, ◌∙◌, subst}
use mathlib.Core.List.{List, [], ◌∷◌, ◌++◌, append_assoc}
use mathlib.Core.Logic.{inl, inr, ◌↔◌}
use Prim.Native.Nat.{ℕ, zero, suc, ◌+◌, ◌-◌, ◌<◌}
use native.Mathlib.Nat.{zero-add}
use native.Mathlib.Omega.{arith}
use borrow.Author.Tests.{eq-eqb, ne_eqb, eqb-true, eqb-false}
use lib.Dec.{eqb}
use lib.ListN.{length, length-append}
use Rattle.field.specs.Generator.{seed_after, iterate, seeds_from}
use Rattle.field.proofs.Tests.{either}
use Rattle.droplet.specs.declared.card.Card.{Card}
use Rattle.screen.specs.declared.limits.Verdict.{Verdict}
use Rattle.screen.specs.declared.limits.Verdict.TheVariants.{Passes, LongRun, GcAlone}
use Rattle.screen.specs.Screen.{word_verdict, is}
use Rattle.strand.specs.declared.writer.Stop.{Stop}
use Rattle.strand.specs.declared.writer.Stop.TheVariants.{Done, Spent}
use Rattle.strand.specs.Writer.{seed_word, strand_line, Progress, followed, one_try, RunEnd, run_end, write_from, writer_run}
use Rattle.strand.specs.WriterRuns.{seeds_with, passing_first, strand_lines, RunFacts, continuing, RunsContinue}
use Rattle.strand.proofs.Tries.{none, after_none, before-none, followed-assoc, tally, tried-next, tried-once, tried-tally, tried-text}

module _ (c : Card) (ws file : List ℕ) where
  -- ---- the clauses

  pub run-done : (wanted left : ℕ) (p : Progress) → p.made ≡ wanted → write_from c ws file wanted left p ≡ run_end Done p
  unfolding write_from
  run-done wanted zero p e = rw (eq-eqb p.made wanted e)
  run-done wanted (suc left) p e = rw (eq-eqb p.made wanted e)

  pub run-spent : (wanted : ℕ) (p : Progress) → (p.made ≡ wanted → ⊥) → write_from c ws file wanted zero p ≡ run_end Spent p
  unfolding write_from
  run-spent wanted p n = rw (ne_eqb p.made wanted n)

  pub run-try : (wanted left : ℕ) (p : Progress) → (p.made ≡ wanted → ⊥)
      → write_from c ws file wanted (suc left) p ≡ write_from c ws file wanted left (followed p (one_try c ws file p.next))
  unfolding write_from
  run-try wanted left p n = rw (ne_eqb p.made wanted n)

  -- ---- a run after another

  stop-cases : {P : Type 0} (stop : Stop) → (stop ≡ Done → P) → (stop ≡ Spent → P) → P
  stop-cases Done d s = d refl
  stop-cases Spent d s = s refl

  -- a run that has come so far already does as one that starts afresh
  shifted : (p : Progress) (wanted left : ℕ) (q : Progress)
      → write_from c ws file (p.made + wanted) left (followed p q) ≡ continuing p (write_from c ws file wanted left q)
  shifted p wanted zero q =
      elim (either (eqb q.made wanted)) [
        | inl e ↦ let h = eqb-true q.made wanted e in rw (run-done wanted zero q h) (run-done _ _ (followed p q) (ap (◌+◌ p.made) h))
        | inr e ↦ let h = eqb-false q.made wanted e in rw (run-spent wanted q h) (run-spent _ (followed p q) (λ z. h (omega arith)))
      ]
  shifted p wanted (suc left) q =
      elim (either (eqb q.made wanted)) [
        | inl e ↦ let h = eqb-true q.made wanted e in rw (run-done wanted (suc left) q h) (run-done _ _ (followed p q) (ap (◌+◌ p.made) h))
        | inr e ↦
            let h = eqb-false q.made wanted e in
            let one = one_try c ws file q.next in
            rw (run-try wanted left q h, run-try (p.made + wanted) left (followed p q) (λ z. h (omega arith)), followed-assoc p q one)
            (shifted p wanted left (followed q one))
      ]

  -- ---- what a run did

  apart : Done ≡ Spent → ⊥
  apart q = let z : ◌≡◌ {A = ℕ} 0 1 = cc in omega arith

  none-facts : (start wanted budget : ℕ) (stop : Stop) → (stop ≡ Done) ↔ (0 ≡ wanted) → (stop ≡ Spent → 0 ≡ budget)
      → RunFacts c ws file start wanted budget stop (none start)
  unfolding seeds_with strand_lines seeds_from iterate
  none-facts start wanted budget stop d s = record {
    prints = refl;
    counts = refl;
    adds_up = refl;
    counts_runs = refl;
    counts_gc = refl;
    steps = refl;
    in_budget = omega arith;
    not_more = omega arith;
    done = d;
    spent = s;
    at_once = λ t h. absurd (let z : ⊥ = omega arith in z);
  }

  with-cons : (v : Verdict) (seed : ℕ) (seeds : List ℕ)
      → seeds_with v c ws file (seed ∷ seeds) ≡ seeds_with v c ws file (seed ∷ []) ++ seeds_with v c ws file seeds
  unfolding seeds_with
  with-cons v seed seeds = elim (either (is v (word_verdict c (seed_word c ws file seed)))) [ inl p ↦ rw p | inr p ↦ rw p ]

  lines-append : (a b : List ℕ) → strand_lines c ws file (a ++ b) ≡ strand_lines c ws file a ++ strand_lines c ws file b
  unfolding strand_lines
  lines-append [] b = refl
  lines-append (s ∷ a) b = ap (◌++◌ (strand_line (seed_word c ws file s))) (lines-append a b) ∙ sym (append_assoc (strand_line (seed_word c ws file s)) _ _)

  Facts : ℕ → ℕ → ℕ → RunEnd → Type 0
  Facts start wanted budget (run_end stop p) = RunFacts c ws file start wanted budget stop p

  -- the start in front of a run from the seed after it
  module _ (start w wanted budget : ℕ) (sum : (one_try c ws file start).made + w ≡ wanted) (some : 0 < wanted) where
    abbrev first : Progress
    first = one_try c ws file start

    -- its count and theirs
    counts-both : (v : Verdict) (t n : ℕ) → n ≡ length (seeds_with v c ws file (seeds_from t (seed_after start)))
        → tally v first + n ≡ length (seeds_with v c ws file (seeds_from (suc t) start))
    unfolding seeds_from
    counts-both v t n e = rw (with-cons v start (seeds_from t (seed_after start)), length-append, tried-tally c ws file v start, e)

    earlier : (tried : ℕ) → ((t : ℕ) → t < tried → length (passing_first c ws file (seed_after start) t) < w)
        → (t : ℕ) → t < suc tried → length (passing_first c ws file start t) < wanted
    unfolding seeds_with seeds_from tally
    earlier tried f zero h = some
    earlier tried f (suc t) h = omega (arith, sum, counts-both Passes t _ refl, f t (omega arith))

    in-front : (r : RunEnd) → Facts (seed_after start) w budget r → Facts start wanted (suc budget) (continuing first r)
    unfolding Facts seeds_from iterate tally
    in-front (run_end stop p) f =
        let e : first.tried + p.tried ≡ suc p.tried = omega (arith, (tried-once c ws file start).once) in
        let all = with-cons Passes start (seeds_from p.tried (seed_after start)) in
        record {
          prints = rw (e, all, lines-append, tried-text c ws file start) (ap (◌++◌ (strand_lines c ws file (seeds_with Passes c ws file (start ∷ [])))) f.prints);
          counts = rw e (counts-both Passes p.tried p.made f.counts);
          adds_up = omega (arith, tried-once c ws file start, f.adds_up);
          counts_runs = rw e (counts-both LongRun p.tried p.dropped_run f.counts_runs);
          counts_gc = rw e (counts-both GcAlone p.tried p.dropped_gc f.counts_gc);
          steps = rw e f.steps;
          in_budget = omega (arith, e, f.in_budget);
          not_more = omega (arith, sum, f.not_more);
          done = (λ q. ap (◌+◌ first.made) (f.done.0 q) ∙ sum, λ q. f.done.1 (omega arith));
          spent = λ q. omega (arith, e, f.spent q);
          at_once = rw e (earlier p.tried f.at_once);
        }

    first-tried : writer_run c ws file start wanted (suc budget) ≡ continuing first (writer_run c ws file (seed_after start) w budget)
    unfolding writer_run
    first-tried =
        run-try wanted budget (none start) (λ q. omega arith) ∙ ap (write_from c ws file wanted budget) (after_none start first)
        ∙ rw (sum, before-none first) at (shifted first w budget (none first.next))
        ∙ ap (λ s. continuing first (write_from c ws file w budget (none s))) (tried-next c ws file start)

  -- ---- a run continued

  continuing-none : (start : ℕ) (r : RunEnd) → continuing (none start) r ≡ r
  continuing-none start (run_end stop p) = ap (run_end stop) (after_none start p)

  continuing-both : (p q : Progress) (r : RunEnd) → continuing (followed p q) r ≡ continuing p (continuing q r)
  continuing-both p q (run_end stop r) = ap (run_end stop) (followed-assoc p q r)

  Continues : ℕ → RunEnd → Type 0
  Continues start (run_end stop p) = (more b : ℕ) → (stop ≡ Spent → 0 < more)
      → writer_run c ws file start (p.made + more) (p.tried + b) ≡ continuing p (writer_run c ws file p.next more b)

  none-continues : (start : ℕ) (stop : Stop) → Continues start (run_end stop (none start))
  unfolding Continues
  none-continues start stop more b _ = simp (zero-add, continuing-none start (writer_run c ws file start more b))

  -- the start in front: it is tried first, since more than none is wanted
  in-front-continues : (start wanted budget : ℕ) → 0 < wanted → (r : RunEnd) → Facts start wanted budget (continuing (one_try c ws file start) r)
      → Continues (seed_after start) r → Continues start (continuing (one_try c ws file start) r)
  unfolding Facts Continues
  in-front-continues start wanted budget some (run_end stop p) f h =
      λ more b spent.
      let first = one_try c ws file start in
      let whole = followed first p in
      let tries : whole.tried + b ≡ suc (p.tried + b) = omega (arith, (tried-once c ws file start).once) in
      let sum : first.made + (p.made + more) ≡ whole.made + more = omega arith in
      let not_none : 0 < whole.made + more = stop-cases stop (λ q. omega (arith, f.done.0 q)) (λ q. omega (arith, spent q)) in
      rw (tries, first-tried start (p.made + more) (whole.made + more) (p.tried + b) sum not_none, h more b spent)
      (sym (continuing-both first p (writer_run c ws file p.next more b)))

  -- ---- every run

  Known : ℕ → ℕ → ℕ → RunEnd → Type 0
  Known start wanted budget r = Facts start wanted budget r × Continues start r

  none_done : (budget start wanted : ℕ) → 0 ≡ wanted → Known start wanted budget (writer_run c ws file start wanted budget)
  unfolding Facts Known writer_run
  none_done budget start wanted h =
      rw (run-done wanted budget (none start) h)
      (none-facts start wanted budget Done (λ _. h, λ _. refl) (λ q. absurd (apart q)), none-continues start Done)

  none-spent : (start wanted : ℕ) → (0 ≡ wanted → ⊥) → Known start wanted zero (writer_run c ws file start wanted zero)
  unfolding Facts Known writer_run
  none-spent start wanted h =
      rw (run-spent wanted (none start) h)
      (none-facts start wanted zero Spent (λ q. absurd (apart (sym q)), λ q. absurd (h q)) (λ _. refl), none-continues start Spent)

  ran : (budget start wanted : ℕ) → Known start wanted budget (writer_run c ws file start wanted budget)
  unfolding Known
  ran zero start wanted =
      elim (either (eqb 0 wanted)) [ inl e ↦ none_done zero start wanted (eqb-true 0 wanted e) | inr e ↦ none-spent start wanted (eqb-false 0 wanted e) ]
  ran (suc budget) start wanted =
      elim (either (eqb 0 wanted)) [
        | inl e ↦ none_done (suc budget) start wanted (eqb-true 0 wanted e)
        | inr e ↦
            let h = eqb-false 0 wanted e in
            let some : 0 < wanted = omega arith in
            let w = wanted - (one_try c ws file start).made in
            let sum : (one_try c ws file start).made + w ≡ wanted = omega (arith, (tried-once c ws file start).adds) in
            let rest = writer_run c ws file (seed_after start) w budget in
            let known = ran budget (seed_after start) w in
            let facts = in-front start w wanted budget sum some rest known.0 in
            rw (first-tried start w wanted budget sum some) (facts, in-front-continues start wanted (suc budget) some rest facts known.1)
      ]

  pub run-facts : (start wanted budget : ℕ) (stop : Stop) (p : Progress) → writer_run c ws file start wanted budget ≡ run_end stop p
      → RunFacts c ws file start wanted budget stop p
  unfolding Facts Known
  run-facts start wanted budget stop p e = subst (Facts start wanted budget) e (ran budget start wanted).0

pub runs-continue : RunsContinue
unfolding Continues Known
runs-continue c ws file start wanted budget stop p e = subst (Continues c ws file start) e (ran c ws file budget start wanted).1
