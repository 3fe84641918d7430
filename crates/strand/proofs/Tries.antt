-- What one seed adds to a run, and how parts of a run are put together. Assumes nothing.
use mathlib.Core.Path.{◌≡◌, refl}
use mathlib.Core.Bool.{cond}
use mathlib.Core.List.{List, [], ◌∷◌, append_assoc, append-nil}
use Prim.Native.Nat.{ℕ, ◌+◌}
use native.Mathlib.Nat.{zero-add, add-zero, add_assoc}
use native.Mathlib.Omega.{arith}
use lib.ListN.{length}
use Rattle.field.specs.Generator.{seed_after}
use Rattle.droplet.specs.declared.card.Card.{Card}
use Rattle.screen.specs.declared.limits.Verdict.{Verdict}
use Rattle.screen.specs.declared.limits.Verdict.TheVariants.{Passes, LongRun, GcAlone}
use Rattle.screen.specs.Screen.{word_verdict, is}
use Rattle.strand.specs.Writer.{seed_word, strand_line, Progress, progress, followed, judged, one_try}
use Rattle.strand.specs.WriterRuns.{seeds_with, strand_lines}

-- ---- parts put together

-- nothing tried yet
abbrev pub none : ℕ → Progress
none start = progress 0 0 start 0 0 []

pub after_none : (start : ℕ) (p : Progress) → followed (none start) p ≡ p
after_none start p = simp zero-add

pub before-none : (p : Progress) → followed p (none p.next) ≡ p
before-none p = simp (add-zero, append-nil)

pub followed-assoc : (p q r : Progress) → followed (followed p q) r ≡ followed p (followed q r)
followed-assoc p q r = simp (add_assoc, append_assoc)

-- ---- one seed, by the verdict on its strand

-- how many strands had this verdict
unfoldable pub tally : Verdict → Progress → ℕ
tally Passes p = p.made
tally LongRun p = p.dropped_run
tally GcAlone p = p.dropped_gc

judged-tally : (v w : Verdict) (seed : ℕ) (line : List ℕ) → tally v (judged w seed line) ≡ length (cond (is v w) (seed ∷ []) [])
unfolding tally
judged-tally Passes Passes seed line = omega arith
judged-tally Passes LongRun seed line = omega arith
judged-tally Passes GcAlone seed line = omega arith
judged-tally LongRun Passes seed line = omega arith
judged-tally LongRun LongRun seed line = omega arith
judged-tally LongRun GcAlone seed line = omega arith
judged-tally GcAlone Passes seed line = omega arith
judged-tally GcAlone LongRun seed line = omega arith
judged-tally GcAlone GcAlone seed line = omega arith

-- one seed is tried, and its strand counts once
pub record Once (p : Progress) : Type 0 where
  pub once : p.tried ≡ 1
  pub adds : p.made + (p.dropped_run + p.dropped_gc) ≡ 1

judged-once : (w : Verdict) (seed : ℕ) (line : List ℕ) → Once (judged w seed line)
judged-once Passes seed line = record { once = refl; adds = omega arith }
judged-once LongRun seed line = record { once = refl; adds = omega arith }
judged-once GcAlone seed line = record { once = refl; adds = omega arith }

judged-next : (w : Verdict) (seed : ℕ) (line : List ℕ) → (judged w seed line).next ≡ seed_after seed
judged-next Passes seed line = refl
judged-next LongRun seed line = refl
judged-next GcAlone seed line = refl

module _ (c : Card) (ws file : List ℕ) where
  judged-text : (w : Verdict) (seed : ℕ)
      → (judged w seed (strand_line (seed_word c ws file seed))).text ≡ strand_lines c ws file (cond (is Passes w) (seed ∷ []) [])
  unfolding strand_lines
  judged-text Passes seed = rw append-nil
  judged-text LongRun seed = refl
  judged-text GcAlone seed = refl

  pub tried-next : (seed : ℕ) → (one_try c ws file seed).next ≡ seed_after seed
  unfolding one_try
  tried-next seed = judged-next (word_verdict c (seed_word c ws file seed)) seed _

  pub tried-once : (seed : ℕ) → Once (one_try c ws file seed)
  unfolding one_try
  tried-once seed = judged-once (word_verdict c (seed_word c ws file seed)) seed _

  pub tried-tally : (v : Verdict) (seed : ℕ) → tally v (one_try c ws file seed) ≡ length (seeds_with v c ws file (seed ∷ []))
  unfolding one_try seeds_with
  tried-tally v seed = judged-tally v (word_verdict c (seed_word c ws file seed)) seed _

  pub tried-text : (seed : ℕ) → (one_try c ws file seed).text ≡ strand_lines c ws file (seeds_with Passes c ws file (seed ∷ []))
  unfolding one_try seeds_with strand_lines
  tried-text seed = judged-text (word_verdict c (seed_word c ws file seed)) seed
