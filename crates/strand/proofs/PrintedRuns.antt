-- What the writer printed: each line of a run is the strand of a seed that was tried, a later line that of a later one, and the read check
-- gives this seed back with the file's payload. Assumes nothing.
use mathlib.Core.Path.{◌≡◌, sym, ap, ◌∙◌, subst}
use mathlib.Core.Bool.{true, cond}
use mathlib.Core.List.{List, [], ◌∷◌}
use mathlib.Core.Logic.{inl, inr}
use Prim.Native.Nat.{ℕ, zero, suc, ◌<◌}
use native.Mathlib.Nat.{zero-lt-suc, le_of_suc-le-suc}
use native.Mathlib.Omega.{arith}
use lib.ListN.{length, get_or}
use Rattle.field.specs.Bytes.{AllBytes}
use Rattle.field.specs.Generator.{IsSeed, seed_after, iterate, seeds_from}
use Rattle.field.proofs.Schedule.{steps-seed, seeds-length, seeds-at}
use Rattle.field.proofs.Tests.{either}
use Rattle.droplet.specs.declared.card.Card.{Card}
use Rattle.droplet.specs.Questions.{card_refusal}
use Rattle.screen.specs.declared.limits.Verdict.TheVariants.{Passes}
use Rattle.screen.specs.Letters.{word_letters}
use Rattle.screen.specs.Screen.{screen_passes}
use Rattle.strand.specs.ReadCheck.{droplet, read_check}
use Rattle.strand.specs.Writer.{payload_for, seed_word}
use Rattle.strand.specs.WriterRuns.{seeds_with, passing_first, AnsweredRun, PrintedRun, printed_line}
use Rattle.strand.proofs.Lines.{line_at}
use Rattle.strand.proofs.WriterAnswers.{accepted-card, roomy, own, answers-run}
use Rattle.strand.proofs.RoundTrips.{strands-read-back}

module _ (c : Card) (ws file : List ℕ) where
  -- ---- passing seeds, by their places

  -- where in a list of seeds the passing one stands that has i others before it
  place : List ℕ → ℕ → ℕ
  place [] i = 0
  place (seed ∷ seeds) zero = cond (screen_passes c (seed_word c ws file seed)) 0 (suc (place seeds zero))
  place (seed ∷ seeds) (suc i) = suc (place seeds (cond (screen_passes c (seed_word c ws file seed)) i (suc i)))

  -- the passing seed that has i others before it stands at place k
  record PassingAt (seeds : List ℕ) (i k : ℕ) : Type 0 where
    pub within : k < length seeds
    pub same : get_or (seeds_with Passes c ws file seeds) i 0 ≡ get_or seeds k 0
    pub passes : screen_passes c (seed_word c ws file (get_or seeds k 0)) ≡ true

  -- so it does one place further where one more seed stands in front, whether that one passes or not
  further : (seed : ℕ) (seeds : List ℕ) (i j k : ℕ) → get_or (seeds_with Passes c ws file (seed ∷ seeds)) i 0 ≡ get_or (seeds_with Passes c ws file seeds) j 0
      → PassingAt seeds j k → PassingAt (seed ∷ seeds) i (suc k)
  further seed seeds i j k e p = record { within = omega (arith, p.within); same = e ∙ p.same; passes = p.passes }

  passing-at : (seeds : List ℕ) (i : ℕ) → i < length (seeds_with Passes c ws file seeds) → PassingAt seeds i (place seeds i)
  unfolding seeds_with screen_passes place
  passing-at [] i h = absurd (let z : ⊥ = omega arith in z)
  passing-at (seed ∷ seeds) zero h =
      elim (either (screen_passes c (seed_word c ws file seed))) [
        | inl e ↦ rw e (record { within = zero-lt-suc (length seeds); same = rw e; passes = e })
        | inr e ↦ rw e (further seed seeds zero zero (place seeds zero) (rw e) (passing-at seeds zero (rw e at h)))
      ]
  passing-at (seed ∷ seeds) (suc i) h =
      elim (either (screen_passes c (seed_word c ws file seed))) [
        | inl e ↦ rw e (further seed seeds (suc i) i (place seeds i) (rw e) (passing-at seeds i (le_of_suc-le-suc (rw e at h))))
        | inr e ↦ rw e (further seed seeds (suc i) (suc i) (place seeds (suc i)) (rw e) (passing-at seeds (suc i) (rw e at h)))
      ]

  -- a later passing seed stands at a later place
  place-order : (seeds : List ℕ) (i j : ℕ) → i < j → j < length (seeds_with Passes c ws file seeds) → place seeds i < place seeds j
  unfolding seeds_with screen_passes place
  place-order [] i j l h = absurd (let z : ⊥ = omega arith in z)
  place-order (seed ∷ seeds) i zero l h = absurd (let z : ⊥ = omega arith in z)
  place-order (seed ∷ seeds) zero (suc j) l h =
      elim (either (screen_passes c (seed_word c ws file seed))) [
        | inl e ↦ rw e (zero-lt-suc (place seeds j))
        | inr e ↦ rw e (omega (arith, place-order seeds zero (suc j) l (rw e at h)))
      ]
  place-order (seed ∷ seeds) (suc i) (suc j) l h =
      elim (either (screen_passes c (seed_word c ws file seed))) [
        | inl e ↦ rw e (omega (arith, place-order seeds i j (le_of_suc-le-suc l) (le_of_suc-le-suc (rw e at h))))
        | inr e ↦ rw e (omega (arith, place-order seeds (suc i) (suc j) l (rw e at h)))
      ]

  -- ---- a run

  module _ (p : PrintedRun c ws file) where
    pub ran : AnsweredRun c ws file p.start p.wanted p.budget p.out p.list p.run p.out'
    ran = answers-run c ws file p.start p.wanted p.budget p.out p.list p.run p.out' p.list' p.wrote

    fine : card_refusal c ws ≡ 0
    fine = accepted-card c ws (length file) p.start p.wanted _ _ ran.unrefused

    pub start-seed : IsSeed p.start
    start-seed =
        let nonzero = (roomy (length file) (sym (own c ws (length file) p.start p.wanted _ _ fine) ∙ ran.unrefused)).starts in
        (omega arith, p.fits)

    -- the position, counted from the start, of the seed that a line carries
    pub position : ℕ → ℕ
    position i = place (seeds_from p.run.tried p.start) i

    abbrev pub seed_of : ℕ → ℕ
    seed_of i = iterate (position i) seed_after p.start

    printed : {i : ℕ} → i < p.run.made → i < length (passing_first c ws file p.start p.run.tried)
    printed {i} h = subst (λ n. i < n) ran.facts.counts h

    -- in the order of the schedule
    pub position-order : (i j : ℕ) → i < j → j < p.run.made → position i < position j
    unfolding position
    position-order i j l h = place-order (seeds_from p.run.tried p.start) i j l (printed h)

    module _ (i : ℕ) (h : i < p.run.made) where
      passing : PassingAt (seeds_from p.run.tried p.start) i (position i)
      unfolding position
      passing = passing-at (seeds_from p.run.tried p.start) i (printed h)

      pub position-lt : position i < p.run.tried
      position-lt = subst (λ n. position i < n) (seeds-length p.run.tried p.start) passing.within

      at_position : get_or (seeds_from p.run.tried p.start) (position i) 0 ≡ seed_of i
      at_position = seeds-at p.run.tried p.start (position i) position-lt

      line-spells : printed_line p i ≡ word_letters (seed_word c ws file (seed_of i))
      line-spells =
          rw (ran.prints, ran.facts.prints) (line_at c ws file (passing_first c ws file p.start p.run.tried) _ i (printed h))
          ∙ ap (λ s. word_letters (seed_word c ws file s)) (passing.same ∙ at_position)

      -- the read check gives back that seed, and the file's payload for it
      pub line_read : AllBytes file
          → read_check c ws (printed_line p i) ≡ droplet (seed_of i) (payload_for c ws file (seed_of i)) 0
      line_read bytes =
          let passes = subst (λ s. screen_passes c (seed_word c ws file s) ≡ true) at_position passing.passes in
          ap (read_check c ws) line-spells
          ∙ strands-read-back c ws file (seed_of i) fine bytes (steps-seed (position i) p.start start-seed) passes
