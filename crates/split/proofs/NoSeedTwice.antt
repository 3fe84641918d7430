-- No seed is printed twice: within a run, nor by two runs of which each has its own stretch of the schedule within a period. Assumes nothing.
use mathlib.Core.Path.{◌≡◌, sym, ap, ◌∙◌, subst}
use mathlib.Core.List.{List, [], ◌∷◌}
use Prim.Native.Nat.{ℕ, ◌+◌, ◌-◌, ◌<◌, ◌≤◌}
use native.Mathlib.Omega.{arith}
use native.Mathlib.Decide.{dec_lt}
use Rattle.field.specs.Bytes.{All, AllBytes}
use Rattle.field.specs.Generator.{IsSeed, seed_after, iterate, seeds_from}
use Rattle.field.specs.SeedPeriod.{period}
use Rattle.field.proofs.Iterates.{iterate-add}
use Rattle.field.proofs.Schedule.{seeds-add}
use Rattle.field.proofs.SeedPeriod.{positions-differ}
use Rattle.droplet.specs.declared.card.Card.{Card}
use Rattle.strand.specs.ReadCheck.{droplet, read_check}
use Rattle.strand.specs.WriterRuns.{PrintedRun, printed_line}
use Rattle.strand.proofs.PrintedRuns.{ran, start-seed, position, seed_of, position-order, position-lt, line_read}
use Rattle.split.specs.NoSeedTwice.{OtherSeed, seed_from, NoneTwice, ShareNone, Stretch, Consecutive, spans, InOnePlace, NoSeedTwice}
use Rattle.split.proofs.SeedPositions.{found}

module _ (c : Card) (ws file : List ℕ) where
  -- ---- seeds, by their positions

  -- the seeds of two lines of one run
  module _ (p : PrintedRun c ws file) (few : p.run.tried ≤ period) where
    later-line : (i j : ℕ) → i < j → j < p.run.made → seed_of c ws file p i ≡ seed_of c ws file p j → ⊥
    later-line i j l h =
        positions-differ p.start (position c ws file p i) (position c ws file p j) (start-seed c ws file p) (position-order c ws file p i j l h)
        (omega (arith, position-lt c ws file p j h))

    other-lines : (i j : ℕ) → i < p.run.made → j < p.run.made → (i ≡ j → ⊥) → seed_of c ws file p i ≡ seed_of c ws file p j → ⊥
    other-lines i j h k other e = elim (dec_lt i j) [ yes l ↦ later-line i j l k e | no l ↦ later-line j i (omega arith) h (sym e) ]

  -- the seeds that two runs tried, from positions a and b of one start
  module _ (start a b : ℕ) (legal : IsSeed start) (p q : Stretch c ws file) where
    other-seeds : p.by.start ≡ iterate a seed_after start → q.by.start ≡ iterate b seed_after start → a + p.span ≤ b → b + q.span ≤ a + period
        → (k l : ℕ) → k < p.by.run.tried → l < q.by.run.tried → seed_from c ws file p.by k ≡ seed_from c ws file q.by l → ⊥
    other-seeds e f before within k l h m same =
        positions-differ start (a + k) (b + l) legal (omega (arith, p.within)) (omega (arith, q.within))
        (iterate-add seed_after a k start ∙ ap (iterate k seed_after) (sym e) ∙ same ∙ ap (iterate l seed_after) f ∙ sym (iterate-add seed_after b l start))

  -- ---- lines, by what the read check gives back

  module _ (bytes : AllBytes file) where
    line-seed : (p : PrintedRun c ws file) (i : ℕ) → i < p.run.made → (s : ℕ) (payload : List ℕ) (k : ℕ)
        → read_check c ws (printed_line p i) ≡ droplet s payload k → s ≡ seed_of c ws file p i
    line-seed p i h s payload k e =
        let same : droplet s payload k ≡ droplet (seed_of c ws file p i) _ _ = sym e ∙ line_read c ws file p i h bytes in
        cc

    lines-differ : (p q : PrintedRun c ws file) (i j : ℕ) → i < p.run.made → j < q.run.made → (seed_of c ws file p i ≡ seed_of c ws file q j → ⊥)
        → OtherSeed c ws (printed_line p i) (printed_line q j)
    lines-differ p q i j h l differ s s' a a' k k' e e' same = differ (sym (line-seed p i h s a k e) ∙ same ∙ line-seed q j l s' a' k' e')

    none-twice : (p : PrintedRun c ws file) → p.run.tried ≤ period → NoneTwice c ws file p
    none-twice p few i j h k other = lines-differ p p i j h k (other-lines p few i j h k other)

    share-none : (start a b : ℕ) → IsSeed start → (p q : Stretch c ws file)
        → p.by.start ≡ iterate a seed_after start → q.by.start ≡ iterate b seed_after start → a + p.span ≤ b → b + q.span ≤ a + period
        → ShareNone c ws file p.by q.by
    share-none start a b legal p q e f before within =
        let differ = other-seeds start a b legal p q e f before within in
        record {
          tried = differ;
          printed = λ i j h m. lines-differ p.by q.by i j h m
              (differ _ _ (position-lt c ws file p.by i h) (position-lt c ws file q.by j m));
        }

    -- ---- a list of runs

    -- the first of them and the others, of which the next starts at position b
    first-apart : (start : ℕ) → IsSeed start → (p : Stretch c ws file) → p.by.start ≡ start → (b : ℕ) (ps : List (Stretch c ws file))
        → Consecutive c ws file (iterate b seed_after start) ps → p.span ≤ b → b + spans c ws file ps ≤ period
        → All (λ q. ShareNone c ws file p.by q.by) ps
    unfolding iterate
    first-apart start legal p e b [] follow before within = tt
    first-apart start legal p e b (q ∷ ps) follow before within = (
      share-none start 0 b legal p q e follow.0 (omega arith) (omega arith),
      first-apart start legal p e (b + q.span) ps (rw (iterate-add seed_after b q.span start) follow.1) (omega arith) (omega arith),
    )

    in-one-place : (start : ℕ) (ps : List (Stretch c ws file)) → Consecutive c ws file start ps → spans c ws file ps ≤ period → InOnePlace c ws file ps
    in-one-place start [] follow within = tt
    in-one-place start (p ∷ ps) follow within = (
      none-twice p.by (omega (arith, p.within)),
      first-apart start (subst IsSeed follow.0 (start-seed c ws file p.by)) p follow.0 p.span ps follow.1 (omega arith) within,
      in-one-place (iterate p.span seed_after start) ps follow.1 (omega arith),
    )

-- `omega` shows that the statement's numbers are those that the laws ask for
pub no-seed-twice : NoSeedTwice
no-seed-twice c ws file bytes = record {
  carries = λ p i h. (position c ws file p i, position-lt c ws file p i h, line_read c ws file p i h bytes);
  one_run = λ p budget. none-twice c ws file bytes p (omega (arith, (ran c ws file p).facts.in_budget));
  stretches = λ start ps follow within. in-one-place c ws file bytes start ps follow (omega arith);
  by_position = λ start a b p q fits e f before within.
      let at = found start a p.by.start e in
      let nonzero = at.nonzero in
      share-none c ws file bytes start a b (omega arith, fits) p q at.there (found start b q.by.start f).there (omega arith) (omega arith);
  in_budget = λ p n h. omega (arith, (ran c ws file p).facts.in_budget);
  goes_on = λ p. (ran c ws file p).facts.steps;
  front = λ p.
      let tried = p.by.run.tried in
      let e : tried + (p.span - tried) ≡ p.span = omega (arith, p.within) in
      rw (ran c ws file p.by).facts.steps (ap (λ n. seeds_from n p.by.start) (sym e) ∙ seeds-add tried (p.span - tried) p.by.start);
}
