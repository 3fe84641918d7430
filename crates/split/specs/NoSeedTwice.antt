-- Document 02, Item 7, "No seed twice": "Long jobs are split by schedule position, and two writers must never print one seed in two
-- places." Said of calls of the writer for a file under a card, and of the seeds that the read check gives back. Assumes nothing.
use Rattle.std.specs.Prelude.{◌≡◌, List, [], ◌∷◌, ◌++◌, ℕ, ◌+◌, ◌-◌, ◌^◌, ◌<◌, ◌≤◌}
use Rattle.field.specs.Bytes.{All, AllBytes}
use Rattle.field.specs.Generator.{seed_after, iterate, seeds_from}
use Rattle.field.specs.SeedPeriod.{period}
use Rattle.droplet.specs.declared.card.Card.{Card}
use Rattle.strand.specs.ReadCheck.{droplet, read_check}
use Rattle.strand.specs.Writer.{payload_for}
use Rattle.strand.specs.WriterRuns.{PrintedRun, printed_line}
use Rattle.split.specs.SeedPosition.{seed, seed_at}

-- if the read check accepts two reads, their seeds differ
abbrev pub OtherSeed : Card → List ℕ → List ℕ → List ℕ → Type 0
OtherSeed c weights read read' =
    (s s' : ℕ) (p p' : List ℕ) (k k' : ℕ) → read_check c weights read ≡ droplet s p k → read_check c weights read' ≡ droplet s' p' k' → s ≡ s' → ⊥

module _ (c : Card) (weights file : List ℕ) where
  -- the seed k steps after a run's start; the run tried it if k is below tried
  abbrev pub seed_from : PrintedRun c weights file → ℕ → ℕ
  seed_from p k = iterate k seed_after p.start

  -- a line carries a seed, with the file's payload for it
  abbrev pub Carries : PrintedRun c weights file → ℕ → ℕ → Type 0
  Carries p i s = read_check c weights (printed_line p i) ≡ droplet s (payload_for c weights file s) 0

  -- no two lines of a run carry the same seed
  abbrev pub NoneTwice : PrintedRun c weights file → Type 0
  NoneTwice p = (i j : ℕ) → i < p.run.made → j < p.run.made → (i ≡ j → ⊥) → OtherSeed c weights (printed_line p i) (printed_line p j)

  -- two runs share no seed: none of those that they tried, and so none of those that their lines carry
  pub record ShareNone (p q : PrintedRun c weights file) : Type 0 where
    pub tried : (k l : ℕ) → k < p.run.tried → l < q.run.tried → seed_from p k ≡ seed_from q l → ⊥
    pub printed : (i j : ℕ) → i < p.run.made → j < q.run.made → OtherSeed c weights (printed_line p i) (printed_line q j)

  -- a run and the length of its stretch of the schedule, from the run's start on: the run tried no more seeds than that
  pub record Stretch : Type 0 where
    pub by : PrintedRun c weights file
    pub span : ℕ
    pub within : by.run.tried ≤ span

  -- "consecutive stretches": the first from a start on, each other from where the one before it ends
  abbrev pub Consecutive : ℕ → List Stretch → Type 0
  Consecutive start [] = Unit {0}
  Consecutive start (p ∷ ps) = (p.by.start ≡ start) × Consecutive (iterate p.span seed_after start) ps

  -- the sum of their lengths
  abbrev pub spans : List Stretch → ℕ
  spans [] = 0
  spans (p ∷ ps) = p.span + spans ps

  -- no seed is printed in two places: none twice by one of them, and none by two of them
  abbrev pub InOnePlace : List Stretch → Type 0
  InOnePlace [] = Unit {0}
  InOnePlace (p ∷ ps) = NoneTwice p.by × All (λ q. ShareNone p.by q.by) ps × InOnePlace ps

  pub record SeedsOnce : Type 0 where
    -- each line that a run printed carries a seed, one of those that it tried
    pub carries : (p : PrintedRun c weights file) (i : ℕ) → i < p.run.made → (k : ℕ) × (k < p.run.tried) × Carries p i (seed_from p k)
    -- "no two strands of one writer run carry the same seed"; a budget is "a 32-bit number"
    pub one_run : (p : PrintedRun c weights file) → p.budget < 2 ^ 32 → NoneTwice p
    -- "the runs of consecutive stretches whose lengths sum to at most that number share none"
    pub stretches : (start : ℕ) (ps : List Stretch) → Consecutive start ps → spans ps ≤ period → InOnePlace ps
    -- "split by schedule position": two runs whose starts `seed_at` answered for positions a and b of one start share none, if the stretch from
    -- a ends at b or before, and the one from b within a period of a; of many runs so split, any two
    pub by_position : (start a b : ℕ) (p q : Stretch) → start < 2 ^ 32 → seed_at start a ≡ seed p.by.start → seed_at start b ≡ seed q.by.start
        → a + p.span ≤ b → b + q.span ≤ a + period → ShareNone p.by q.by
    -- a run whose budget is at most the length of its stretch stays within it
    pub in_budget : (p : PrintedRun c weights file) (n : ℕ) → p.budget ≤ n → p.run.tried ≤ n
    -- its next seed, with which a later call goes on, stands behind those that it tried
    pub goes_on : (p : PrintedRun c weights file) → p.run.next ≡ seed_from p p.run.tried
    -- a run that stops early tried a front of its stretch
    pub front : (p : Stretch)
        → seeds_from p.span p.by.start ≡ seeds_from p.by.run.tried p.by.start ++ seeds_from (p.span - p.by.run.tried) p.by.run.next

-- for every card, weights and file; a file is a list of bytes, as every `&[u8]` is
abbrev pub NoSeedTwice : Type 0
NoSeedTwice = (c : Card) (weights file : List ℕ) → AllBytes file → SeedsOnce c weights file
