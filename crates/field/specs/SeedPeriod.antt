-- Document 02, Item 7, "No seed twice": when the seed schedule comes back. Assumes nothing.
use Rattle.std.specs.Prelude.{◌≡◌, ℕ, ◌+◌, ◌<◌, ◌≢◌}
use Rattle.field.specs.Generator.{IsSeed, seed_after, iterate}

-- the steps after which the schedule comes back: as many as there are seeds
abbrev pub period : ℕ
period = 4294967295

-- "from any nonzero start the schedule comes back to it after 4,294,967,295 steps and not sooner"
pub record ComesBack (start : ℕ) : Type 0 where
  pub back : iterate period seed_after start ≡ start
  pub not_sooner : (t : ℕ) → 0 < t → t < period → iterate t seed_after start ≢ start

abbrev pub PeriodIs : Type 0
PeriodIs = (start : ℕ) → IsSeed start → ComesBack start

-- so the seeds at two positions differ where less than a period lies between them
abbrev pub PositionsDiffer : Type 0
PositionsDiffer = (start i j : ℕ) → IsSeed start → i < j → j < i + period → iterate i seed_after start ≢ iterate j seed_after start
