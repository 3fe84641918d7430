-- The seed at a position of the schedule, for jobs that are "split by schedule position" (document 02, Item 7). Assumes nothing.
use Rattle.std.specs.Prelude.{cond, ℕ, eqb, Result, Ok, Err}
use Rattle.field.specs.Generator.{seed_after, iterate}
use Rattle.droplet.specs.declared.refusal.Refusal.{Refusal}
use Rattle.droplet.specs.Refusals.{refusal_number}

-- what the call answers
pub data SeedReply : Type 0 where
  seed : ℕ → SeedReply
  refused : ℕ → SeedReply

abbrev pub seed_answer : Result ℕ Refusal → SeedReply
seed_answer (Ok s) = seed s
seed_answer (Err q) = refused (refusal_number q)

-- the seed after so many steps from a start; "Start not 0? 6"
unfoldable pub seed_at : ℕ → ℕ → SeedReply
seed_at start steps = cond (eqb start 0) (refused 6) (seed (iterate steps seed_after start))
