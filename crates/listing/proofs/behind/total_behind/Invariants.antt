-- `total_behind` meets its contract. The loop's invariant: the total so far, with the counts of the records from `i` on, is that of all
-- records, modulo 2^64. Assumes nothing.
use Rattle.std.proofs.Common.{◌≡◌, ℕ, ◌+◌, ◌-◌, ◌%◌, ◌^◌, ◌<◌, ◌≤◌, List}
use Rattle.decoder.specs.Store.{records}
use Rattle.decoder.specs.Demand3.{total_count}
use Rattle.decoder.proofs.RecordsAt.{records_from}
use Rattle.listing.proofs.behind.total_behind.Given as goal

-- the counts of the records from a place on
abbrev pub left : ℕ → ℕ → List ℕ → ℕ → ℕ
left L count store i = total_count (records_from L count store i)

pub record Summed (L count : ℕ) (store : List ℕ) (total i : ℕ) : Type 0 where
  pub within : i ≤ count
  pub small : total < 2 ^ 64
  pub same : (total + left L count store i) % 2 ^ 64 ≡ total_count (records L count store) % 2 ^ 64

abbrev pub invariant-loop-i : goal.invariant-loop-i
invariant-loop-i l = Summed l.l l.count l.store l.total l.i

abbrev pub decreases-loop-i : goal.decreases-loop-i
decreases-loop-i l = l.count - l.i
