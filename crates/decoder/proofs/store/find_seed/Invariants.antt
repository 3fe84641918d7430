-- `find_seed`, its loop: the search over all records finds what the search over those left finds, its number raised by the records passed.
-- Assumes nothing.
use Rattle.std.proofs.Common.{◌≡◌, ℕ, ◌+◌, List}
use Rattle.decoder.specs.Store.{Found, found, absent, records, find_seed}
use Rattle.decoder.proofs.RecordsAt.{records_from}
use Rattle.decoder.proofs.store.find_seed.Given as goal

-- what was found behind n records
abbrev pub behind : ℕ → Found → Found
behind n (found i r) = found (n + i) r
behind n absent = absent

-- none of the first i records has the seed
abbrev pub Passed : ℕ → ℕ → ℕ → List ℕ → ℕ → Type 0
Passed L count seed store i = find_seed seed (records L count store) ≡ behind i (find_seed seed (records_from L count store i))

abbrev pub invariant-loop-i : goal.invariant-loop-i
invariant-loop-i l = Passed l.l l.count l.seed l.store l.i
