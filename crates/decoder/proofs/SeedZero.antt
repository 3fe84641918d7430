-- A search of records for a seed: found, passed, and the end. Assumes nothing.
use mathlib.Core.Path.{◌≡◌, ap}
use mathlib.Core.Bool.{true, false}
use mathlib.Core.List.{List, ◌++◌}
use Prim.Native.Nat.{ℕ, ◌*◌, ◌≤◌, ◌<◌}
use borrow.Author.Tests.{eq-eqb, ne_eqb}
use lib.ListN.{length, take}
use Rattle.decoder.specs.Store.{record_bytes, record_seed, record_from, records}
use Rattle.decoder.specs.Restorer.{has_seed}
use Rattle.decoder.specs.Loops.{records_in}
use Rattle.decoder.proofs.RecordsIn.{records_in-cons, records_in-short, records_in-first}

-- the first records of a store
pub seed_in-first : (L s count : ℕ) (store first : List ℕ) → count * record_bytes L ≤ length store → first ≡ take (count * record_bytes L) store
    → has_seed s (records_in L first) ≡ has_seed s (records L count store)
seed_in-first L s count store first fits e = rw e (ap (has_seed s) (records_in-first L count store fits))

module _ (L s : ℕ) (bytes : List ℕ) where
  module _ (x rest : List ℕ) (e : bytes ≡ x ++ rest) (size : length x ≡ record_bytes L) where
    pub seed-here : record_seed x ≡ s → has_seed s (records_in L bytes) ≡ true
    unfolding has_seed record_from
    seed-here same = rw (records_in-cons L bytes x rest e size, eq-eqb _ _ same)

    pub seed-past : (record_seed x ≡ s → ⊥) → has_seed s (records_in L bytes) ≡ has_seed s (records_in L rest)
    unfolding has_seed record_from
    seed-past other = rw (records_in-cons L bytes x rest e size, ne_eqb _ _ other)

  pub seed-end : length bytes < record_bytes L → has_seed s (records_in L bytes) ≡ false
  unfolding has_seed
  seed-end h = rw (records_in-short L bytes h)
