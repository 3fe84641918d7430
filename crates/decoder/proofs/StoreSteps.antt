-- What a store call does to the records, by its cases, with no byte in it. Assumes nothing.
use mathlib.Core.Path.{◌≡◌}
use mathlib.Core.Bool.{false, cond}
use mathlib.Core.List.{List, [], ◌∷◌, ◌++◌}
use Prim.Native.Nat.{ℕ, suc, ◌<◌, ◌≤◌}
use lib.ListN.{length}
use Rattle.field.specs.Bytes.{same_bytes}
use Rattle.droplet.specs.Droplet.{member}
use Rattle.strand.specs.ReadCheck.{Reading, droplet, refused}
use Rattle.decoder.specs.Store.{LegalRead, Record, Stored, accepted, replaced, repeat, refusal, better, full_count, droplet_read}
use Rattle.decoder.specs.Demand3.{seeds_of, reads_in}
use Rattle.decoder.proofs.SeedSearch.{Spot}
use Rattle.decoder.proofs.BestReads.{merged}

-- the record of a seed with one read of it more
abbrev pub again : LegalRead → Record → Record
again r q = record { read = merged r q.read; count = suc q.count }

-- `room` records fit, `rs` stand there, the read `r` is offered; the call answers `a` and leaves `rs'`
module _ (room : ℕ) (rs : List Record) (r : LegalRead) (a : Stored) (rs' : List Record) where
  -- the seed is new, and there is space
  pub record Added : Type 0 where
    pub new : member r.seed (seeds_of (reads_in rs)) ≡ false
    pub space : length rs < room
    pub says : a ≡ accepted (suc (length rs))
    pub now : rs' ≡ rs ++ (record { read = r; count = 1 } ∷ [])

  -- the seed is new, and there is none: refused under 16
  pub record Full : Type 0 where
    pub new : member r.seed (seeds_of (reads_in rs)) ≡ false
    pub none : room ≤ length rs
    pub says : a ≡ refusal 16
    pub now : rs' ≡ rs

  -- the seed stands there: replaced, or a repeat
  pub record Met : Type 0 where
    pub i : ℕ
    pub q : Record
    pub spot : Spot r.seed rs i q
    pub below : q.count < full_count
    pub says : a ≡ cond (better r q.read) (replaced (length rs)) (repeat (length rs))
    pub now : rs' ≡ spot.before ++ (again r q ∷ spot.after)

  -- with another payload, and the read does not take over: refused under 15
  pub record Differs : Type 0 where
    pub i : ℕ
    pub q : Record
    pub spot : Spot r.seed rs i q
    pub worse : better r q.read ≡ false
    pub other : same_bytes q.read.payload r.payload ≡ false
    pub says : a ≡ refusal 15
    pub now : rs' ≡ rs

  -- with a count that is full: refused under 20
  pub record CountFull : Type 0 where
    pub i : ℕ
    pub q : Record
    pub spot : Spot r.seed rs i q
    pub most : q.count ≡ full_count
    pub says : a ≡ refusal 20
    pub now : rs' ≡ rs

  pub data Move : Type 0 where
    added : Added → Move
    full : Full → Move
    met : Met → Move
    differs : Differs → Move
    count-full : CountFull → Move

-- a refusal of the read check is handed on
pub record Handed (rs : List Record) (a : Stored) (rs' : List Record) (n : ℕ) : Type 0 where
  pub says : a ≡ refusal n
  pub now : rs' ≡ rs

-- what a call does by what the read check says of its read
abbrev pub Step : ℕ → List Record → Reading → Stored → List Record → Type 0
Step room rs (droplet s p k) a rs' = Move room rs (droplet_read s p k) a rs'
Step room rs (refused n) a rs' = Handed rs a rs' n
