-- What the contracts of the store's private functions cite. No sentence of document 01 stands here. Assumes nothing.
use Rattle.std.specs.Prelude.{◌≡◌, cond, List, ℕ, suc, ◌+◌, ◌*◌, ◌≤◌, eqb, length, drop, Option, Some, None, Result, Ok, Err}
use Rattle.field.specs.Bytes.{to_big_endian}
use Rattle.droplet.specs.declared.refusal.Refusal.{Refusal}
use Rattle.droplet.specs.declared.refusal.Refusal.TheVariants.{FullCount}
use Rattle.decoder.specs.declared.store.StoreAnswer.{StoreAnswer}
use Rattle.decoder.specs.declared.store.Read.{Read}
use Rattle.decoder.specs.Store.{LegalRead, record_bytes, record_from, record_count, count_place, full_count, overwritten, Kept, found, absent, find_seed, records, store_answer, kept_answer, kept_buffer}

-- what a read of the code says
abbrev pub legal_read : Read → LegalRead
legal_read r = record { seed = r.seed; payload = r.payload.now; clean = r.clean }

-- a store of `count` records with L payload bytes each
pub record Within (L count : ℕ) (buffer : List ℕ) : Type 0 where
  pub short : L ≤ 64
  pub fits : count * record_bytes L ≤ length buffer

-- the record that starts at a place is number i of the store, and the first of its seed
pub record Standing (L count : ℕ) (buffer : List ℕ) (seed at : ℕ) : Type 0 where
  pub i : ℕ
  pub place : at ≡ i * record_bytes L
  pub within : at + record_bytes L ≤ length buffer
  pub first : find_seed seed (records L count buffer) ≡ found i (record_from L (drop at buffer))

-- what a place says of the search for a seed: the first record of it starts there, or none has it
abbrev pub Sought : ℕ → ℕ → List ℕ → ℕ → Option ℕ → Type 0
Sought L count buffer seed (Some at) = Standing L count buffer seed at
Sought L count buffer seed None = find_seed seed (records L count buffer) ≡ absent

-- the count of the record that starts at a place was raised by one, or it is full and nothing changed
pub record Counts (L at : ℕ) (buffer : List ℕ) (r : Result (Unit {0}) Refusal) (buffer' : List ℕ) : Type 0 where
  pub says : r ≡ cond (eqb (record_count L (drop at buffer)) full_count) (Err FullCount) (Ok tt)
  pub leaves : buffer'
      ≡ cond (eqb (record_count L (drop at buffer)) full_count) buffer
      (overwritten (count_place L at) (to_big_endian (suc (record_count L (drop at buffer)))) buffer)

-- the answer and the buffer after it are those of a storing step
pub record Keeps (k : Kept) (r : Result StoreAnswer Refusal) (buffer' : List ℕ) : Type 0 where
  pub says : store_answer r ≡ kept_answer k
  pub leaves : buffer' ≡ kept_buffer k
