-- The droplets in a store: payloads of L bytes each where the count fits, bytes where the buffer has bytes. Assumes nothing.
use mathlib.Core.Path.{◌≡◌, refl, ap}
use mathlib.Core.List.{List, [], ◌∷◌, map}
use Prim.Native.Nat.{ℕ, zero, suc, ◌*◌, ◌≤◌, ◌<◌}
use native.Mathlib.Omega.{arith}
use lib.ListN.{length, drop, length-drop}
use Rattle.field.specs.Bytes.{All, IsByte, AllBytes}
use Rattle.field.proofs.ByteLists.{all_take, all_drop}
use Rattle.droplet.specs.declared.card.Card.{Card}
use Rattle.droplet.specs.PoolCard.{segment_count}
use Rattle.droplet.specs.Droplet.{segments_of}
use Rattle.decoder.specs.Store.{LegalRead, Record, record_bytes, record_payload, record_from, records}
use Rattle.decoder.specs.Restorer.{Droplet, droplets}
use Rattle.decoder.specs.Demand3.{reads_in}
use Rattle.decoder.proofs.AllOf.{all_map, all-mapped}
use Rattle.decoder.proofs.PoolShapes.{IsDroplet}
use Rattle.decoder.proofs.RecordBytes.{payload-size}

module _ (L : ℕ) where
  pub records-size : (n : ℕ) (buffer : List ℕ) → n * record_bytes L ≤ length buffer → All (λ r. length r.read.payload ≡ L) (records L n buffer)
  unfolding records record_from
  records-size zero buffer h = tt
  records-size (suc n) buffer h =
      (payload-size L buffer (omega arith), records-size n (drop (record_bytes L) buffer) (rw length-drop (omega arith)))

  pub records-bytes : (n : ℕ) (buffer : List ℕ) → AllBytes buffer → All (λ r. AllBytes r.read.payload) (records L n buffer)
  unfolding records record_from record_payload
  records-bytes zero buffer h = tt
  records-bytes (suc n) buffer h =
      (all_take IsByte L (drop 4 buffer) (all_drop IsByte 4 buffer h), records-bytes n (drop (record_bytes L) buffer) (all_drop IsByte (record_bytes L) buffer h))

module _ (c : Card) (weights buffer : List ℕ) (count : ℕ) where
  -- the droplet of a read
  abbrev droplet_of_read : LegalRead → Droplet
  droplet_of_read r = record { segments = segments_of weights (segment_count c) r.seed; payload = r.payload }

  -- they are those of the reads that the records hold
  pub droplets-read : droplets c weights buffer count ≡ map droplet_of_read (reads_in (records c.l count buffer))
  unfolding droplets
  droplets-read = go (records c.l count buffer)
    where
      go : (rs : List Record) → map (λ r. droplet_of_read r.read) rs ≡ map droplet_of_read (reads_in rs)
      go [] = refl
      go (r ∷ rs) = ap (λ (l : List Droplet). droplet_of_read r.read ∷ l) (go rs)

  pub droplets-are : ((seed : ℕ) → All (λ s. s < segment_count c) (segments_of weights (segment_count c) seed)) → count * record_bytes c.l ≤ length buffer
      → All (IsDroplet (segment_count c) c.l) (droplets c weights buffer count)
  unfolding droplets
  droplets-are below h =
      all-mapped (IsDroplet (segment_count c) c.l) _ (records c.l count buffer)
      (all_map (λ r. length r.read.payload ≡ c.l) _ (λ r e. record { below = below r.read.seed; size = e }) (records c.l count buffer) (records-size c.l count buffer h))

  pub droplets-bytes : AllBytes buffer → All (λ d. AllBytes d.payload) (droplets c weights buffer count)
  unfolding droplets
  droplets-bytes h = all-mapped (λ d. AllBytes d.payload) _ (records c.l count buffer) (records-bytes c.l count buffer h)
