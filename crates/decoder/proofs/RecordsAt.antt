-- A loop over the records of a store: the record at a place, one more, and the end. Assumes nothing.
use mathlib.Core.Path.{◌≡◌, sym}
use mathlib.Core.List.{List, [], ◌∷◌}
use Prim.Native.Nat.{ℕ, suc, ◌+◌, ◌-◌, ◌*◌, ◌≤◌, ◌<◌}
use native.Mathlib.Nat.{mul-le-mul_right, zero-mul, sub-zero}
use native.Mathlib.Omega.{arith}
use lib.ListN.{length, drop, length-drop}
use lib.Seq.{length-take-le, take-take, drop-drop, get_or-take}
use Rattle.field.specs.Bytes.{from_big_endian}
use Rattle.decoder.specs.Store.{Record, reads_clean, record_bytes, record_payload, record_state, record_count, record_from, records}
use Rattle.decoder.specs.Loops.{record_at}
use Rattle.decoder.proofs.BufferParts.{part-inside}
use Rattle.decoder.proofs.RecordBytes.{parts-fit}

-- the records from place i on, of the first `count`
unfoldable pub records_from : ℕ → ℕ → List ℕ → ℕ → List Record
records_from L count store i = records L (count - i) (drop (i * record_bytes L) store)

module _ (L count : ℕ) (store : List ℕ) where
  pub records-all : records_from L count store 0 ≡ records L count store
  unfolding records_from
  records-all = rw (sub-zero, zero-mul)

  pub records-end : (i : ℕ) → count ≤ i → records_from L count store i ≡ []
  unfolding records_from records
  records-end i h = let e : count - i ≡ 0 = omega arith in rw e

  module _ (i : ℕ) (h : i < count) (fits : count * record_bytes L ≤ length store) where
    pub record-fits : i * record_bytes L + record_bytes L ≤ length store
    record-fits = omega (arith, mul-le-mul_right (record_bytes L) h)

    pub record-length : length (record_at L store i) ≡ record_bytes L
    unfolding record_at
    record-length = length-take-le (record_bytes L) (drop (i * record_bytes L) store) (rw length-drop (omega (arith, record-fits)))

    -- a record reads no byte behind its own
    pub record-own : record_from L (drop (i * record_bytes L) store) ≡ record_from L (record_at L store i)
    unfolding record_from record_payload record_state record_count record_at
    record-own =
        let from = drop (i * record_bytes L) store in
        let room : record_bytes L ≤ length from = rw length-drop (omega (arith, record-fits)) in
        let seed = take-take 4 (record_bytes L) from (omega (arith, parts-fit L)) in
        let payload = part-inside 4 L (record_bytes L) from (omega (arith, parts-fit L)) room in
        let state = get_or-take (record_bytes L) from (4 + L) 0 (omega (arith, parts-fit L)) in
        let count = part-inside (5 + L) 4 (record_bytes L) from (omega (arith, parts-fit L)) room in
        λ z. record {
          read = record { seed = from_big_endian (sym seed z); payload = sym payload z; clean = reads_clean (sym state z) };
          count = from_big_endian (sym count z);
        }

    pub records-next : records_from L count store i ≡ record_from L (record_at L store i) ∷ records_from L count store (i + 1)
    unfolding records_from records
    records-next =
        let e : count - i ≡ suc (count - (i + 1)) = omega arith in
        let past : i * record_bytes L + record_bytes L ≡ (i + 1) * record_bytes L = omega arith in
        rw (e, drop-drop (record_bytes L) (i * record_bytes L) store, past, record-own)
