-- The records that stand one after the other in a list of bytes, and their droplets: one comes off the front, and what is shorter than a
-- record holds none. Assumes nothing.
use mathlib.Core.Path.{◌≡◌, refl, sym, ap, ◌∙◌}
use mathlib.Core.List.{List, [], ◌∷◌, ◌++◌}
use Prim.Native.Nat.{ℕ, zero, suc, ◌+◌, ◌-◌, ◌*◌, ◌/◌, ◌%◌, ◌≤◌, ◌<◌}
use native.Mathlib.Nat.{mod-lt, div-eq_of_lt, mul-div_cancel}
use native.Mathlib.Omega.{arith}
use Rattle.std.proofs.lemmas.Nat.{div-add-mod', div-mul-add}
use Rattle.std.proofs.lemmas.List.{drop-take}
use lib.ListN.{length, take, drop, length-append, length-drop}
use lib.Seq.{length-take-le, take_at, drop_at, take-take, get_or-take}
use Rattle.field.specs.Bytes.{from_big_endian}
use Rattle.decoder.specs.declared.restorer.Pool.{Pool}
use Rattle.decoder.specs.Store.{reads_clean, record_bytes, record_payload, record_state, record_count, record_from, records}
use Rattle.decoder.specs.Loops.{records_in}
use Rattle.decoder.specs.Pools.{droplet_of, droplets_in}
use Rattle.decoder.proofs.BufferParts.{part-inside}
use Rattle.decoder.proofs.RecordBytes.{parts-fit}

add-div : (w m : ℕ) → 0 < w → (w + m) / w ≡ suc (m / w)
add-div w m h =
    let whole : w + m ≡ (m / w + 1) * w + m % w = omega (arith, div-add-mod' m w) in
    ap (λ n. n / w) whole ∙ div-mul-add (m / w + 1) w (m % w) (mod-lt m h) ∙ omega arith

module _ (L : ℕ) where
  abbrev width : ℕ
  width = record_bytes L

  pub width-some : 0 < record_bytes L
  width-some = omega (arith, parts-fit L)

  -- a record reads no byte behind its own
  record-own : (bytes : List ℕ) → width ≤ length bytes → record_from L (take width bytes) ≡ record_from L bytes
  unfolding record_from record_payload record_state record_count
  record-own bytes room =
      let seed = take-take 4 width bytes (omega (arith, parts-fit L)) in
      let payload = part-inside 4 L width bytes (omega (arith, parts-fit L)) room in
      let state = get_or-take width bytes (4 + L) 0 (omega (arith, parts-fit L)) in
      let count = part-inside (5 + L) 4 width bytes (omega (arith, parts-fit L)) room in
      λ z. record {
        read = record { seed = from_big_endian (seed z); payload = payload z; clean = reads_clean (state z) };
        count = from_big_endian (count z);
      }

  pub records_in-cons : (bytes x rest : List ℕ) → bytes ≡ x ++ rest → length x ≡ record_bytes L
      → records_in L bytes ≡ record_from L x ∷ records_in L rest
  unfolding records_in records
  records_in-cons bytes x rest e size =
      let long : length bytes ≡ width + length rest = omega (arith, ap length e, length-append x rest) in
      let more : length bytes / width ≡ suc (length rest / width) = ap (λ n. n / width) long ∙ add-div width (length rest) width-some in
      let own : record_from L bytes ≡ record_from L x =
      sym (record-own bytes (omega arith)) ∙ ap (record_from L) (ap (take width) e ∙ take_at x rest width size) in
      let past : drop width bytes ≡ rest = ap (drop width) e ∙ drop_at x rest width size in
      rw (more, own, past)

  pub records_in-short : (bytes : List ℕ) → length bytes < record_bytes L → records_in L bytes ≡ []
  unfolding records_in records
  records_in-short bytes h = rw (div-eq_of_lt h)

  -- the first records of a store
  first-records : (n m : ℕ) (store : List ℕ) → n * width ≤ m → m ≤ length store → records L n (take m store) ≡ records L n store
  unfolding records
  first-records zero m store h long = refl
  first-records (suc n) m store h long =
      let room : width ≤ m = omega arith in
      let own : record_from L (take m store) ≡ record_from L store =
      sym (record-own (take m store) (rw (length-take-le m store long) room)) ∙ ap (record_from L) (take-take width m store room)
      ∙ record-own store (omega arith) in
      let split : m ≡ width + (m - width) = omega arith in
      let past : drop width (take m store) ≡ take (m - width) (drop width store) =
      ap (λ k. drop width (take k store)) split ∙ drop-take width (m - width) store in
      rw (own, past, first-records n (m - width) (drop width store) (omega arith) (rw length-drop (omega arith)))

  pub records_in-first : (count : ℕ) (store : List ℕ) → count * record_bytes L ≤ length store
      → records_in L (take (count * record_bytes L) store) ≡ records L count store
  unfolding records_in
  records_in-first count store fits =
      rw (length-take-le (count * width) store fits, mul-div_cancel count width-some)
      (first-records count (count * width) store (omega arith) fits)

-- the droplets of these records
module _ (p : Pool) where
  pub droplets_in-cons : (bytes x rest : List ℕ) → bytes ≡ x ++ rest → length x ≡ record_bytes p.l
      → droplets_in p bytes ≡ droplet_of p (record_from p.l x) ∷ droplets_in p rest
  unfolding droplets_in
  droplets_in-cons bytes x rest e size = rw (records_in-cons p.l bytes x rest e size)

  pub droplets_in-short : (bytes : List ℕ) → length bytes < record_bytes p.l → droplets_in p bytes ≡ []
  unfolding droplets_in
  droplets_in-short bytes h = rw (records_in-short p.l bytes h)
