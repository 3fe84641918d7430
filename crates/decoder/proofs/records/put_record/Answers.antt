-- `put_record` meets its contract: the seed, behind it payload and state, and behind them the count. Assumes nothing.
use Rattle.std.proofs.Common.{◌≡◌, Bool, List, ◌++◌, ℕ, ◌+◌, ◌-◌, ◌≤◌, length, take, drop, length-append, length-drop, append_assoc, sym, ◌∙◌, arith}
use lib.Seq.{take_at, drop_at, drop-drop}
use Rattle.field.specs.Bytes.{to_big_endian}
use Rattle.field.proofs.BigEndian.{to-length, to_be-big_endian}
use Rattle.field.proofs.LentParts.{put_back}
use Rattle.decoder.specs.Store.{record_bytes, evidence_text, record_text, count_place, overwritten}
use Rattle.decoder.proofs.RecordBytes.{evidence-length}
use Rattle.decoder.proofs.records.put_record.Goals as goal

module _ (seed : ℕ) (payload : List ℕ) (clean : Bool) (out : List ℕ) where
  abbrev new : List ℕ
  new = evidence_text payload clean

  abbrev front : List ℕ
  front = to_big_endian seed ++ new

  abbrev size : ℕ
  size = 5 + length payload

  front-size : length front ≡ size
  front-size = rw (length-append, to-length seed, evidence-length payload clean) (omega arith)

  -- the seed was written, and the part from 4 on came back as `part`
  put : (once part : List ℕ) → once ≡ to_big_endian seed ++ drop (length (to_big_endian seed)) out
      → part ≡ new ++ drop (length payload + 1) (take (length once - 4) (drop 4 once))
      → take 4 once ++ (part ++ drop (length once - 4) (drop 4 once)) ≡ front ++ drop size out
  put once part f g =
      let long = evidence-length payload clean in
      let width : 4 + length new ≡ size = omega (arith, long) in
      put_back (to_big_endian seed) new out once part 4 (to-length seed) (rw (to-length seed) at f) (rw long g)
      ∙ rw width (sym (append_assoc (to_big_endian seed) new (drop size out)))

  -- no byte more or less
  room : record_bytes (length payload) ≤ length out → 0 + record_bytes (length payload) ≤ length (front ++ drop size out)
  unfolding record_bytes
  room h = rw (length-append front (drop size out), front-size, length-drop) (omega arith)

  -- and then the count
  counted : (twice : List ℕ) → twice ≡ front ++ drop size out
      → overwritten (count_place (length payload) 0) (to_big_endian 1) twice
      ≡ record_text (record { read = record { seed = seed; payload = payload; clean = clean }; count = 1 }) ++ drop (record_bytes (length payload)) out
  unfolding overwritten record_text record_bytes
  counted twice e =
      let from : 0 + size ≡ size = omega arith in
      let width : size + 4 ≡ 9 + length payload = omega arith in
      rw (e, from, to-length 1, take_at front (drop size out) size front-size, ← drop-drop 4 size (front ++ drop size out), drop_at front (drop size out) size front-size, drop-drop 4 size out, width)
      (simp append_assoc)

pub put_count-requires : goal.put_count-requires
put_count-requires c =
    let args = c.args in
    let four = c.to_be_bytes.ensures ∙ to_be-big_endian args.seed in (
      c.requires.0,
      rw (put args.seed args.payload.now args.clean args.out.now _ _ (rw four at c.copy.ensures) c.put_evidence.ensures)
          (room args.seed args.payload.now args.clean args.out.now c.requires.1),
    )

pub returns : goal.returns
returns c =
    let args = c.args in
    let four = c.to_be_bytes.ensures ∙ to_be-big_endian args.seed in
    c.put_count.ensures
    ∙ counted args.seed args.payload.now args.clean args.out.now _
    (put args.seed args.payload.now args.clean args.out.now _ _ (rw four at c.copy.ensures) c.put_evidence.ensures)
