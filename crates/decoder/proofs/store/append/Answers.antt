-- `append` meets its contract: a record where there is space for one, and the refusal where there is none. Assumes nothing.
use mathlib.Core.Path.{◌≡◌, ap, ◌∙◌}
use mathlib.Core.Bool.{Bool}
use mathlib.Core.List.{List, [], ◌++◌, append-nil}
use Prim.Native.Nat.{ℕ, suc, ◌+◌, ◌-◌, ◌*◌, ◌<◌, ◌≤◌}
use native.Mathlib.Nat.{suc-mul, mul-le-mul_left}
use native.Mathlib.Numerals.{add-one}
use native.Mathlib.Omega.{arith}
use borrow.Author.Tests.{le-leb, lt-leb}
use lib.ListN.{length, take, drop, length-take, drop_of_length-le}
use lib.Seq.{drop-drop}
use Rattle.std.proofs.Common.{Ok, Err}
use Rattle.droplet.specs.declared.refusal.Refusal.TheVariants.{NoSpace}
use Rattle.decoder.specs.declared.store.StoreAnswer.TheVariants.{Accepted}
use Rattle.decoder.specs.Store.{Record, record_bytes, record_text, accepted, overwritten, appended}
use Rattle.decoder.specs.StoreLoops.{Keeps}
use Rattle.decoder.proofs.RecordBytes.{parts-fit, text-size}
use Rattle.decoder.proofs.store.append.Goals as goal

module _ (buffer : List ℕ) (count seed : ℕ) (payload : List ℕ) (clean : Bool) (width : ℕ) (wide : width ≡ record_bytes (length payload)) where
  abbrev at : ℕ
  at = count * width

  abbrev new : Record
  new = record { read = record { seed = seed; payload = payload; clean = clean }; count = 1 }

  full : length buffer - at < width → Keeps (appended (length payload) buffer count new.read) (Err NoSpace) buffer
  unfolding appended
  full h =
      let less : length buffer < suc count * record_bytes (length payload) = rw (← wide, suc-mul) (omega arith) in
      record { says = rw (lt-leb _ _ less); leaves = rw (lt-leb _ _ less) }

  -- the record's place, lent from `at` up to `at + width`, came back as `part`
  abbrev lent : ℕ
  lent = at + width - at

  more : (part : List ℕ) → width ≤ length buffer - at
      → part ≡ record_text new ++ drop (record_bytes (length payload)) (take lent (drop at buffer))
      → Keeps (appended (length payload) buffer count new.read) (Ok (Accepted (count + 1))) (take at buffer ++ (part ++ drop lent (drop at buffer)))
  unfolding appended overwritten
  more part h e =
      let size : lent ≡ width = omega arith in
      let space : suc count * record_bytes (length payload) ≤ length buffer = rw (← wide, suc-mul) (omega (arith, wide, parts-fit (length payload))) in
      let none : drop (record_bytes (length payload)) (take lent (drop at buffer)) ≡ []
      = drop_of_length-le (take lent (drop at buffer)) {i = record_bytes (length payload)} (rw length-take (omega (arith, wide))) in
      let text : part ≡ record_text new = e ∙ rw (none, append-nil) in
      record {
        says = rw (le-leb _ _ space) (ap accepted (add-one count));
        leaves = rw (le-leb _ _ space, text, size, drop-drop, text-size new, ← wide);
      }

pub returns-then-store-at : goal.returns-then-store-at
returns-then-store-at c =
    let args = c.args in
    full args.store.now args.count args.read.seed args.read.payload.now args.read.clean _ c.record_bytes-width.ensures (omega arith)

-- there are no more records than bytes
pub overflow_add-result : goal.overflow_add-result
overflow_add-result c =
    let args = c.args in
    let least : 1 ≤ record_bytes (length args.read.payload.now) = omega (arith, parts-fit (length args.read.payload.now)) in
    omega (arith, c.requires.fits, mul-le-mul_left args.count least)

pub returns : goal.returns
returns c =
    let args = c.args in
    more args.store.now args.count args.read.seed args.read.payload.now args.read.clean _ c.record_bytes-width.ensures _ (omega arith) c.put_record.ensures
