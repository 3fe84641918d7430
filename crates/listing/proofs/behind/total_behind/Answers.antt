-- `total_behind` meets its contract: what is left to sum is nothing when the loop ends. Assumes nothing.
use Rattle.std.proofs.Common.{◌≡◌, ℕ, ◌+◌, ◌*◌, ◌%◌, ◌^◌, ◌<◌, ◌≤◌, List, length, refl, ap, ◌∙◌, arith}
use Rattle.decoder.specs.Store.{record_bytes, record_count, record_from, records}
use Rattle.decoder.specs.Demand3.{total_count}
use Rattle.decoder.specs.Loops.{record_at}
use Rattle.decoder.proofs.RecordsAt.{records-all, records-end, records-next, record-fits, record-length}
use Rattle.listing.proofs.behind.total_behind.Invariants.{left, Summed}
use Rattle.listing.proofs.behind.total_behind.Goals as goal

module _ (L count : ℕ) (store : List ℕ) where
  none : Summed L count store 0 0
  none = record { within = omega arith; small = omega arith; same = rw (records-all L count store) (ap (λ (n : ℕ). n % 2 ^ 64) (omega arith)) }

  left-next : (i : ℕ) → i < count → count * record_bytes L ≤ length store
      → left L count store i ≡ record_count L (record_at L store i) + left L count store (i + 1)
  unfolding total_count record_from
  left-next i h fits = rw (records-next L count store i h fits)

  turn : (total i one total' : ℕ) → i < count → count * record_bytes L ≤ length store → one ≡ record_count L (record_at L store i)
      → total' ≡ (total + one) % 2 ^ 64 → Summed L count store total i → Summed L count store total' (i + 1)
  turn total i one total' more fits e f s =
      record {
        within = omega arith;
        small = omega arith;
        same = (let next = left-next i more fits in let before = s.same in omega arith);
      }

  done : (total i : ℕ) → count ≤ i → Summed L count store total i → total ≡ total_count (records L count store) % 2 ^ 64
  unfolding total_count
  done total i h s =
      let end : left L count store i ≡ 0 = ap total_count (records-end L count store i h) in
      let same = s.same in
      let small = s.small in
      omega arith

pub loop-i-init : goal.loop-i-init
loop-i-init c = none _ _ _

pub record_at-requires : goal.record_at-requires
record_at-requires c =
    (c.requires.short, record-fits c.args.l c.args.count c.args.store.now _ c.loop-i-test.true c.requires.fits)

pub count_in-behind-requires : goal.count_in-behind-requires
count_in-behind-requires c =
    let own = ap length c.record_at.ensures
    ∙ record-length c.args.l c.args.count c.args.store.now c.loop-i.i c.loop-i-test.true c.requires.fits in
    (c.requires.short, omega (arith, own))

pub loop-i-preserved : goal.loop-i-preserved
loop-i-preserved c =
    turn _ _ _ _ _ _ _ c.loop-i-test.true c.requires.fits
    (c.from-total.ensures ∙ c.count_in-behind.ensures ∙ ap (record_count c.args.l) c.record_at.ensures) refl c.loop-i.invariant

pub returns : goal.returns
returns c = done _ _ _ _ _ c.loop-i-test.false c.loop-i.invariant
