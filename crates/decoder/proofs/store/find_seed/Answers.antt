-- `find_seed` meets its contract: the record at hand has the seed, or the search goes on behind it. Assumes nothing.
use Rattle.std.proofs.Common.{◌≡◌, ℕ, suc, ◌+◌, ◌*◌, ◌≤◌, ◌<◌, List, length, refl, sym, ap, ◌∙◌, eq-eqb, ne_eqb, arith}
use Rattle.decoder.specs.Store.{Found, found, absent, later, record_bytes, record_seed, record_from, records, find_seed}
use Rattle.decoder.specs.Loops.{record_at}
use Rattle.decoder.specs.StoreLoops.{Standing}
use Rattle.decoder.proofs.RecordBytes.{parts-fit}
use Rattle.decoder.proofs.RecordsAt.{records-all, records-end, records-next, record-fits, record-length, record-own}
use Rattle.decoder.proofs.store.find_seed.Invariants.{behind, Passed}
use Rattle.decoder.proofs.store.find_seed.Goals as goal

behind-none : (f : Found) → f ≡ behind 0 f
behind-none (found i r) = let e : 0 + i ≡ i = omega arith in rw e
behind-none absent = refl

behind-later : (n : ℕ) (f : Found) → behind n (later f) ≡ behind (n + 1) f
behind-later n (found i r) = let e : n + suc i ≡ n + 1 + i = omega arith in rw e
behind-later n absent = refl

module _ (L count seed : ℕ) (store : List ℕ) where
  start : Passed L count seed store 0
  start = ap (find_seed seed) (sym (records-all L count store)) ∙ behind-none _

  none : (i : ℕ) → count ≤ i → Passed L count seed store i → find_seed seed (records L count store) ≡ absent
  unfolding find_seed
  none i h p = p ∙ rw (records-end L count store i h)

  module _ (i : ℕ) (h : i < count) (fits : count * record_bytes L ≤ length store) (p : Passed L count seed store i) where
    hit : (at : ℕ) → at ≡ i * record_bytes L → record_seed (record_at L store i) ≡ seed → Standing L count store seed at
    unfolding find_seed record_from
    hit at place e =
        let here : i + 0 ≡ i = omega arith in
        record {
          i = i;
          place = place;
          within = rw place (record-fits L count store i h fits);
          first = p ∙ rw (records-next L count store i h fits, eq-eqb _ _ e, here, place) (ap (found i) (sym (record-own L count store i h fits)));
        }

    miss : (record_seed (record_at L store i) ≡ seed → ⊥) → Passed L count seed store (i + 1)
    unfolding find_seed record_from
    miss e = p ∙ rw (records-next L count store i h fits, ne_eqb _ _ e) (behind-later i _)

pub seed_of-requires : goal.seed_of-requires
seed_of-requires c =
    let long = record-length _ c.args.count c.args.store.now c.loop-i.i c.loop-i-test.true c.requires.fits in
    rw c.record_at.ensures (omega (arith, long, parts-fit c.args.l))

pub loop-i-init : goal.loop-i-init
loop-i-init c = start _ _ _ _

pub returns-then-seed_of-seed : goal.returns-then-seed_of-seed
returns-then-seed_of-seed c =
    hit _ _ _ _ _ c.loop-i-test.true c.requires.fits c.loop-i.invariant _ (ap (λ n. c.loop-i.i * n) c.record_bytes.ensures)
    (rw c.record_at.ensures at (sym c.seed_of.ensures ∙ c.if-seed_of-seed.true))

pub loop-i-preserved : goal.loop-i-preserved
loop-i-preserved c =
    let seen = rw c.record_at.ensures at c.seed_of.ensures in
    miss _ _ _ _ _ c.loop-i-test.true c.requires.fits c.loop-i.invariant (λ e. c.if-seed_of-seed.false (seen ∙ e))

pub returns : goal.returns
returns c = none _ _ _ _ _ c.loop-i-test.false c.loop-i.invariant
