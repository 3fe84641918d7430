-- `store_read` meets its contract: one law for each of its answers. Assumes nothing.
use Rattle.std.proofs.Common.{◌≡◌, ℕ, true, false, List, Result, Err, sym, ne_eqb, leb-true}
use Rattle.droplet.specs.declared.card.Card.{Card}
use Rattle.droplet.specs.declared.refusal.Refusal.{Refusal}
use Rattle.droplet.specs.declared.refusal.Refusal.TheVariants.{Count}
use Rattle.droplet.specs.Refusals.{refusal_number}
use Rattle.droplet.specs.Questions.{card_refusal}
use Rattle.droplet.proofs.CardAnswers.{SaysNo, passed, stopped}
use Rattle.droplet.proofs.Refusals.{handed_on}
use Rattle.strand.specs.ReadCheck.{letters_reading}
use Rattle.strand.proofs.ReadingCases.{case-letters}
use Rattle.decoder.specs.declared.store.StoreAnswer.{StoreAnswer}
use Rattle.decoder.specs.Store.{count_fits, store_reading, store_read, StorePromise}
use Rattle.decoder.specs.StoreLoops.{Keeps}
use Rattle.decoder.proofs.store.store_read.Goals as goal

module _ (c : Card) (weights buffer : List ℕ) (count : ℕ) (read : List ℕ) where
  illegal : (q : Refusal) → SaysNo (card_refusal c weights) (refusal_number q) → StorePromise c weights buffer count read (Err q) buffer
  unfolding store_read
  illegal q s =
      let no = ne_eqb (refusal_number q) 0 s.not-zero in
      record { says = rw (s.number, no); leaves = rw (s.number, no) }

  module _ (legal : card_refusal c weights ≡ 0) where
    overfull : count_fits c.l buffer count ≡ false → StorePromise c weights buffer count read (Err Count) buffer
    unfolding store_read
    overfull e = record { says = rw (legal, e); leaves = rw (legal, e) }

    stored : count_fits c.l buffer count ≡ true → (r : Result StoreAnswer Refusal) (after : List ℕ)
        → Keeps (store_reading c.l buffer count (letters_reading c read)) r after → StorePromise c weights buffer count read r after
    unfolding store_read
    stored e r after k =
        let letters = case-letters c weights read legal in
        record { says = rw (legal, e, letters) k.says; leaves = rw (legal, e, letters) k.leaves }

pub returns-in_err-check_plan : goal.returns-in_err-check_plan
returns-in_err-check_plan c =
    rw (handed_on _ _ c.from_residual.ensures.1) (illegal _ _ _ _ _ _ (stopped _ _ c.check_plan.ensures c.in_err-check_plan.was))

pub count_fits-requires : goal.count_fits-requires
count_fits-requires c = rw c.from.ensures (passed _ _ c.check_plan.ensures c.in_ok-check_plan.was).legal.sizes.l_most

pub returns-then-not-count_fits : goal.returns-then-not-count_fits
returns-then-not-count_fits c =
    let card = passed _ _ c.check_plan.ensures c.in_ok-check_plan.was in
    overfull _ _ _ _ _ card.unrefused (sym (rw c.from.ensures at c.if-not-count_fits.ensures))

pub offer-requires : goal.offer-requires
offer-requires c =
    let card = passed _ _ c.check_plan.ensures c.in_ok-check_plan.was in (
      record { short = card.legal.sizes.l_most; fits = leb-true _ _ (sym (rw c.from.ensures at c.if-not-count_fits.ensures)) },
      record { l_most = card.legal.sizes.l_most; check_count = card.legal.sizes.check_count },
    )

pub returns : goal.returns
returns c =
    let card = passed _ _ c.check_plan.ensures c.in_ok-check_plan.was in
    stored _ _ _ _ _ card.unrefused (sym (rw c.from.ensures at c.if-not-count_fits.ensures)) _ _ c.offer.ensures
