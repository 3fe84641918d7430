-- Demand 3: every list of store calls from an empty store, and every restore that is not refused, under one accepted card.
-- Assumes nothing.
use Rattle.droplet.specs.PoolCard.{card_weights}
use Rattle.droplet.proofs.CardAnswers.{reading-accepted}
use Rattle.decoder.specs.Demand3.{Demand3}
use Rattle.decoder.proofs.StoreChain.{store-holds, store-best, store-total, chain-exists}
use Rattle.decoder.proofs.NeverRefused20.{never_20}
use Rattle.decoder.proofs.SoundRestore.{sets-right, restore-sound}

pub demand-3 : Demand3
demand-3 card c D e =
    let weights = card_weights card in
    let fine = (reading-accepted card c D e).unrefused in
    record {
      store = store-holds c weights fine;
      best = store-best c weights fine;
      total = store-total c weights fine;
      never_20 = never_20 c weights fine;
      calls = λ lent reads. chain-exists c weights reads lent 0;
      sets = sets-right c weights fine;
      back = restore-sound c weights fine;
    }
