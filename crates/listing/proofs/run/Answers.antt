-- `run` meets its contract: an accepted card has its numbers in range, and weights from byte 20 to where the third field ends. Assumes
-- nothing.
use Rattle.std.proofs.Common.{◌≡◌, ℕ, ◌-◌, List, take, drop, arith}
use Rattle.droplet.specs.declared.card.Card.{Card}
use Rattle.droplet.specs.PoolCard.{number_at, weights_start, weights_end, card_weights}
use Rattle.droplet.proofs.CardBytes.{head-before-end, head-there}
use Rattle.droplet.proofs.LegalCard.{Sizes, legal}
use Rattle.droplet.proofs.CardAnswers.{Accepted, read}
use Rattle.listing.proofs.run.Goals as goal

-- an accepted card is a legal one
sizes : (bytes : List ℕ) (card : Card) (d : ℕ) → Accepted bytes card d → Sizes card
sizes bytes card d a = (legal _ _ a.unrefused).sizes

-- the weights' bytes are the card's weights
weights-part : (bytes : List ℕ) (end : ℕ) → end ≡ weights_end bytes → take (end - weights_start) (drop weights_start bytes) ≡ card_weights bytes
unfolding weights_end
weights-part bytes end e = let size : end - weights_start ≡ number_at 18 2 bytes = omega arith in rw size

pub segment_count-k-requires : goal.segment_count-k-requires
segment_count-k-requires g c =
    let right = sizes _ _ _ (read _ c.read_card.ensures c.in-Ok.is) in
    (right.l-least, right.f-most)

pub overflow_mul-k : goal.overflow_mul-k
overflow_mul-k g c =
    let right = sizes _ _ _ (read _ c.read_card.ensures c.in-Ok.is) in
    record { fits = rw (c.segment_count-k.ensures, c.from.ensures) (omega (arith, right.file-fills, right.f-most, right.l_most)) }

pub weights_end-requires : goal.weights_end-requires
weights_end-requires g c = head-there _ (read _ c.read_card.ensures c.in-Ok.is).long

pub slice_bounds-weights-count : goal.slice_bounds-weights-count
slice_bounds-weights-count g c = omega (arith, c.weights_end.ensures.0, head-before-end c.args.bytes.now)

pub slice_bounds-weights-start : goal.slice_bounds-weights-start
slice_bounds-weights-start g c = omega (arith, c.weights_end.ensures.0, head-before-end c.args.bytes.now)

pub slice_bounds-weights-end : goal.slice_bounds-weights-end
slice_bounds-weights-end g c =
    omega (arith, c.weights_end.ensures.0, (read _ c.read_card.ensures c.in-Ok.is).long)

pub list_pool-requires : goal.list_pool-requires
list_pool-requires g c =
    rw (weights-part c.args.bytes.now _ c.weights_end.ensures.0) (read _ c.read_card.ensures c.in-Ok.is).unrefused
