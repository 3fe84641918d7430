-- The word of the strand that a seed gives for a file: its length, and what its making asks and leaves. Assumes nothing.
use mathlib.Core.Path.{◌≡◌, sym, ap, ◌∙◌}
use mathlib.Core.List.{List}
use Prim.Native.Nat.{ℕ, ◌+◌, ◌-◌, ◌≤◌}
use native.Mathlib.Omega.{arith}
use lib.ListN.{length, take, drop}
use lib.Seq.{take_at, drop-append-add, drop-drop}
use Rattle.droplet.specs.declared.card.Card.{Card}
use Rattle.droplet.specs.declared.card.Plan.{Plan}
use Rattle.droplet.specs.PoolCard.{segment_count, weight_count, weight_sum, strand_bytes}
use Rattle.droplet.specs.Questions.{card_refusal}
use Rattle.droplet.specs.Droplet.{segments_of}
use Rattle.droplet.specs.Loops.{Drawable, Picked}
use Rattle.droplet.proofs.LegalCard.{legal}
use Rattle.droplet.proofs.Degree.{degree_of-most}
use Rattle.droplet.proofs.Sets.{segments-length}
use Rattle.droplet.proofs.Payload.{payload-length}
use Rattle.strand.specs.Writer.{seed_word}
use Rattle.strand.proofs.StrandWords.{strand-length}

pub word-length : (c : Card) (ws file : List ℕ) (seed : ℕ) → length (seed_word c ws file seed) ≡ strand_bytes c
unfolding seed_word
word-length c ws file seed = strand-length c seed _ (payload-length c.l file (segments_of ws (segment_count c) seed))

-- the set stands in the first places of the list
module _ (ws : List ℕ) (K seed d : ℕ) (list list' : List ℕ) (picked : Picked ws K seed d list list') where
  pub picked-set : take d list' ≡ segments_of ws K seed
  picked-set =
      ap (take d) picked.placed ∙ take_at (segments_of ws K seed) (drop d list) d (segments-length ws K seed ∙ sym picked.degree)

  module _ (positive : 1 ≤ weight_sum ws) where
    pub picked-few : d ≤ weight_count ws
    picked-few = rw picked.degree (degree_of-most ws seed positive)

    -- the places past D are as they were
    pub picked-rest : drop (weight_count ws) list' ≡ drop (weight_count ws) list
    picked-rest =
        let n = segments-length ws K seed ∙ sym picked.degree in
        let D = weight_count ws in
        let e : d + (D - d) ≡ D = omega (arith, picked-few) in
        rw (← e)
        (ap (drop (d + (D - d))) picked.placed ∙ rw n at (drop-append-add (segments_of ws K seed) (drop d list) (D - d))
        ∙ drop-drop (D - d) d list)

-- a card that no question refuses, with its plan, asks a place for each degree to draw from
pub drawable : (c : Card) (ws : List ℕ) (plan : Plan) (list : List ℕ) → card_refusal c ws ≡ 0 → plan.segments ≡ segment_count c
    → plan.sum ≡ weight_sum ws → weight_count ws ≤ length list → Drawable ws plan.segments plan.sum list
drawable c ws plan list fine segments sum places =
    let l = legal c ws fine in
    record {
      short = omega (arith, l.weights.whole, l.weights.degrees-most);
      summed = sum;
      positive = l.weights.sum-least;
      few = omega (arith, segments, l.sizes.segments-most);
      degrees = omega (arith, segments, l.weights.degrees-segments);
      places = places;
    }
