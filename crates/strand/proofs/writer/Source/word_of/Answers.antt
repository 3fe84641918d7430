-- `word_of` meets its contract: the seed's set gives the payload, and the payload the word. Assumes nothing.
use mathlib.Core.Path.{◌≡◌, sym, ap, ◌∙◌}
use mathlib.Core.List.{List}
use Prim.Native.Nat.{ℕ, ◌≤◌}
use native.Mathlib.Omega.{arith}
use lib.ListN.{take}
use lib.Seq.{length-take-le}
use Rattle.field.specs.Bytes.{padded}
use Rattle.field.proofs.ByteLists.{take-padded}
use Rattle.droplet.specs.declared.card.Card.{Card}
use Rattle.droplet.specs.PoolCard.{segment_count, weight_sum, strand_bytes}
use Rattle.droplet.specs.Droplet.{payload}
use Rattle.droplet.specs.Loops.{Picked}
use Rattle.droplet.proofs.LegalCard.{legal}
use Rattle.droplet.proofs.Payload.{payload-length}
use Rattle.strand.specs.ReadCheck.{strand_word}
use Rattle.strand.specs.Writer.{seed_word}
use Rattle.strand.specs.Loops.{Made}
use Rattle.strand.proofs.SeedWords.{drawable, picked-set, picked-few, picked-rest}
use Rattle.strand.proofs.writer.Source.word_of.Goals as goal

-- the steps
made : (c : Card) (ws file : List ℕ) (seed d : ℕ) (list list' p word' : List ℕ)
    → 1 ≤ weight_sum ws → Picked ws (segment_count c) seed d list list' → p ≡ padded 64 (payload c.l file (take d list'))
    → take (strand_bytes c) word' ≡ strand_word c seed (take c.l p) → Made c ws file seed list list' word'
unfolding seed_word
made c ws file seed d list list' p word' positive picked e f =
    let whole : take c.l p ≡ payload c.l file (take d list') =
    ap (take c.l) e ∙ rw (payload-length c.l file (take d list')) at (take-padded 64 (payload c.l file (take d list'))) in
    record {
      fills = f ∙ ap (strand_word c seed) (whole ∙ ap (payload c.l file) (picked-set ws (segment_count c) seed d list list' picked));
      keeps = picked-rest ws (segment_count c) seed d list list' picked positive;
    }

pub segments_of-d-requires : goal.segments_of-d-requires
segments_of-d-requires c = let s = c.args.self.now in drawable s.card s.weights.now s.plan c.args.list.now s.legal s.segments s.sum c.requires

pub slice_bounds-payload_of-end : goal.slice_bounds-payload_of-end
slice_bounds-payload_of-end c =
    let right = legal c.args.self.now.card c.args.self.now.weights.now c.args.self.now.legal in
    omega (arith, picked-few _ _ _ _ _ _ c.segments_of-d.ensures right.weights.sum-least, c.requires, c.segments_of-d.auto.list)

pub slice_bounds-payload_of-end-2 : goal.slice_bounds-payload_of-end-2
slice_bounds-payload_of-end-2 c =
    let right = legal c.args.self.now.card c.args.self.now.weights.now c.args.self.now.legal in
    let few = picked-few _ _ _ _ _ _ c.segments_of-d.ensures right.weights.sum-least in
    sym (length-take-le _ _ (omega (arith, few, c.requires, c.segments_of-d.auto.list)))

pub payload_of-payload-requires : goal.payload_of-payload-requires
payload_of-payload-requires c = rw c.from-l.ensures (legal c.args.self.now.card c.args.self.now.weights.now c.args.self.now.legal).sizes.l_most

pub slice_bounds-payload-end : goal.slice_bounds-payload-end
slice_bounds-payload-end c = omega (arith, (legal c.args.self.now.card c.args.self.now.weights.now c.args.self.now.legal).sizes.l_most)

pub slice_bounds-fill_word-end : goal.slice_bounds-fill_word-end
slice_bounds-fill_word-end c =
    sym (length-take-le _ _ (omega (arith, (legal c.args.self.now.card c.args.self.now.weights.now c.args.self.now.legal).sizes.l_most)))

pub fill_word-requires : goal.fill_word-requires
fill_word-requires c =
    let sizes = (legal c.args.self.now.card c.args.self.now.weights.now c.args.self.now.legal).sizes in
    (sizes.check_count, length-take-le _ _ (omega (arith, sizes.l_most)) ∙ c.from-l.ensures, omega (arith, sizes.l_most))

pub returns : goal.returns
returns c =
    let s = c.args.self.now in
    made s.card s.weights.now s.file.now c.args.seed _ _ _ _ _ (legal s.card s.weights.now s.legal).weights.sum-least
    (rw s.segments at c.segments_of-d.ensures) (rw c.from-l.ensures at c.payload_of-payload.ensures) (rw c.from-l.ensures at c.fill_word.ensures)
