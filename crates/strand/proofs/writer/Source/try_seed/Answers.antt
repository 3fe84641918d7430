-- `try_seed` meets its contract: the word is the seed's, and its line is written just where it passes. Assumes nothing.
use mathlib.Core.Path.{◌≡◌, sym}
use mathlib.Core.List.{List}
use Prim.Native.Nat.{ℕ, ◌≤◌}
use native.Mathlib.Omega.{arith}
use lib.Seq.{length-take-le}
use Rattle.droplet.specs.declared.card.Card.{Card}
use Rattle.droplet.specs.declared.card.Bytes.{Bytes}
use Rattle.droplet.specs.PoolCard.{strand_bytes}
use Rattle.droplet.specs.Questions.{card_refusal}
use Rattle.droplet.proofs.LegalCard.{legal}
use Rattle.strand.proofs.SeedWords.{word-length}
use Rattle.strand.proofs.writer.Source.try_seed.Goals as goal

-- the strand fits the room for the longest word
fits : (card : Card) (weights : List ℕ) {n : Bytes} → card_refusal card weights ≡ 0 → n ≡ record { 0 = strand_bytes card } → n.0 ≤ 72
fits card weights fine e = rw e ((legal card weights fine).sizes.strand-most)

pub slice_bounds-word-end : goal.slice_bounds-word-end
slice_bounds-word-end c = omega (arith, fits _ _ c.args.self.now.legal c.strand_bytes-n.ensures)

pub slice_bounds-write_passing-end : goal.slice_bounds-write_passing-end
slice_bounds-write_passing-end c = sym (length-take-le _ _ (omega (arith, fits _ _ c.args.self.now.legal c.strand_bytes-n.ensures)))

pub write_passing-requires : goal.write_passing-requires
write_passing-requires c =
    rw (c.strand_bytes-n.ensures, c.word_of-word.ensures.fills, word-length)
    ((legal c.args.self.now.card c.args.self.now.weights.now c.args.self.now.legal).sizes.strand-most, omega (arith, c.requires.1))
