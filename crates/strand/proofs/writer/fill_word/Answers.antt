-- `fill_word` meets its contract: the record is the message, and the parity's first R bytes stand behind it. Assumes nothing.
use mathlib.Core.Path.{◌≡◌, sym, ap, ◌∙◌}
use mathlib.Core.List.{List, ◌++◌, append_assoc}
use Prim.Native.Nat.{ℕ, ◌+◌}
use native.Mathlib.Omega.{arith}
use lib.ListN.{length, take, length-append}
use lib.Seq.{take_at, take-append-add, take-append-le, length-take-le}
use Rattle.field.specs.Bytes.{to_big_endian, padded}
use Rattle.field.specs.CheckBytes.{CheckCount, parity}
use Rattle.field.proofs.BigEndian.{to-length}
use Rattle.field.proofs.ByteLists.{take-padded, padded-length}
use Rattle.field.proofs.Parity.{parity-length}
use Rattle.field.proofs.Syndromes.{checks-bounds}
use Rattle.droplet.specs.declared.card.Card.{Card}
use Rattle.droplet.specs.PoolCard.{strand_bytes}
use Rattle.strand.specs.ReadCheck.{strand_word}
use Rattle.strand.proofs.writer.fill_word.Goals as goal

module _ (c : Card) (seed : ℕ) (p rest w check more part end : List ℕ) (counts : CheckCount c.r) (size : length p ≡ c.l)
    (stored : w ≡ to_big_endian seed ++ (p ++ rest)) (checked : check ≡ padded 4 (parity c.r (take (4 + length p) w)))
    (copied : part ≡ check ++ more) where
  message : List ℕ
  message = to_big_endian seed ++ p

  message-length : length message ≡ 4 + length p
  unfolding message
  message-length = length-append (to_big_endian seed) p ∙ ap (λ n. n + length p) (to-length seed)

  front : take (4 + length p) w ≡ message
  unfolding message
  front = ap (take (4 + length p)) (stored ∙ sym (append_assoc (to_big_endian seed) p rest)) ∙ take_at message rest _ message-length

  filled : take (strand_bytes c) (take (4 + length p) w ++ (part ++ end)) ≡ strand_word c seed p
  unfolding message strand_bytes strand_word
  filled =
      let few = (checks-bounds counts).1 in
      let q = parity c.r message in
      let n = parity-length c.r message in
      let is : check ≡ padded 4 q = rw front at checked in
      let four : length check ≡ 4 = ap length is ∙ padded-length 4 q (omega arith) in
      let first : take c.r ((check ++ more) ++ end) ≡ q =
      take-append-le c.r (check ++ more) end (omega (arith, length-append check more)) ∙ take-append-le c.r check more (omega arith)
      ∙ ap (take c.r) is ∙ rw n at (take-padded 4 q) in
      let size' : 4 + c.l + c.r ≡ length message + c.r = omega (arith, message-length) in
      rw (size', copied, front, take-append-add, first)

pub slice_bounds-parity_of-end-2 : goal.slice_bounds-parity_of-end-2
slice_bounds-parity_of-end-2 c = sym (length-take-le _ _ (omega arith))

pub returns : goal.returns
returns c =
    filled c.args.card c.args.seed c.args.payload.now _ _ _ _ _ _ c.requires.0 c.requires.1 c.put_droplet.ensures
    c.parity_of-parity.ensures c.copy.ensures
