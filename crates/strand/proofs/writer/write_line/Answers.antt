-- `write_line` meets its contract: the letters fill the front of the buffer, and the newline stands behind them. Assumes nothing.
use mathlib.Core.Path.{◌≡◌, sym, ◌∙◌}
use mathlib.Core.List.{List, [], ◌∷◌, ◌++◌, append_assoc}
use Prim.Native.Nat.{ℕ, suc, ◌*◌, ◌<◌}
use native.Mathlib.Omega.{arith}
use lib.ListN.{length, get_or, drop, set, length-append}
use lib.Seq.{drop-cons, set_at}
use Rattle.droplet.specs.declared.card.Bases.{Bases}
use Rattle.droplet.specs.PoolCard.{bases_of}
use Rattle.screen.specs.Letters.{word_letters}
use Rattle.screen.proofs.Spelling.{letters-length}
use Rattle.strand.specs.Loops.{with_front}
use borrow.Author.Rules.{rules}
use Rattle.strand.proofs.writer.write_line.Goals as goal

module _ (n v : ℕ) (ys out : List ℕ) (long : length ys ≡ n) (room : n < length out) where
  ended : set (ys ++ drop n out) n v ≡ with_front (ys ++ (v ∷ [])) out
  unfolding with_front
  ended =
      let end : length (ys ++ (v ∷ [])) ≡ suc n = omega (arith, length-append ys (v ∷ [])) in
      rw (end, drop-cons out n 0 room) (set_at ys (get_or out n 0) (drop (suc n) out) v n long ∙ sym (append_assoc ys (v ∷ []) (drop (suc n) out)))

-- the bases of the word, by the one conversion
bases : (word : List ℕ) {n : Bases} → n ≡ bases_of (record { 0 = length word }) → n.0 ≡ length word * 4
unfolding bases_of
bases word e = rw e

pub slice_bounds-write_letters-end : goal.slice_bounds-write_letters-end
slice_bounds-write_letters-end c = let n = bases c.args.word.now c.to_bases-n.ensures in search rules

pub slice_bounds-write_letters-end-2 : goal.slice_bounds-write_letters-end-2
slice_bounds-write_letters-end-2 c = let n = bases c.args.word.now c.to_bases-n.ensures in search rules

pub write_letters-requires : goal.write_letters-requires
write_letters-requires c = let n = bases c.args.word.now c.to_bases-n.ensures in search rules

pub bounds-out-n : goal.bounds-out-n
bounds-out-n c = let n = bases c.args.word.now c.to_bases-n.ensures in search rules

pub returns : goal.returns
returns c =
    let n = bases c.args.word.now c.to_bases-n.ensures in
    rw c.write_letters.ensures
    (ended c.to_bases-n.result.0 _ (word_letters c.args.word.now) c.args.out.now (omega (arith, letters-length c.args.word.now)) (omega arith))
