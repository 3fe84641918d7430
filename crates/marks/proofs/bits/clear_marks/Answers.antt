-- `clear_marks` meets its contract: no plain marks are packed as zeros. Assumes nothing.
use Rattle.std.proofs.Common.{◌≡◌, ℕ, zero, suc, [], ◌∷◌, replicate, refl, ap, length-take-le}
use Rattle.marks.specs.Marks.{mark_bytes, mark_byte, packed, packed_into}
use Rattle.marks.proofs.bits.clear_marks.Goals as goal

packed_none : (n : ℕ) → replicate n 0 ≡ packed n []
unfolding packed mark_byte
packed_none zero = refl
packed_none (suc n) = ap (◌∷◌ 0) (packed_none n)

pub returns : goal.returns
unfolding packed_into
returns c =
    let k = mark_bytes c.args.k in
    rw (c.fill.ensures.after (λ y e. e), c.mark_bytes-n.ensures, length-take-le k c.args.marks.now c.requires, packed_none k)
