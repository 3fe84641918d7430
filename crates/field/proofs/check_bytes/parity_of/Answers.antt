-- `parity_of` meets its contract: R is 2 or 4. Assumes nothing.
use Rattle.std.proofs.Common.{◌≡◌, ⊎_elim}
use Rattle.field.proofs.check_bytes.parity_of.Goals as goal

pub returns-then-r-eq2 : goal.returns-then-r-eq2
returns-then-r-eq2 c = rw c.if-r-eq2.true c.parity_two.ensures

pub returns : goal.returns
returns c =
    let s = c in
    let n : s.args.r ≡ 4 = ⊎_elim (λ h. absurd (c.if-r-eq2.false h)) (λ h. h) s.requires in
    rw n c.parity_four.ensures
