-- `syndromes_of` meets its contract: R is 2 or 4. Assumes nothing.
use Rattle.std.proofs.Common.{◌≡◌, ⊎_elim}
use Rattle.field.specs.CheckBytes.{syndromes}
use Rattle.field.proofs.check_bytes.syndromes_of.Goals as goal

pub returns-then-r-eq2 : goal.returns-then-r-eq2
unfolding syndromes
returns-then-r-eq2 c = rw (c.if-r-eq2.true, c.value_at.ensures, c.value_at-then-r-eq2.ensures)

pub returns : goal.returns
returns c =
    let n : c.args.r ≡ 4 = ⊎_elim (λ h. absurd (c.if-r-eq2.false h)) (λ h. h) c.requires in
    rw n c.syndromes_four.ensures
