-- `copy_both` meets its contract: the second copy goes into the part behind the first. Assumes nothing.
use Rattle.std.proofs.Common.{refl}
use Rattle.field.proofs.LentParts.{put_back}
use Rattle.field.proofs.bytes.copy_both.Goals as goal

pub returns : goal.returns
returns c =
    let second = c in
    let first = second in
    let start = first in
    put_back start.args.front.now start.args.back.now start.args.to.now _ _ _ refl first.copy.ensures second.copy-2.ensures
