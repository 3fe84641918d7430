-- `pad` meets its contract: a payload copied over 64 zeros. Assumes nothing.
use mathlib.Core.Path.{◌≡◌, ◌∙◌}
use mathlib.Core.List.{List, ◌++◌}
use Prim.Native.Nat.{ℕ, zero, suc, ◌-◌}
use native.Mathlib.Nat.{sub-zero, suc-sub-suc, zero-sub}
use lib.ListN.{length, drop, replicate}
use Rattle.field.specs.Bytes.{padded}
use Rattle.strand.proofs.read_check.pad.Goals as goal

drop-replicate : (l n : ℕ) → drop l (replicate {A = ℕ} n 0) ≡ replicate (n - l) 0
drop-replicate zero n = rw sub-zero
drop-replicate (suc l) zero = rw zero-sub
drop-replicate (suc l) (suc n) = drop-replicate l n ∙ rw suc-sub-suc

over_zeros : (payload : List ℕ) → payload ++ drop (length payload) (replicate 64 0) ≡ padded 64 payload
unfolding padded
over_zeros payload = rw (drop-replicate (length payload) 64)

pub returns : goal.returns
returns c = c.copy.ensures ∙ over_zeros c.args.payload.now
