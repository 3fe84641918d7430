-- `parity_two` meets its contract: a turn is one step of the long division, and what is left of the message takes the remainder to
-- the parity. Assumes nothing.
use Rattle.std.proofs.Common.{◌≡◌, [], ◌∷◌, drop}
use mathlib.Core.List.{foldl}
use Rattle.field.specs.CheckBytes.{remainder_after, parity}
use Rattle.field.proofs.check_bytes.parity_two.Given as goal

abbrev pub invariant-loop-x : goal.invariant-loop-x
invariant-loop-x l = foldl (remainder_after 2) (l.a ∷ l.b ∷ []) (drop l.x-index l.message) ≡ parity 2 l.message
