-- `add_bytes` meets its contract. The loop's invariant: the bytes so far were gone through. Assumes nothing.
use Rattle.std.proofs.Common.{take}
use Rattle.listing.specs.Loops.{Goes, after_bytes}
use Rattle.listing.proofs.tally.Pool.add_bytes.Given as goal

abbrev pub invariant-loop-b : goal.invariant-loop-b
invariant-loop-b l = Goes (λ p. after_bytes l.self.card l.self.weights.now p (take l.b-index l.bytes)) l.initial.t l.initial.line l.initial.store l.t l.line l.store
