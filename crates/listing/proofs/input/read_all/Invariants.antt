-- `read_all` meets its contract. The loop's invariant: what came so far was gone through. Assumes nothing.
use Rattle.listing.specs.Loops.{Came}
use Rattle.listing.proofs.input.read_all.Given as goal

abbrev pub invariant-loop : goal.invariant-loop
invariant-loop g l = Came l.pool.card l.pool.weights.now l.initial.t l.initial.line l.initial.store l.t l.line l.store
