-- `run` meets its contract: each turn is one of document 01's. Assumes nothing.
use Rattle.strand.proofs.Turns.{Stands}
use Rattle.strand.proofs.writer.Source.run.Given as goal

abbrev pub invariant-loop : goal.invariant-loop
invariant-loop l = Stands l.self.card l.self.weights.now l.self.file.now l.start l.wanted l.budget l.initial.out l.initial.list l.out l.list l.run l.counter
