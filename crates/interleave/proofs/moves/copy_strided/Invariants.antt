-- `copy_strided` meets its contract. The invariant: t and s are the places of the next byte, and those before it are copied. Assumes nothing.
use Rattle.std.proofs.Common.{◌≡◌, ◌<◌}
use Rattle.interleave.specs.Moves.{Moved, strided}
use Rattle.interleave.proofs.moves.copy_strided.Given as goal

abbrev pub invariant-loop : goal.invariant-loop
invariant-loop l =
    (l.t ≡ strided l.to.first l.to.step l.counter) × (l.s ≡ strided l.from.first l.from.step l.counter)
    × Moved (strided l.to.first l.to.step) (strided l.from.first l.from.step) (λ x. x < l.counter) l.source l.initial.target l.target
