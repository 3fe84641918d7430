-- `pass` meets its contract: the loop is that of `RestoreLoops`, a record a turn. Assumes nothing.
use mathlib.Core.Path.{◌≡◌}
use Rattle.std.specs.Slice.Iter.{chunks_exact_rest, chunks_exact_size}
use Rattle.decoder.specs.Store.{record_bytes}
use Rattle.decoder.proofs.RestoreLoops.{Passing}
use Rattle.decoder.proofs.restorer.Pool.pass.Given as goal

abbrev pub invariant-loop-bytes : goal.invariant-loop-bytes
invariant-loop-bytes l =
    goal.iterator-loop-bytes.can_next l.bytes-iterator × goal.iterator-loop-bytes.is_finite l.bytes-iterator
    × (chunks_exact_size l.bytes-iterator ≡ record_bytes l.self.l)
    × Passing l.self l.records l.initial.file l.initial.marks l.initial.list (chunks_exact_rest l.bytes-iterator) l.file l.marks l.list l.filled
