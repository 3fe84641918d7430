-- `count_contradictions` meets its contract: the loop is that of `RestoreLoops`, a record a turn. Assumes nothing.
use mathlib.Core.Path.{◌≡◌}
use Rattle.std.specs.Slice.Iter.{chunks_exact_rest, chunks_exact_size}
use Rattle.decoder.specs.Store.{record_bytes}
use Rattle.decoder.proofs.RestoreLoops.{Counting}
use Rattle.decoder.proofs.restorer.Pool.count_contradictions.Given as goal

abbrev pub invariant-loop-bytes : goal.invariant-loop-bytes
invariant-loop-bytes l =
    goal.iterator-loop-bytes.can_next l.bytes-iterator × goal.iterator-loop-bytes.is_finite l.bytes-iterator
    × (chunks_exact_size l.bytes-iterator ≡ record_bytes l.self.l)
    × Counting l.self l.records (record { file = l.file; marks = l.marks }) l.initial.list (chunks_exact_rest l.bytes-iterator) l.list l.n
