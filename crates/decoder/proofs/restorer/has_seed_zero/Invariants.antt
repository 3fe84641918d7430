-- `has_seed_zero` meets its contract: the records that are left decide. Assumes nothing.
use mathlib.Core.Path.{◌≡◌}
use Rattle.std.specs.Slice.Iter.{chunks_exact_rest, chunks_exact_size}
use Rattle.decoder.specs.Store.{record_bytes}
use Rattle.decoder.specs.Restorer.{has_seed}
use Rattle.decoder.specs.Loops.{records_in}
use Rattle.decoder.proofs.restorer.has_seed_zero.Given as goal

abbrev pub invariant-loop-bytes : goal.invariant-loop-bytes
invariant-loop-bytes l =
    goal.iterator-loop-bytes.can_next l.bytes-iterator × goal.iterator-loop-bytes.is_finite l.bytes-iterator
    × (chunks_exact_size l.bytes-iterator ≡ record_bytes l.l)
    × (has_seed 0 (records_in l.l (chunks_exact_rest l.bytes-iterator)) ≡ has_seed 0 (records_in l.l l.records))
