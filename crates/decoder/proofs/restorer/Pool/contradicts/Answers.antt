-- `contradicts` meets its contract: one law for each of its answers. Assumes nothing.
use mathlib.Core.Path.{sym, ◌∙◌}
use native.Mathlib.Omega.{arith}
use borrow.Author.Rules.{rules}
use lib.Seq.{length-take-le}
use Rattle.field.proofs.SameBytes.{starts_with-same}
use Rattle.decoder.proofs.RecordBytes.{parts-fit}
use Rattle.decoder.proofs.RecordTurns.{degree-places, list-kept, agrees-unless, contradicts-by}
use Rattle.decoder.proofs.restorer.Pool.contradicts.Goals as goal

pub draw_record-drawn-requires : goal.draw_record-drawn-requires
draw_record-drawn-requires c =
    (omega (arith, c.requires.0, parts-fit c.args.self.now.l), c.requires.1.marks_fit, c.requires.1.places)

pub returns-then-ne : goal.returns-then-ne
returns-then-ne c =
    let bytes = c.args.bytes.now in
    let seen = c.draw_record-drawn.ensures in (
      agrees-unless _ bytes _ _ _ _ _ c.requires.0 c.requires.1 seen (search rules),
      list-kept _ bytes _ _ _ _ _ c.requires.0 c.requires.1 seen,
    )

pub slice_bounds-payload_of-end : goal.slice_bounds-payload_of-end
slice_bounds-payload_of-end c =
    let places = degree-places _ c.args.bytes.now _ _ _ _ _ c.requires.0 c.requires.1 c.draw_record-drawn.ensures in
    omega arith

pub slice_bounds-payload_of-end-2 : goal.slice_bounds-payload_of-end-2
slice_bounds-payload_of-end-2 c =
    let places = degree-places _ c.args.bytes.now _ _ _ _ _ c.requires.0 c.requires.1 c.draw_record-drawn.ensures in
    sym (length-take-le _ _ (omega arith))

pub returns : goal.returns
returns c =
    let bytes = c.args.bytes.now in
    let seen = c.draw_record-drawn.ensures in
    let compared =
    contradicts-by _ bytes _ _ _ _ _ c.requires.0 c.requires.1 seen (search rules) _ c.payload_of-p.ensures _
    (rw c.payload_in.ensures at (c.starts_with.ensures.value ∙ starts_with-same c.payload_of-p.result c.payload_in.result.now)) in
    (compared, list-kept _ bytes _ _ _ _ _ c.requires.0 c.requires.1 seen)
