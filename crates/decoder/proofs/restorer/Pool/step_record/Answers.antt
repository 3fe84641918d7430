-- `step_record` meets its contract: one law for each way a turn can go. Assumes nothing.
use mathlib.Core.Path.{sym, ap, ◌∙◌}
use native.Mathlib.Omega.{arith}
use lib.ListN.{length}
use lib.Seq.{length-take-le}
use Rattle.decoder.proofs.RecordBytes.{parts-fit}
use Rattle.decoder.proofs.RecordTurns.{degree-places, stored-size, fill-list, fill-place, fill-mark, turn-none, turn_one}
use Rattle.decoder.proofs.restorer.Pool.step_record.Goals as goal

pub draw_record-drawn-requires : goal.draw_record-drawn-requires
draw_record-drawn-requires c =
    (omega (arith, c.requires.0, parts-fit c.args.self.now.l), c.requires.1.marks_fit, c.requires.1.places)

pub returns-in_default : goal.returns-in_default
returns-in_default c =
    turn-none _ c.args.bytes.now _ _ _ _ _ c.requires.0 c.requires.1 c.draw_record-drawn.ensures c.in_default.not-One

pub slice_bounds-fill-end : goal.slice_bounds-fill-end
slice_bounds-fill-end c =
    let places = degree-places _ c.args.bytes.now _ _ _ _ _ c.requires.0 c.requires.1 c.draw_record-drawn.ensures in
    omega arith

pub slice_bounds-fill-end-2 : goal.slice_bounds-fill-end-2
slice_bounds-fill-end-2 c =
    let places = degree-places _ c.args.bytes.now _ _ _ _ _ c.requires.0 c.requires.1 c.draw_record-drawn.ensures in
    sym (length-take-le _ _ (omega arith))

pub fill-requires : goal.fill-requires
fill-requires c =
    let bytes = c.args.bytes.now in
    let seen = c.draw_record-drawn.ensures in
    let lone = c.in-One.is in
    let size = ap length c.payload_in.ensures ∙ stored-size _ bytes _ _ _ _ _ c.requires.0 c.requires.1 seen in (
      omega (arith, size, c.args.self.now.pickable.narrow),
      fill-list _ bytes _ _ _ _ _ c.requires.0 c.requires.1 seen _ lone,
      rw size (fill-place _ bytes _ _ _ _ _ c.requires.0 c.requires.1 seen _ lone),
      fill-mark _ bytes _ _ _ _ _ c.requires.0 c.requires.1 seen _ lone,
    )

pub returns : goal.returns
returns c =
    let bytes = c.args.bytes.now in
    let seen = c.draw_record-drawn.ensures in
    turn_one _ bytes _ _ _ _ _ c.requires.0 c.requires.1 seen _ c.in-One.is _ _
    (rw (c.payload_in.ensures, stored-size _ bytes _ _ _ _ _ c.requires.0 c.requires.1 seen) at c.fill.ensures)
