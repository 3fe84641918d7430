-- `draw_front`: a turn draws one segment, by `Picking`, and looks at its mark, by `Unmarked`. Assumes nothing.
use mathlib.Core.Path.{◌≡◌, refl}
use borrow.Author.Rules.{rules}
use mathlib.Core.List.{List}
use Prim.Native.Nat.{ℕ, ◌+◌, ◌-◌, ◌<◌}
use native.Mathlib.Omega.{arith}
use lib.ListN.{length, get_or, take, set}
use Rattle.field.specs.Generator.{number_drawn}
use Rattle.droplet.proofs.Picking.{take_more, picking-begins, picking-turns}
use Rattle.droplet.proofs.Bitmap.{marked_more}
use Rattle.decoder.specs.declared.restorer.Unmarked.{Unmarked}
use Rattle.decoder.specs.Restorer.{missing}
use Rattle.decoder.specs.Loops.{unmarked_of, looked_at}
use Rattle.decoder.proofs.DrawnFront.{joins-most, looked-several, looked-all}
use Rattle.decoder.proofs.Unmarked.{looked-more}
use Rattle.decoder.proofs.restorer.draw_front.Goals as goal

-- once the mark of the segment that joins is looked at, what is found is right of one segment more
looked : (marks list : List ℕ) (i s : ℕ) {found next : Unmarked} → i < length list → found ≡ unmarked_of (missing marks (take i list))
    → next ≡ looked_at found s (get_or marks s 0) → next ≡ unmarked_of (missing marks (take (i + 1) (set list i s)))
looked marks list i s h now e = rw (take_more list i s h) (looked-more marks (take i list) s now e)

pub loop-i-init : goal.loop-i-init
unfolding missing unmarked_of
loop-i-init c = (picking-begins _ _ _ _, c.requires.5, refl)

pub joining_segment-s-requires : goal.joining_segment-s-requires
joining_segment-s-requires c = (omega arith, c.loop-i.invariant.1)

pub bounds-marks-s : goal.bounds-marks-s
bounds-marks-s c =
    let l = c.loop-i in
    omega (arith, c.joining_segment-s.ensures, joins-most (take l.i l.list) (c.args.k - c.args.d + l.i) (number_drawn c.next-state.result))

pub returns-then-eq : goal.returns-then-eq
returns-then-eq c =
    let x = c.args in
    let l = c.loop-i in
    let turned = picking-turns _ _ _ _ _ _ _ l.invariant.0 _ _ _ c.requires.3 (omega arith) c.next-state.ensures refl c.joining_segment-s.ensures in
    let found = looked x.marks.now l.list l.i _ (omega arith) l.invariant.2 c.look_at-found.ensures in
    looked-several x.k x.d x.state x.list.now _ _ _ turned c.requires.3 x.n (omega arith) c.requires.2 _ _ found (search rules)

pub loop-i-preserved : goal.loop-i-preserved
loop-i-preserved c =
    let l = c.loop-i in (
      picking-turns _ _ _ _ _ _ _ l.invariant.0 _ _ _ c.requires.3 (omega arith) c.next-state.ensures refl c.joining_segment-s.ensures,
      marked_more l.words _ l.list l.i _ c.mark.ensures (omega arith) l.invariant.1,
      looked c.args.marks.now l.list l.i _ (omega arith) l.invariant.2 c.look_at-found.ensures,
    )

pub returns : goal.returns
returns c =
    let x = c.args in
    looked-all x.k x.d x.state x.list.now _ _ _ c.loop-i.invariant.0 c.requires.3 x.n (omega arith) c.requires.2 _
    (omega arith) _ c.loop-i.invariant.2
