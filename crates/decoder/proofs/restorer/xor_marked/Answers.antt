-- `xor_marked`: a turn XORs a marked segment in, and passes an unmarked one over, by `MarkedXor`. Assumes nothing.
use mathlib.Core.Path.{◌≡◌, refl, ap, ◌∙◌}
use mathlib.Core.List.{List, ◌∷◌, ◌++◌, []}
use Prim.Native.Nat.{ℕ, ◌+◌, ◌<◌}
use native.Mathlib.Numerals.{add-one}
use native.Mathlib.Omega.{arith}
use lib.ListN.{length, get_or, take}
use lib.Seq.{take-suc, take_all}
use Rattle.field.specs.Bytes.{xor_lists, padded}
use Rattle.field.proofs.ByteLists.{all-at}
use Rattle.droplet.specs.Droplet.{payload}
use Rattle.decoder.specs.Restorer.{known}
use Rattle.decoder.specs.Loops.{AllBelow}
use Rattle.decoder.proofs.MarkedXor.{xor-none, xor-marked, xor-unmarked}
use borrow.Author.Rules.{rules}
use Rattle.decoder.proofs.restorer.xor_marked.Goals as goal
use Rattle.decoder.proofs.restorer.xor_marked.Goals.{then-marks-s-eq1, else-marks-s-eq1}

pub loop-s-init : goal.loop-s-init
loop-s-init c =
    let x = c.args in
    (search rules, c.xor_into.ensures ∙ xor-none (length x.stored.now) x.file.now x.marks.now x.stored.now refl c.requires.0)

pub bounds-marks-s : goal.bounds-marks-s
unfolding AllBelow
bounds-marks-s c = all-at (λ s. s < length c.args.marks.now) c.args.list.now 0 c.requires.1 _ (omega arith)

pub loop-s-preserved : goal.loop-s-preserved
loop-s-preserved c =
    let x = c.args in
    let list = x.list.now in
    let i = c.loop-s.s-index in
    let more : take (i + 1) list ≡ take i list ++ (get_or list i 0 ∷ []) = rw add-one (take-suc _ _ 0 c.loop-s-test.true) in
    let now = c.loop-s.invariant.1 in
    elim c.if-marks-s-eq1.branch [
      | then-marks-s-eq1 w ↦ (
        ap length w.p-is ∙ w.xor_segment.auto.p ∙ c.loop-s.invariant.0,
        rw more
            (w.p-is ∙ w.xor_segment.ensures ∙ xor-marked (length x.stored.now) x.file.now x.marks.now x.stored.now refl _ _ _ now w.if-marks-s-eq1.true),
      )
      | else-marks-s-eq1 w ↦ (
        ap length w.p-is ∙ c.loop-s.invariant.0,
        rw more (w.p-is ∙ xor-unmarked (length x.stored.now) x.file.now x.marks.now x.stored.now refl _ _ _ now w.if-marks-s-eq1.false),
      )
    ]

pub returns : goal.returns
returns c =
    let x = c.args in
    c.loop-s.invariant.1
    ∙ ap (λ (xs : List ℕ). padded 64 (xor_lists x.stored.now (payload (length x.stored.now) x.file.now (known x.marks.now xs)))) (take_all _ x.list.now c.loop-s-test.false)
