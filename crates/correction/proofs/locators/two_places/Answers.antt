-- Each turn of `two_places` rules out one place more: by the locator, or by the search below it. Assumes nothing.
use Rattle.std.proofs.Common.{ℕ, ◌<◌, arith, below_more, rules}
use Rattle.field.specs.CheckBytes.{times_power}
use Rattle.correction.specs.Locators.{at, Fits, without}
use Rattle.correction.proofs.Distances.{byte_at}
use Rattle.correction.proofs.PlaceTests.{scaled-zero, scaled-turn, locator-turn, locator-miss, two-hit, two-miss}
use Rattle.correction.proofs.locators.two_places.Goals.{then-is_zero+in_default, else-is_zero}
use Rattle.correction.proofs.locators.two_places.Goals as goal

pub loop-p-init : goal.loop-p-init
unfolding times_power
loop-p-init c =
    let l = c.new-locator.ensures in
    let y = c.new-scaled.ensures in
    (record { squared = l.squared; plain = l.plain; constant_is = l.constant }, scaled-zero _ _ y.zeroth y.first y.second, (λ k h j g f. omega arith))

pub returns-in-Some : goal.returns-in-Some
returns-in-Some c =
    let l = c.loop-p in
    two-hit l.p c.args.s l.scaled l.invariant.1 _ _ (omega arith) l.invariant.2 c.in-Some.ensures

pub loop-p-preserved : goal.loop-p-preserved
loop-p-preserved c =
    let l = c.loop-p in
    let s = c.args.s in
    let locator = c.next-locator.ensures in
    let scaled = c.next-scaled.ensures in
    let none : (j : ℕ) → j < l.p → Fits 3 (without l.p (at s)) j → ⊥ = elim c.if-is_zero.branch [
      | then-is_zero+in_default w ↦ two-miss l.p s l.scaled l.invariant.1 w.in_default.ensures
      | else-is_zero w ↦ λ j h.
          locator-miss l.p s l.locator (λ i. byte_at s i c.requires) l.invariant.0 (search rules) j
    ] in (
      locator-turn l.p s l.locator _ l.invariant.0 locator.squared locator.plain locator.constant,
      scaled-turn l.p s l.scaled _ l.invariant.1 scaled.zeroth scaled.first scaled.second,
      below_more _ _ l.invariant.2 none,
    )
