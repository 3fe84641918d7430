-- `two_places` meets its contract. At place p the loop has the syndromes times a^p and the locator at a^p, and no place before p fits with one
-- below it. Assumes nothing.
use Rattle.correction.specs.Locators.{NoTwoPlaces}
use Rattle.correction.proofs.PlaceTests.{ScaledAt, LocatorAt}
use Rattle.correction.proofs.locators.two_places.Given as goal

abbrev pub invariant-loop-p : goal.invariant-loop-p
invariant-loop-p l = LocatorAt l.p l.s l.locator × ScaledAt l.p l.s l.scaled × NoTwoPlaces l.s l.p
