-- `place_of` meets its contract. At place p the loop has the numbers times a^p, and no place before p fits. Assumes nothing.
use Rattle.correction.specs.Locators.{NoPlace}
use Rattle.correction.proofs.PlaceTests.{ScaledAt}
use Rattle.correction.proofs.locators.place_of.Given as goal

abbrev pub invariant-loop-p : goal.invariant-loop-p
invariant-loop-p l = ScaledAt l.p l.s l.scaled × NoPlace l.m l.s l.p
