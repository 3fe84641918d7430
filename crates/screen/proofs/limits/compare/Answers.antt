-- `compare` meets its contract: each test that says no gives its verdict. Assumes nothing.
use mathlib.Core.Path.{◌≡◌, ap}
use Prim.Native.Nat.{ℕ, ◌*◌, ◌<◌, ◌≤◌}
use native.Mathlib.Omega.{arith}
use borrow.Author.Tests.{le-leb, lt-leb}
use Rattle.droplet.specs.declared.card.Card.{Card}
use Rattle.screen.specs.declared.screen.Measure.{Measure}
use Rattle.screen.specs.declared.limits.Verdict.TheVariants.{Passes, LongRun, GcAlone}
use Rattle.screen.specs.Screen.{verdict}
use Rattle.screen.proofs.limits.compare.Goals as goal

module _ (card : Card) (measure : Measure) (n : ℕ) where
  long : card.m < measure.longest → LongRun ≡ verdict card measure n
  unfolding verdict
  long h = rw (lt-leb _ _ h)

  low : measure.longest ≤ card.m → 1000 * measure.gc < card.lo * n → GcAlone ≡ verdict card measure n
  unfolding verdict
  low m h = rw (le-leb _ _ m, lt-leb _ _ h)

  high : measure.longest ≤ card.m → card.lo * n ≤ 1000 * measure.gc → card.hi * n < 1000 * measure.gc → GcAlone ≡ verdict card measure n
  unfolding verdict
  high m l h = rw (le-leb _ _ m, le-leb _ _ l, lt-leb _ _ h)

  inside : measure.longest ≤ card.m → card.lo * n ≤ 1000 * measure.gc → 1000 * measure.gc ≤ card.hi * n → Passes ≡ verdict card measure n
  unfolding verdict
  inside m l h = rw (le-leb _ _ m, le-leb _ _ l, le-leb _ _ h)

-- a limit as the code reads it, times the bases
times : (n : ℕ) {a b : ℕ} → a ≡ b → a * n ≡ b * n
times n e = ap (λ (a : ℕ). a * n) e

pub returns-then-from-measure : goal.returns-then-from-measure
returns-then-from-measure c = long _ _ _ (omega (arith, c.from.ensures))

pub returns-then-thousandths-from : goal.returns-then-thousandths-from
returns-then-thousandths-from c = low _ _ _ (omega arith) (omega (arith, times c.args.n.0 c.from-2.ensures))

pub returns-then-from-n : goal.returns-then-from-n
returns-then-from-n c =
    let n = c.args.n.0 in
    high _ _ _ (omega arith) (omega (arith, times n c.from-2.ensures)) (omega (arith, times n c.from-3.ensures))

pub returns : goal.returns
returns c =
    let n = c.args.n.0 in
    inside _ _ _ (omega arith) (omega (arith, times n c.from-2.ensures)) (omega (arith, times n c.from-3.ensures))
