-- `lines_at_once` meets its contract. Assumes nothing.
use native.Mathlib.Nat.{le-div_iff_mul-le}
use native.Mathlib.Omega.{arith}
use Rattle.interleave.proofs.moves.Interleaver.lines_at_once.Goals as goal

pub returns-then-self-lt1024 : goal.returns-then-self-lt1024
returns-then-self-lt1024 c = (le-div_iff_mul-le {k = c.args.self.width} {x = 1} {y = 8192} (omega arith)).1 (omega arith)
