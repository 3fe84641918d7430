-- `strand_bases` meets its contract: four bases to a byte. Assumes nothing.
use native.Mathlib.Omega.{arith}
use borrow.Author.Rules.{rules}
use Rattle.droplet.specs.PoolCard.{strand_bytes, bases_of}
use Rattle.droplet.proofs.card.strand_bases.Goals as goal

pub to_bases-requires : goal.to_bases-requires
unfolding strand_bytes
to_bases-requires c = rw c.strand_bytes.ensures (omega arith)

pub returns : goal.returns
unfolding strand_bytes bases_of
returns c = rw (c.to_bases.ensures, c.strand_bytes.ensures) (search rules)
