-- `has_joined` meets its contract: the bit is that of a bitmap of the list, and otherwise the list is looked through.
-- Assumes nothing.
use mathlib.Core.Path.{◌∙◌}
use Rattle.droplet.specs.Loops.{bit_at}
use Rattle.droplet.proofs.Sets.{list_any-member}
use Rattle.droplet.proofs.droplet.has_joined.Goals as goal

pub returns-then-w-words : goal.returns-then-w-words
unfolding bit_at
returns-then-w-words c = c.requires.at c.args.t c.if-w-words.true

pub returns : goal.returns
returns c = c.contains.ensures ∙ list_any-member _ _
