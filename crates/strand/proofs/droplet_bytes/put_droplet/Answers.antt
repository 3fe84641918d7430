-- `put_droplet` meets its contract: the seed's bytes are four, and the payload comes behind them. Assumes nothing.
use mathlib.Core.Path.{◌∙◌}
use Rattle.field.proofs.BigEndian.{to-length, to_be-big_endian}
use Rattle.strand.proofs.droplet_bytes.put_droplet.Goals as goal

pub returns : goal.returns
returns c = c.copy_both.ensures ∙ rw (c.to_be_bytes.ensures ∙ to_be-big_endian _, to-length _)
