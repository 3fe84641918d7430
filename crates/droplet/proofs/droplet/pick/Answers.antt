-- `pick` meets its contract: a bitmap of zeros, of whatever length, is that of no segments. Assumes nothing.
use Rattle.droplet.proofs.Bitmap.{marked-none}
use borrow.Author.Rules.{rules}
use Rattle.droplet.proofs.droplet.pick.Goals as goal

pub pick_with-requires-else-d-le16 : goal.pick_with-requires-else-d-le16
pick_with-requires-else-d-le16 c = (search rules, search rules, search rules, marked-none 2048)
