-- Document 02, Item 1: "The order that goes to synthesis adds annealing sites". Assumes nothing.
use Rattle.std.specs.Prelude.{List, ℕ}
use Rattle.screen.specs.Letters.{text_letters}

-- "GTTTCAGAGTTCTACAGTCCGACGATC before the strand"
unfoldable pub site_before : List ℕ
site_before = text_letters "GTTTCAGAGTTCTACAGTCCGACGATC"

-- "and TGGAATTCTCGGGTGCCAAGG after it"
unfoldable pub site_after : List ℕ
site_after = text_letters "TGGAATTCTCGGGTGCCAAGG"
