-- Positions of the schedule, as rows under one proposition: the four of the README, a whole period, the one of seed 1 when it has fallen
-- out at the top, and start 0. Assumes nothing.
use Rattle.std.specs.Prelude.{◌≡◌, List, [], ◌∷◌, ℕ}
use Rattle.split.specs.SeedPosition.{SeedReply, seed, refused, seed_at}

pub data Row : Type 0 where
  at : ℕ → ℕ → SeedReply → Row

abbrev pub Holds : Row → Type 0
Holds (at start steps reply) = seed_at start steps ≡ reply

abbrev pub rows : List Row
rows =
    at 0x12345678 0 (seed 0x12345678)
    ∷ at 0x12345678 1000000 (seed 0x6BF1B778)
    ∷ at 0x12345678 2000000 (seed 0x1CA43C7F)
    ∷ at 0x12345678 3000000 (seed 0x44BC2AAD)
    ∷ at 0x12345678 4294967295 (seed 0x12345678)
    ∷ at 1 32 (seed 0xC5)
    ∷ at 0 1000000 (refused 6)
    ∷ []
