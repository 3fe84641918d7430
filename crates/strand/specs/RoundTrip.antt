-- What the writer writes, the read check gives back: seed and payload of every strand, no byte corrected, under the same card (demand 2).
-- Assumes nothing.
use Rattle.std.specs.Prelude.{◌≡◌, true, List, ℕ}
use Rattle.field.specs.Bytes.{All, AllBytes}
use Rattle.field.specs.Generator.{IsSeed}
use Rattle.droplet.specs.declared.card.Card.{Card}
use Rattle.droplet.specs.Questions.{card_refusal}
use Rattle.screen.specs.Letters.{word_letters}
use Rattle.screen.specs.Screen.{screen_passes}
use Rattle.strand.specs.ReadCheck.{droplet, read_check}
use Rattle.strand.specs.Writer.{payload_for, seed_word}
use Rattle.strand.specs.WriterRuns.{passing_first}

-- the strand of a seed is read back as its droplet
abbrev pub ReadBack : Card → List ℕ → List ℕ → ℕ → Type 0
ReadBack c weights file seed =
    read_check c weights (word_letters (seed_word c weights file seed)) ≡ droplet seed (payload_for c weights file seed) 0

-- so is every strand that passes the screen
abbrev pub StrandsReadBack : Type 0
StrandsReadBack = (c : Card) (weights file : List ℕ) (seed : ℕ) → card_refusal c weights ≡ 0 → AllBytes file → IsSeed seed
    → screen_passes c (seed_word c weights file seed) ≡ true → ReadBack c weights file seed

-- and so every strand of a run: those of the passing seeds among the first t from a start on
abbrev pub RunsReadBack : Type 0
RunsReadBack = (c : Card) (weights file : List ℕ) (start t : ℕ) → card_refusal c weights ≡ 0 → AllBytes file → IsSeed start
    → All (ReadBack c weights file) (passing_first c weights file start t)
