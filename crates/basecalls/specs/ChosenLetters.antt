-- What the choice between two calls and the letters handed back come to (document 02, Item 8), for every card and every two lent calls.
-- Assumes nothing.
use Rattle.std.specs.Prelude.{◌≡◌, true, false, List, [], ◌++◌, ◌↔◌, ℕ, length}
use Rattle.std.specs.Borrow.{Bor}
use Rattle.droplet.specs.declared.card.Card.{Card}
use Rattle.droplet.specs.PoolCard.{strand_bases}
use Rattle.droplet.specs.Questions.{card_refusal}
use Rattle.screen.specs.Sites.{site_before, site_after}
use Rattle.strand.specs.ReadCheck.{droplet, read_check}
use Rattle.basecalls.specs.TwoCallers.{call_passes, first, second, refused, choose_call, IsPart, LettersPromise}

-- a call is the two sites around letters that the read check accepts, with this seed and payload, k bytes of them mended. What it accepts,
-- `AcceptsExactly` says (strand/specs/LegalStrand)
pub record ReadsAs (c : Card) (weights call letters : List ℕ) (seed : ℕ) (payload : List ℕ) (k : ℕ) : Type 0 where
  pub sites : call ≡ site_before ++ (letters ++ site_after)
  pub accepted : read_check c weights letters ≡ droplet seed payload k

-- with some seed and payload
abbrev pub HasDroplet : Card → List ℕ → List ℕ → List ℕ → Type 0
HasDroplet c weights call letters = (seed : ℕ) × (payload : List ℕ) × (k : ℕ) × ReadsAs c weights call letters seed payload k

pub record CallsThatPass (c : Card) (weights : List ℕ) : Type 0 where
  -- under a card that is not refused a call passes exactly if it reads so
  pub exactly : card_refusal c weights ≡ 0 → (call : List ℕ) → (call_passes c call ≡ true) ↔ ((letters : List ℕ) × HasDroplet c weights call letters)
  -- and it reads in one way only
  pub one_way : (call letters letters' : List ℕ) (seed seed' : ℕ) (payload payload' : List ℕ) (k k' : ℕ)
      → ReadsAs c weights call letters seed payload k → ReadsAs c weights call letters' seed' payload' k'
      → (letters ≡ letters') × (seed ≡ seed') × (payload ≡ payload') × (k ≡ k')

-- of two lent calls and the part that is handed back
pub record Chosen (c : Card) (weights : List ℕ) (call call' part : Bor (List ℕ)) : Type 0 where
  -- the letters handed back are accepted by the read check, with the seed and payload that the choice was made for: the chosen call's. The
  -- second is chosen only where the first does not pass
  pub by_first : choose_call c weights call.now call'.now ≡ first → HasDroplet c weights call.now part.now
  pub by_second : choose_call c weights call.now call'.now ≡ second
      → (call_passes c call.now ≡ false) × HasDroplet c weights call'.now part.now
  -- if the first call passes, it is chosen, whatever the second is
  pub first_alone : card_refusal c weights ≡ 0 → call_passes c call.now ≡ true
      → (choose_call c weights call.now call'.now ≡ first) × IsPart call (length site_before) (strand_bases c) part
  -- "If neither call passes, the pair is refused as 21, after the card questions", and under nothing else
  pub neither : (choose_call c weights call.now call'.now ≡ refused 21)
      ↔ ((card_refusal c weights ≡ 0) × (call_passes c call.now ≡ false) × (call_passes c call'.now ≡ false))
  -- "an empty part on any refusal", and on nothing else
  pub empty : (part.now ≡ []) ↔ ((q : ℕ) × (choose_call c weights call.now call'.now ≡ refused q))

abbrev pub ChoosesRightly : Type 0
ChoosesRightly = (c : Card) (weights : List ℕ) → CallsThatPass c weights
    × ((call call' part : Bor (List ℕ)) → LettersPromise c weights call call' part → Chosen c weights call call' part)
