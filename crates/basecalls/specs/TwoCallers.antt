-- Document 02, Item 8, "Two base callers": "The instrument sends two calls of each ordered strand, 48 bases longer than n, with sites as in
-- Item 1." The choice between them, and the letters that are handed back. Assumes nothing.
use Rattle.std.specs.Prelude.{◌≡◌, Bool, true, false, cond, ◌&&◌, List, ℕ, ◌+◌, eqb, length, take, drop, Result, Ok, Err}
use Rattle.std.specs.Borrow.{Bor}
use Rattle.field.specs.Bytes.{same_bytes}
use Rattle.droplet.specs.declared.card.Card.{Card}
use Rattle.droplet.specs.PoolCard.{strand_bases}
use Rattle.droplet.specs.Questions.{card_refusal}
use Rattle.screen.specs.Sites.{site_before, site_after}
use Rattle.strand.specs.ReadCheck.{Reading, letters_reading}
use Rattle.droplet.specs.declared.refusal.Refusal.{Refusal}
use Rattle.droplet.specs.Refusals.{refusal_number}
use Rattle.basecalls.specs.declared.choice.Caller.{Caller}
use Rattle.basecalls.specs.declared.choice.Caller.TheVariants as caller

-- "the right .. sites": at the ends of a call, to the letter, with n letters between them
unfoldable pub sites_right : ℕ → List ℕ → Bool
sites_right n call = same_bytes (take (length site_before) call) site_before && same_bytes (drop (length site_before + n) call) site_after

-- "the middle n letters"
unfoldable pub middle : ℕ → List ℕ → List ℕ
middle n call = take n (drop (length site_before) call)

-- "passes the read check": its questions 9 to 13, those of the card being asked before
abbrev pub is_accepted : Reading → Bool
is_accepted (Reading.droplet seed payload k) = true
is_accepted (Reading.refused n) = false

-- a call "that has the right length and sites and passes the read check"
unfoldable pub call_passes : Card → List ℕ → Bool
call_passes c call =
    eqb (length call) (strand_bases c + 48)
    && sites_right (strand_bases c) call && is_accepted (letters_reading c (middle (strand_bases c) call))

-- "the choice or the number"
pub data Choice : Type 0 where
  first : Choice
  second : Choice
  refused : ℕ → Choice

abbrev pub choice_of : Result Caller Refusal → Choice
choice_of (Ok caller.First) = first
choice_of (Ok caller.Second) = second
choice_of (Err q) = refused (refusal_number q)

-- "the first call that .. passes ..; otherwise .. the second. If neither call passes, the pair is refused as 21"
unfoldable pub first_passing : Card → List ℕ → List ℕ → Choice
first_passing c call call' = cond (call_passes c call) first (cond (call_passes c call') second (refused 21))

-- "after the card questions"
unfoldable pub choose_call : Card → List ℕ → List ℕ → List ℕ → Choice
choose_call c weights call call' =
    cond (eqb (card_refusal c weights) 0) (first_passing c call call') (refused (card_refusal c weights))

-- the letters that are handed back, "as read and before any mending": of which call, from where on and how many; "an empty part on any
-- refusal", which is the first call's
abbrev pub lender : {A : Type 0} → Choice → A → A → A
lender first call call' = call
lender second call call' = call'
lender (refused q) call call' = call

abbrev pub part_start : Choice → ℕ
part_start first = length site_before
part_start second = length site_before
part_start (refused q) = 0

abbrev pub part_size : ℕ → Choice → ℕ
part_size n first = n
part_size n second = n
part_size n (refused q) = 0

-- "that part of the lent call itself": so many of its letters from a place on, where they stand in memory. A reference points to a place
-- in a block
pub record IsPart (call : Bor (List ℕ)) (start size : ℕ) (part : Bor (List ℕ)) : Type 0 where
  pub block : part.ref_ptr.0 ≡ call.ref_ptr.0
  pub place : part.ref_ptr.1 ≡ call.ref_ptr.1 + start
  pub letters : part.now ≡ take size (drop start call.now)

-- the promise of the call that gives the letters
abbrev pub LettersPromise : Card → List ℕ → Bor (List ℕ) → Bor (List ℕ) → Bor (List ℕ) → Type 0
LettersPromise c weights call call' part =
    let choice = choose_call c weights call.now call'.now in
    IsPart (lender choice call call') (part_start choice) (part_size (strand_bases c) choice) part
