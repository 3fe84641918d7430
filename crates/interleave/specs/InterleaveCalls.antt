-- Document 02, Item 14: the questions of dealing and its inverse, what the two calls answer and what they leave in the target.
-- Assumes nothing.
use Rattle.std.specs.Prelude.{◌≡◌, Bool, true, false, cond, ◌&&◌, List, ◌++◌, ℕ, eqb, leb, length, take, drop, Result, Ok, Err}
use Rattle.droplet.specs.declared.card.Card.{Card}
use Rattle.droplet.specs.Questions.{card_refusal}
use Rattle.droplet.specs.declared.refusal.Refusal.{Refusal}
use Rattle.droplet.specs.Refusals.{refusal_number}
use Rattle.interleave.specs.Interleaving.{reordered}

-- 28: "a source or target of fewer than F bytes comes next"; both by their lengths
unfoldable pub both_long : Card → ℕ → ℕ → Bool
both_long c source target = leb c.f source && leb c.f target

-- the number of the first question that says no, or 0
unfoldable pub reorder_refusal : Card → List ℕ → ℕ → ℕ → ℕ
reorder_refusal c weights source target = cond (eqb (card_refusal c weights) 0) (cond (both_long c source target) 0 28) (card_refusal c weights)

-- what the calls answer
pub data Reordered : Type 0 where
  done : Reordered
  refused : ℕ → Reordered

abbrev pub reorder_answer : Result (Unit {0}) Refusal → Reordered
reorder_answer (Ok u) = done
reorder_answer (Err q) = refused (refusal_number q)

-- the answer with the target after the call
pub data ReorderEnd : Type 0 where
  ended : Reordered → List ℕ → ReorderEnd

abbrev pub reorder_reply : ReorderEnd → Reordered
reorder_reply (ended a b) = a

abbrev pub reorder_target : ReorderEnd → List ℕ
reorder_target (ended a b) = b

-- a file in one of the two directions; "Without" the field "the F bytes as they are"
unfoldable pub file_reordered : Bool → Card → List ℕ → List ℕ
file_reordered back c file = cond c.interleaved (reordered back c.width file) file

-- the calls "read one lent buffer and write the first F bytes of another"
unfoldable pub reorder_file : Bool → Card → List ℕ → List ℕ → List ℕ → ReorderEnd
reorder_file back c weights source target =
    cond (eqb (reorder_refusal c weights (length source) (length target)) 0)
    (ended done (file_reordered back c (take c.f source) ++ drop c.f target))
    (ended (refused (reorder_refusal c weights (length source) (length target))) target)

-- the promise of both calls: answer, and the target at exit
pub record ReorderPromise (back : Bool) (c : Card) (weights source target : List ℕ) (r : Result (Unit {0}) Refusal) (target' : List ℕ) : Type 0 where
  pub says : reorder_answer r ≡ reorder_reply (reorder_file back c weights source target)
  pub leaves : target' ≡ reorder_target (reorder_file back c weights source target)

-- dealing, and its inverse
abbrev pub InterleavePromise : Card → List ℕ → List ℕ → List ℕ → Result (Unit {0}) Refusal → List ℕ → Type 0
InterleavePromise = ReorderPromise false

abbrev pub DeinterleavePromise : Card → List ℕ → List ℕ → List ℕ → Result (Unit {0}) Refusal → List ℕ → Type 0
DeinterleavePromise = ReorderPromise true
