-- "Dealing and undealing give back every file of every length" (document 02, Item 14): of lists, and of the two calls. Assumes nothing.
use Rattle.std.specs.Prelude.{◌≡◌, Bool, not, List, ◌++◌, ℕ, ◌≤◌, length, take, drop, Result}
use Rattle.droplet.specs.declared.card.Card.{Card}
use Rattle.droplet.specs.declared.refusal.Refusal.{Refusal}
use Rattle.interleave.specs.Interleaving.{interleave, deinterleave}
use Rattle.interleave.specs.InterleaveCalls.{done, reorder_answer, ReorderPromise}

-- every file, and every width from 1 on
abbrev pub InterleaveBack : Type 0
InterleaveBack = (W : ℕ) (file : List ℕ) → 1 ≤ W → deinterleave W (interleave W file) ≡ file

abbrev pub DeinterleaveBack : Type 0
DeinterleaveBack = (W : ℕ) (file : List ℕ) → 1 ≤ W → interleave W (deinterleave W file) ≡ file

-- the F bytes of a source are back at the start of a buffer, and the rest of it is as it was
pub record GivenBack (c : Card) (source buffer : List ℕ) (r : Result (Unit {0}) Refusal) (buffer' : List ℕ) : Type 0 where
  pub says : reorder_answer r ≡ done
  pub leaves : buffer' ≡ take c.f source ++ drop c.f buffer

-- what one of the calls wrote the other turns back, in any buffer of at least F bytes; of what it is handed the first F bytes count
abbrev pub CallsGiveBack : Type 0
CallsGiveBack = (back : Bool) (c : Card) (weights source target : List ℕ) (first : Result (Unit {0}) Refusal) (target' : List ℕ)
    → ReorderPromise back c weights source target first target' → reorder_answer first ≡ done
    → (between buffer : List ℕ) (second : Result (Unit {0}) Refusal) (buffer' : List ℕ) → ReorderPromise (not back) c weights between buffer second buffer'
    → take c.f between ≡ take c.f target' → c.f ≤ length buffer → GivenBack c source buffer second buffer'
