-- `put_matches` meets its contract. The invariant: a number, of the bytes so far, that what is left of the word takes to the word's,
-- with its C and G; and its matches, all but the last number of them, which waits for the base that comes next. Assumes nothing.
use mathlib.Core.Path.{◌≡◌}
use mathlib.Core.List.{List}
use Prim.Native.Nat.{ℕ, ◌+◌, ◌*◌, ◌/◌, ◌%◌, ◌^◌, ◌<◌, ◌≤◌}
use lib.Bits.{bit_xor}
use lib.ListN.{length, take, drop}
use Rattle.screen.specs.Loops.{number_after, chunks_number, low_bits, gc_in, zero_pairs, matches}
use Rattle.screen.proofs.screen.put_matches.Given as goal

-- the flags of k bases of x, if t comes next
abbrev pub flags_of : ℕ → ℕ → ℕ → ℕ
flags_of k x t = zero_pairs k (bit_xor (x % 2 ^ 62 * 4 + t) x)

pub record Stands (word : List ℕ) (before : ℕ) (chunks : List ℕ) (gc last mask k : ℕ) : Type 0 where
  pub number : ℕ
  pub width : ℕ
  pub at_most : k ≤ length word / 8
  pub room : length chunks ≡ length word / 8 + 1
  pub leads : number_after number (drop (length word % 8 + k * 8) word) ≡ number_after before word
  pub masks : mask ≡ low_bits width
  pub flags : (t : ℕ) → t < 4
      → chunks_number (take k chunks) * 2 ^ 64 + flags_of width last t ≡ matches (4 * (length word % 8 + k * 8) + 1) (number * 4 + t)
  pub counts : gc ≡ gc_in (4 * (length word % 8 + k * 8)) number

abbrev pub invariant-loop-k : goal.invariant-loop-k
invariant-loop-k l =
    (l.rest ≡ length l.word % 8) × (l.eights ≡ length l.word / 8) × Stands l.word l.before l.matches l.gc l.last l.mask l.k
