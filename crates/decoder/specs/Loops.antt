-- What the contracts of the decoder's private functions cite. No sentence of document 01 stands here. Assumes nothing.
use Rattle.std.specs.Prelude.{◌≡◌, cond, List, [], ◌∷◌, ℕ, ◌*◌, ◌/◌, ◌≤◌, ◌<◌, eqb, length, take, drop}
use Rattle.field.specs.Bytes.{All}
use Rattle.droplet.specs.PoolCard.{weight_count, weight_sum}
use Rattle.decoder.specs.declared.restorer.Unmarked.{Unmarked}
use Rattle.decoder.specs.declared.restorer.Unmarked.TheVariants as unmarked
use Rattle.decoder.specs.Store.{Record, record_bytes, records}
use Rattle.decoder.specs.Restorer.{missing}

-- the bytes of record i of a store
unfoldable pub record_at : ℕ → List ℕ → ℕ → List ℕ
record_at L store i = take (record_bytes L) (drop (i * record_bytes L) store)

-- the records that stand one after the other in a list of bytes
unfoldable pub records_in : ℕ → List ℕ → List Record
records_in L bytes = records L (length bytes / record_bytes L) bytes

-- the missing segments of a set, as far as a step asks: none, one or more
unfoldable pub unmarked_of : List ℕ → Unmarked
unmarked_of [] = unmarked.None
unmarked_of (i ∷ []) = unmarked.One i
unmarked_of (i ∷ (j ∷ rest)) = unmarked.Several

-- what is found so far, with one unmarked segment more, and with one of a given mark
abbrev pub one_more : Unmarked → ℕ → Unmarked
one_more unmarked.None s = unmarked.One s
one_more (unmarked.One i) s = unmarked.Several
one_more unmarked.Several s = unmarked.Several

unfoldable pub looked_at : Unmarked → ℕ → ℕ → Unmarked
looked_at found s mark = cond (eqb mark 1) found (one_more found s)

-- each segment of a list is one of n
unfoldable pub AllBelow : ℕ → List ℕ → Type 0
AllBelow n = All (λ s. s < n)

-- the marks of a set were looked at: unless several are missing it stands in the front of the list, and what is past its d
-- places is as it was
pub record Looked (set marks : List ℕ) (d : ℕ) (before after : List ℕ) (r : Unmarked) : Type 0 where
  pub found : r ≡ unmarked_of (missing marks set)
  pub front : (r ≡ unmarked.Several → ⊥) → take (length set) after ≡ set
  pub rest : drop d after ≡ drop d before

-- what picking sets asks of a pool: weights that the questions let through, with their sum, for sets out of K segments of L bytes
pub record Pickable (weights : List ℕ) (K sum L : ℕ) : Type 0 where
  pub short : length weights ≤ 4096
  pub summed : sum ≡ weight_sum weights
  pub positive : 1 ≤ weight_sum weights
  pub few : K ≤ 131072
  pub degrees : weight_count weights ≤ K
  pub narrow : L ≤ 64
