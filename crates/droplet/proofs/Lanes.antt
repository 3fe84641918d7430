-- Weights summed by lanes: where each lane has grown by its byte of a row, the lanes' sum has grown by the row's; and the loop over
-- the rows. Assumes nothing.
use mathlib.Core.Path.{◌≡◌, refl, sym, ap, ◌∙◌}
use mathlib.Core.List.{List, ◌++◌}
use Prim.Native.Nat.{ℕ, zero, suc, ◌+◌, ◌-◌, ◌*◌, ◌^◌, ◌≤◌, ◌<◌}
use native.Mathlib.Nat.{add-zero, add-suc}
use native.Mathlib.Numerals.{add-one}
use native.Mathlib.Omega.{arith}
use lib.ListN.{length, get_or, take, drop, length-drop, length-append, get_or-append, replicate, get_or-replicate}
use lib.Seq.{get_or-drop, drop-drop, drop_at, take_at, take_all}
use Rattle.field.specs.Bytes.{from_big_endian}
use Rattle.droplet.specs.PoolCard.{number_at, weight_at, first_weights}
use Rattle.droplet.proofs.NumberAt.{number-four}

-- a weight by its four bytes, or lanes, from a place on
pub weight-from : (ws : List ℕ) (i b : ℕ) → b ≡ i * 4 → b + 4 ≤ length ws
    → weight_at ws i ≡ ((get_or ws b 0 * 256 + get_or ws (b + 1) 0) * 256 + get_or ws (b + 2) 0) * 256 + get_or ws (b + 3) 0
unfolding weight_at from_big_endian
weight-from ws i b e h = rw (sym e) (let f = number-four ws b (omega arith) in omega arith)

-- lanes that are 0
pub none_yet : (xs : List ℕ) (n : ℕ) → ((k : ℕ) → k < 64 → get_or xs k 0 ≡ 0) → length xs ≡ 64 → n ≤ 16 → first_weights xs n ≡ 0
unfolding first_weights
none_yet xs zero z l h = refl
none_yet xs (suc n) z l h =
    let k = n * 4 in
    let e = weight-from xs n k refl (omega arith) in
    let z₀ = z k (omega arith) in
    let z₁ = z (k + 1) (omega arith) in
    let z₂ = z (k + 2) (omega arith) in
    let z₃ = z (k + 3) (omega arith) in
    omega (arith, none_yet xs n z l (omega arith))

-- lanes `xs` that became `zs` by the row that starts at a byte, and at weight `m`
module _ (ws xs zs : List ℕ) (from m : ℕ) (place : from ≡ m * 4)
    (grown : (k : ℕ) → k < 64 → get_or zs k 0 ≡ get_or xs k 0 + get_or ws (from + k) 0)
    (long-xs : length xs ≡ 64) (long-zs : length zs ≡ 64) (fits : from + 64 ≤ length ws) where
  grown-at : (k at : ℕ) → k < 64 → at ≡ from + k → get_or zs k 0 ≡ get_or xs k 0 + get_or ws at 0
  grown-at k at h e = rw e (grown k h)

  weight-grown : (n : ℕ) → n < 16 → weight_at zs n ≡ weight_at xs n + weight_at ws (m + n)
  weight-grown n h =
      let k = n * 4 in
      let b = from + n * 4 in
      let x = weight-from xs n k refl (omega arith) in
      let z = weight-from zs n k refl (omega arith) in
      let w = weight-from ws (m + n) b (omega arith) (omega arith) in
      let g₀ = grown-at k b (omega arith) refl in
      let g₁ = grown-at (k + 1) (b + 1) (omega arith) (omega arith) in
      let g₂ = grown-at (k + 2) (b + 2) (omega arith) (omega arith) in
      let g₃ = grown-at (k + 3) (b + 3) (omega arith) (omega arith) in
      omega arith

  sums_grown : (n : ℕ) → n ≤ 16 → first_weights zs n + first_weights ws m ≡ first_weights xs n + first_weights ws (m + n)
  unfolding first_weights
  sums_grown zero h = rw add-zero
  sums_grown (suc n) h = rw add-suc (omega (arith, sums_grown n (omega arith), weight-grown n (omega arith)))

  pub row-added : first_weights xs 16 ≡ first_weights ws m → first_weights zs 16 ≡ first_weights ws (m + 16)
  row-added e = omega (arith, sums_grown 16 (omega arith))

-- ---- the loop over the rows

-- after `n` rows the lanes' weights have the sum of those, no lane is more than 255 for each, and the rows that are left stand behind
pub record Summed (ws lanes rest : List ℕ) (n : ℕ) : Type 0 where
  pub long : length lanes ≡ 64
  pub sum : first_weights lanes 16 ≡ first_weights ws (n * 16)
  pub small : (k : ℕ) → k < 64 → get_or lanes k 0 ≤ 255 * n
  pub left : rest ≡ drop (n * 64) ws
  pub inside : n * 64 ≤ length ws

pub summed-none : (ws : List ℕ) → Summed ws (replicate 64 0) ws 0
unfolding first_weights
summed-none ws =
    let zeros : (k : ℕ) → k < 64 → get_or (replicate {A = ℕ} 64 0) k 0 ≡ 0 = λ k h. get_or-replicate 64 k 0 0 h in
    record {
      long = refl;
      sum = none_yet (replicate 64 0) 16 zeros refl (omega arith);
      small = λ k h. omega (arith, zeros k h);
      left = refl;
      inside = omega arith;
    }

module _ (ws lanes rest : List ℕ) (n : ℕ) (now : Summed ws lanes rest n) where
  -- one row more, where the bytes are below 256
  pub summed_more : (bytes : (k : ℕ) → get_or ws k 0 < 256) (grown row rest' : List ℕ) → length row ≡ 64 → rest ≡ row ++ rest'
      → length grown ≡ 64 → ((k : ℕ) → k < 64 → get_or grown k 0 ≡ get_or lanes k 0 + get_or row k 0) → Summed ws grown rest' (n + 1)
  summed_more bytes grown row rest' row-long taken long added =
      let at : (k : ℕ) → k < 64 → get_or row k 0 ≡ get_or ws (n * 64 + k) 0 =
      λ k h. sym (get_or-append row rest' 0 k (omega arith)) ∙ rw (sym taken ∙ now.left) (get_or-drop (n * 64) ws k 0) in
      let lengths : length rest ≡ length ws - n * 64 = rw now.left (length-drop (n * 64) ws) in
      let more : length rest ≡ length row + length rest' = ap length taken ∙ length-append row rest' in
      let here : (k : ℕ) → k < 64 → get_or grown k 0 ≡ get_or lanes k 0 + get_or ws (n * 64 + k) 0 = λ k h. rw (← at k h) (added k h) in
      let next : (n + 1) * 64 ≡ n * 64 + 64 = omega arith in
      let next₁₆ : (n + 1) * 16 ≡ n * 16 + 16 = omega arith in
      record {
        long = long;
        sum = rw next₁₆ (row-added ws lanes grown (n * 64) (n * 16) (omega arith) here now.long long (omega arith) now.sum);
        small = λ k h. omega (arith, here k h, bytes (n * 64 + k), now.small k h);
        left = sym (drop_at row rest' 64 row-long) ∙ rw (sym taken ∙ now.left, next) (drop-drop 64 (n * 64) ws);
        inside = omega arith;
      }

-- ---- the loop over the weights of the lanes

-- `sum` is that of the first `n` weights, and the lanes that are left stand behind those
pub record Joined (lanes rest : List ℕ) (sum n : ℕ) : Type 0 where
  pub summed : sum ≡ first_weights lanes n
  pub small : sum ≤ 2 ^ 41 * n
  pub left : rest ≡ drop (n * 4) lanes
  pub inside : n * 4 ≤ length lanes

pub joined-none : (lanes : List ℕ) → Joined lanes lanes 0 0
unfolding first_weights
joined-none lanes = record { summed = refl; small = omega arith; left = refl; inside = omega arith }

-- one weight more
pub joined_more : (lanes rest : List ℕ) (sum n : ℕ) → Joined lanes rest sum n → (four rest' : List ℕ) (weight : ℕ) → length four ≡ 4
    → rest ≡ four ++ rest' → weight ≡ weight_at four 0 → weight < 2 ^ 41 → Joined lanes rest' (sum + weight) (n + 1)
unfolding first_weights weight_at number_at
joined_more lanes rest sum n now four rest' weight long taken is few =
    let next : (n + 1) * 4 ≡ n * 4 + 4 = omega arith in
    let lengths : length rest ≡ length lanes - n * 4 = rw now.left (length-drop (n * 4) lanes) in
    let more : length rest ≡ length four + length rest' = ap length taken ∙ length-append four rest' in
    let here : take 4 (drop (n * 4) lanes) ≡ take 4 four =
    ap (take 4) (sym now.left ∙ taken) ∙ take_at four rest' 4 long ∙ sym (take_all 4 four (omega arith)) in
    let w : weight ≡ weight_at lanes n = is ∙ ap from_big_endian (sym here) in
    record {
      summed = rw add-one (omega (arith, now.summed));
      small = omega (arith, now.small);
      left = sym (drop_at four rest' 4 long) ∙ rw (sym taken ∙ now.left, next) (drop-drop 4 (n * 4) lanes);
      inside = omega arith;
    }
