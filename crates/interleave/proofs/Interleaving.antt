-- Interleaving and its inverse: lengths are kept, and which byte stands where, for every width from 1 on and every list of every
-- length. Assumes nothing.
use mathlib.Core.Path.{◌≡◌, refl, sym, ap, ◌∙◌}
use mathlib.Core.List.{List}
use mathlib.Core.Logic.{inl, inr}
use Prim.Native.Nat.{ℕ, zero, suc, ◌+◌, ◌-◌, ◌*◌, ◌/◌, ◌%◌, ◌≤◌, ◌<◌}
use native.Mathlib.Nat.{mod-lt, div-add-mod'}
use native.Mathlib.Omega.{arith}
use lib.ListN.{length, get_or}
use Rattle.field.specs.Bytes.{table_of}
use Rattle.field.proofs.Tables.{entry}
use Rattle.interleave.specs.Interleaving.{interleave, column_start, interleaved_place, deinterleave}
use Rattle.interleave.proofs.Remainders.{less-or-not, remainder_of, quotient-of, count_of, below-count, count-below}
use Rattle.interleave.proofs.Columns.{start-zero, start-suc, start-mono, start-last, columns-length, columns-at}

table-length : (n : ℕ) (f : ℕ → ℕ) → length (table_of n f) ≡ n
unfolding table_of
table-length zero f = refl
table-length (suc n) f = ap suc (table-length n (λ i. f (suc i)))

-- place p of the interleaved file holds a byte of the file
pub record Located (W F p : ℕ) : Type 0 where
  pub byte : ℕ
  pub within : byte < F
  pub there : interleaved_place W F byte ≡ p

module _ (W : ℕ) (least : 1 ≤ W) where
  -- ---- the places of F bytes

  module _ (F : ℕ) where
    -- byte i is one of its column's bytes
    in-column : (i : ℕ) → i < F → i / W < count_of W F (i % W)
    in-column i h = below-count W F (i % W) (mod-lt i (omega arith)) (i / W) (let d = div-add-mod' i W in omega arith)

    pub place-lt : (i : ℕ) → i < F → interleaved_place W F i < F
    unfolding interleaved_place
    place-lt i h =
        let r = mod-lt i {m = W} (omega arith) in
        let c = in-column i h in
        let s = start-suc W F (i % W) r in
        let m = start-mono W F (suc (i % W)) W (omega arith) in
        let l = start-last W F least in
        omega arith

    -- byte k of column r
    pub place_of : (r k : ℕ) → r < W → interleaved_place W F (r + k * W) ≡ column_start W F r + k
    unfolding interleaved_place
    place_of r k h = rw (remainder_of W r k h, quotient-of W r k h)

    -- every place in the first n columns is that of a byte
    find : (n : ℕ) → n ≤ W → (p : ℕ) → p < column_start W F n → Located W F p
    find zero h p b = let z = start-zero W F in absurd (let z : ⊥ = omega arith in z)
    find (suc n) h p b =
        elim (less-or-not p (column_start W F n)) [
          | inl before ↦ find n (omega arith) p before
          | inr from ↦
              let k = p - column_start W F n in
              let s = start-suc W F n (omega arith) in
              let c = count-below W F n (omega arith) k (omega arith) in
              record { byte = n + k * W; within = omega arith; there = place_of n k (omega arith) ∙ omega arith }
        ]

    pub located : (p : ℕ) → p < F → Located W F p
    located p h = find W (omega arith) p (let l = start-last W F least in omega arith)

  -- ---- interleaving

  pub interleave-length : (file : List ℕ) → length (interleave W file) ≡ length file
  unfolding interleave
  interleave-length file = columns-length W file W (omega arith) ∙ start-last W (length file) least

  -- byte i of the file stands at its place of the interleaved file
  pub interleave-at : (file : List ℕ) (i : ℕ) → i < length file
      → get_or (interleave W file) (interleaved_place W (length file) i) 0 ≡ get_or file i 0
  unfolding interleave interleaved_place
  interleave-at file i h =
      let e = div-add-mod' i W in
      columns-at W file W (omega arith) (i % W) (i / W) (mod-lt i (omega arith)) (omega arith) ∙ ap (λ (n : ℕ). get_or file n 0) e

  -- no two bytes have one place: interleaved, the numbers 0, 1, .. stand where they came from
  pub place-injective : (F i j : ℕ) → i < F → j < F → interleaved_place W F i ≡ interleaved_place W F j → i ≡ j
  place-injective F i j hi hj e = sym (back i hi) ∙ ap (λ (p : ℕ). get_or (interleave W numbers) p 0) e ∙ back j hj
    where
      numbers : List ℕ
      numbers = table_of F (λ n. n)

      back : (k : ℕ) → k < F → get_or (interleave W numbers) (interleaved_place W F k) 0 ≡ k
      back k h =
          let l = table-length F (λ n. n) in
          rw l at (interleave-at numbers k (omega arith)) ∙ entry F (λ n. n) k h

  -- ---- its inverse

  pub deinterleave-length : (file : List ℕ) → length (deinterleave W file) ≡ length file
  unfolding deinterleave
  deinterleave-length file = table-length (length file) _

  pub deinterleave-at : (file : List ℕ) (i : ℕ) → i < length file
      → get_or (deinterleave W file) i 0 ≡ get_or file (interleaved_place W (length file) i) 0
  unfolding deinterleave
  deinterleave-at file i h = entry (length file) _ i h
