-- A bitmap as a set of numbers: it holds just the members of a list. Assumes nothing.
use mathlib.Core.Path.{◌≡◌, ap, ◌∙◌}
use mathlib.Core.Bool.{true, or-true, or-false}
use mathlib.Core.List.{List, [], ◌∷◌}
use Prim.Native.Nat.{ℕ, ◌+◌, ◌/◌, ◌%◌, ◌<◌, ◌^◌}
use native.Mathlib.Nat.{zero-div}
use native.Mathlib.Omega.{arith}
use native.Mathlib.Decide.{ℕ_discrete}
use lib.Bits.{bit_or}
use lib.ListN.{length, get_or, set, take, length-set, replicate, length-replicate, get_or-replicate}
use lib.Seq.{get_or-set_same, get_or-set_other}
use borrow.Author.Tests.{eq-eqb, ne_eqb}
use Rattle.field.proofs.OneBit.{bit-same, bit-other}
use Rattle.droplet.specs.Droplet.{member}
use Rattle.droplet.specs.Loops.{bit_at, with_bit, Marked}
use Rattle.droplet.proofs.Picking.{take_more}
use Rattle.droplet.proofs.Sets.{member-append}

-- ---- one bit

module _ (words : List ℕ) (s : ℕ) where
  with-same : s / 64 < length words → bit_at (with_bit words s) s ≡ true
  unfolding bit_at with_bit
  with-same inside =
      rw (
        get_or-set_same words (s / 64) (bit_or (get_or words (s / 64) 0) (2 ^ (s % 64))) 0 inside,
        bit-same (get_or words (s / 64) 0) (s % 64),
      )

  with-other : (x : ℕ) → x / 64 < length words → (s ≡ x → ⊥) → bit_at (with_bit words s) x ≡ bit_at words x
  unfolding bit_at with_bit
  with-other x inside n =
      let v = bit_or (get_or words (s / 64) 0) (2 ^ (s % 64)) in
      elim (ℕ_discrete (x / 64) (s / 64)) [
        | yes q ↦
            rw (
              q,
              get_or-set_same words (s / 64) v 0 (rw q at inside),
              bit-other (get_or words (s / 64) 0) (s % 64) (x % 64) (λ r. n (omega arith)),
            )
        | no q ↦ rw (get_or-set_other words (s / 64) (x / 64) v 0 q)
      ]

pub with-length : (words : List ℕ) (s : ℕ) → length (with_bit words s) ≡ length words
unfolding with_bit
with-length words s = simp length-set

-- ---- the bitmap of a list

pub marked-none : (n : ℕ) → Marked (replicate n 0) []
unfolding bit_at member
marked-none n = record { at = λ x h. rw (get_or-replicate {A = ℕ} n (x / 64) 0 0 (simp length-replicate at h), zero-div) }

pub marked_more : (words words' list : List ℕ) (i s : ℕ) → words' ≡ with_bit words s → i < length list
    → Marked words (take i list) → Marked words' (take (i + 1) (set list i s))
unfolding member
marked_more words words' list i s e h m = record {
  at = λ x b. rw (e, take_more list i s h, member-append x (take i list) (s ∷ []))
      (let inside : x / 64 < length words = omega (arith, ap length e ∙ with-length words s) in
      elim (ℕ_discrete s x) [
        | yes q ↦ rw (eq-eqb s x q, or-true, ← q) (with-same words s (rw q inside))
        | no q ↦ rw (ne_eqb s x q, or-false) (with-other words s x inside q ∙ m.at x inside)
      ]);
}
