-- A payload XOR the marked segments of a list, taken one after the other. Assumes nothing.
use mathlib.Core.Path.{◌≡◌, refl, sym, ap, ◌∙◌}
use mathlib.Core.List.{List, [], ◌∷◌, ◌++◌, append-nil}
use mathlib.Core.Logic.{inl, inr}
use Prim.Native.Nat.{ℕ, ◌+◌, ◌-◌, ◌≤◌}
use native.Mathlib.Omega.{arith}
use borrow.Author.Tests.{eq-eqb, ne_eqb}
use lib.ListN.{length, get_or, replicate, length-replicate, replicate-append-replicate}
use Rattle.field.specs.Bytes.{xor_lists, padded}
use Rattle.field.proofs.Tests.{either}
use Rattle.field.proofs.ByteLists.{xor_lists-length, xor_lists-comm, xor_lists-assoc}
use Rattle.droplet.specs.Droplet.{segment, payload}
use Rattle.droplet.specs.Loops.{xor_front}
use Rattle.droplet.proofs.Payload.{segment-length, payload-length, payload-last}
use Rattle.droplet.proofs.XorFront.{front-padded}
use Rattle.decoder.specs.Restorer.{marked, known}

module _ (marks : List ℕ) where
  known-append : (xs ys : List ℕ) → known marks (xs ++ ys) ≡ known marks xs ++ known marks ys
  unfolding known
  known-append [] ys = refl
  known-append (x ∷ xs) ys =
      elim (either (marked marks x)) [ inl e ↦ rw e (ap (◌∷◌ x) (known-append xs ys)) | inr e ↦ rw e (known-append xs ys) ]

  known_more : (xs : List ℕ) (s : ℕ) → get_or marks s 0 ≡ 1 → known marks (xs ++ (s ∷ [])) ≡ known marks xs ++ (s ∷ [])
  unfolding known marked
  known_more xs s e = known-append xs (s ∷ []) ∙ rw (eq-eqb _ _ e)

  known_past : (xs : List ℕ) (s : ℕ) → (get_or marks s 0 ≡ 1 → ⊥) → known marks (xs ++ (s ∷ [])) ≡ known marks xs
  unfolding known marked
  known_past xs s n = known-append xs (s ∷ []) ∙ rw (ne_eqb _ _ n) (append-nil (known marks xs))

padded-zeros : (n L : ℕ) → L ≤ n → padded n (replicate L 0) ≡ replicate n 0
unfolding padded
padded-zeros n L h =
    let e : L + (n - L) ≡ n = omega arith in
    rw (length-replicate, replicate-append-replicate, e)

module _ (L : ℕ) (file marks stored : List ℕ) (size : length stored ≡ L) where
  -- after the segments of a list, as 64 bytes
  abbrev pub xored : List ℕ → List ℕ
  xored xs = padded 64 (xor_lists stored (payload L file (known marks xs)))

  pub xored-length : (xs : List ℕ) → length (xor_lists stored (payload L file (known marks xs))) ≡ L
  xored-length xs =
      xor_lists-length stored (payload L file (known marks xs)) (size ∙ sym (payload-length L file (known marks xs))) ∙ size

  pub xor-none : L ≤ 64 → xor_front (replicate 64 0) stored ≡ xored []
  unfolding payload known
  xor-none narrow =
      rw (← padded-zeros 64 L narrow, front-padded 64 (replicate L 0) stored (length-replicate L 0 ∙ sym size))
      (ap (padded 64) (xor_lists-comm (replicate L 0) stored))

  module _ (p xs : List ℕ) (s : ℕ) (now : p ≡ xored xs) where
    pub xor-marked : get_or marks s 0 ≡ 1 → xor_front p (segment L file s) ≡ xored (xs ++ (s ∷ []))
    xor-marked e =
        let before = payload L file (known marks xs) in
        rw (
          now,
          front-padded 64 (xor_lists stored before) (segment L file s) (xored-length xs ∙ sym (segment-length L file s)),
          xor_lists-assoc stored before (segment L file s),
          known_more marks xs s e,
          payload-last L file (known marks xs) s,
        )

    pub xor-unmarked : (get_or marks s 0 ≡ 1 → ⊥) → p ≡ xored (xs ++ (s ∷ []))
    xor-unmarked n = rw (known_past marks xs s n) now
