-- The payload of a set is the XOR of that of its known and that of its missing segments. Assumes nothing.
use mathlib.Core.Path.{◌≡◌, refl, sym, ap₂, ◌∙◌}
use mathlib.Core.List.{List, [], ◌∷◌}
use mathlib.Core.Logic.{inl, inr}
use Prim.Native.Nat.{ℕ}
use lib.ListN.{length, replicate, length-replicate}
use Rattle.field.specs.Bytes.{All, AllBytes, xor_lists}
use Rattle.field.proofs.Tests.{either}
use Rattle.field.proofs.ByteLists.{zeros-bytes, xor_lists-bytes, xor_lists-assoc, xor_lists-left-comm, xor_lists-zeros}
use Rattle.droplet.specs.Droplet.{segment, payload}
use Rattle.droplet.proofs.Payload.{segment-length, payload-cons}
use Rattle.decoder.specs.Restorer.{marked, missing, known}

xor-zeros : (L : ℕ) (xs : List ℕ) → length xs ≡ L → xor_lists xs (replicate L 0) ≡ xs
xor-zeros L xs e = rw (← e) (xor_lists-zeros xs)

module _ (L : ℕ) (file : List ℕ) where
  pub payload-nil : payload L file [] ≡ replicate L 0
  unfolding payload
  payload-nil = refl

  pub payload-one : (i : ℕ) → payload L file (i ∷ []) ≡ segment L file i
  payload-one i = payload-cons L file i [] ∙ rw payload-nil (xor-zeros L (segment L file i) (segment-length L file i))

  pub payload-parts : (marks set : List ℕ)
      → payload L file set ≡ xor_lists (payload L file (known marks set)) (payload L file (missing marks set))
  unfolding known missing
  payload-parts marks [] = rw payload-nil (sym (xor-zeros L (replicate L 0) (length-replicate L 0)))
  payload-parts marks (s ∷ set) =
      let bytes = segment L file s in
      let filled = payload L file (known marks set) in
      let left = payload L file (missing marks set) in
      rw (payload-cons L file s set, payload-parts marks set)
      (elim (either (marked marks s)) [
        | inl e ↦ rw (e, payload-cons L file s (known marks set)) (sym (xor_lists-assoc bytes filled left))
        | inr e ↦ rw (e, payload-cons L file s (missing marks set)) (xor_lists-left-comm bytes filled left)
      ])

  pub payload-all-bytes : (set : List ℕ) → All (λ s. AllBytes (segment L file s)) set → AllBytes (payload L file set)
  payload-all-bytes [] h = rw payload-nil (zeros-bytes L)
  payload-all-bytes (s ∷ set) h =
      rw (payload-cons L file s set) (xor_lists-bytes (segment L file s) (payload L file set) h.0 (payload-all-bytes set h.1))

-- files that agree on the segments of a set have the same payload
pub payload_same : (L : ℕ) (f g set : List ℕ) → All (λ s. segment L f s ≡ segment L g s) set → payload L f set ≡ payload L g set
payload_same L f g [] h = payload-nil L f ∙ sym (payload-nil L g)
payload_same L f g (s ∷ set) h =
    payload-cons L f s set ∙ ap₂ xor_lists h.0 (payload_same L f g set h.1) ∙ sym (payload-cons L g s set)
