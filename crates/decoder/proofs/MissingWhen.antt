-- A segment is missing after a peeling exactly when some set of segments holds it and no droplet has exactly one segment
-- in that set. Assumes nothing.
use mathlib.Core.Path.{◌≡◌, refl, sym, ap, ◌∙◌}
use mathlib.Core.Bool.{Bool, true, false, not}
use mathlib.Core.List.{List}
use mathlib.Core.Logic.{◌↔◌}
use Prim.Native.Nat.{ℕ, ◌<◌}
use Rattle.decoder.specs.Restorer.{Droplet, marked}
use Rattle.decoder.specs.Demand3.{hits, Stalls}
use Rattle.decoder.proofs.AllOf.{all_map}
use Rattle.decoder.proofs.MissingSegments.{hits-missing, hits-unmarked}
use Rattle.decoder.proofs.PoolShapes.{Peelable, state_after}
use Rattle.decoder.proofs.PeelingEnds.{peel_all-still}
use Rattle.decoder.proofs.Segmentwise.{peel_all-each}

-- the segments that marks leave
abbrev pub left_by : List ℕ → ℕ → Bool
left_by marks i = not (marked marks i)

module _ (K L : ℕ) (ds : List Droplet) (file marks : List ℕ) (ok : Peelable K L ds file marks) where
  -- what is left after peeling is a set that no droplet meets in exactly one segment
  pub left-stalls : Stalls (left_by (state_after K L ds file marks).marks) ds
  unfolding Stalls
  left-stalls =
      all_map _ _ (λ d n one. n (sym (hits-missing (state_after K L ds file marks).marks d.segments) ∙ one)) ds
      (peel_all-still K L ds file marks ok)

  -- and the largest such set
  pub left-largest : (S : ℕ → Bool) → Stalls S ds → (i : ℕ) → i < K → S i ≡ true → marked (state_after K L ds file marks).marks i ≡ false
  unfolding Stalls hits
  left-largest S stalls =
      peel_all-each K L (λ i m bytes. S i ≡ true → m ≡ false) (λ d. hits S d.segments ≡ 1 → ⊥)
      (λ d st i fill p h t. absurd (p (hits-unmarked st.marks K S d.segments h fill.droplet.below ∙ ap (hits S) fill.only ∙ rw t)))
      ds file marks ok stalls (λ i b t. refl)

  pub missing_when : (i : ℕ) → i < K
      → (marked (state_after K L ds file marks).marks i ≡ false) ↔ ((S : ℕ → Bool) × (S i ≡ true) × Stalls S ds)
  missing_when i b = (
    (λ e. (left_by (state_after K L ds file marks).marks, rw e, left-stalls)),
    λ t. left-largest t.0 t.2 i b t.1,
  )
