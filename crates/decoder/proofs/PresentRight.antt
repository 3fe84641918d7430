-- Each segment that a peeling leaves present is that of every file that gives all its droplets. Assumes nothing.
use mathlib.Core.Path.{◌≡◌, sym, ◌∙◌}
use mathlib.Core.Bool.{true, false≢true}
use mathlib.Core.List.{List}
use Prim.Native.Nat.{ℕ, ◌<◌}
use Rattle.field.specs.Bytes.{xor_lists}
use Rattle.field.proofs.ByteLists.{xor_lists-comm, xor_lists-cancel}
use Rattle.droplet.specs.Droplet.{segment, payload}
use Rattle.droplet.proofs.Payload.{segment-length, payload-length}
use Rattle.decoder.specs.Restorer.{Droplet, State, marked, known}
use Rattle.decoder.specs.Demand3.{GivesAll}
use Rattle.decoder.proofs.MissingSegments.{known-all}
use Rattle.decoder.proofs.PoolShapes.{Peelable, state_after}
use Rattle.decoder.proofs.StepCases.{filling, Fill}
use Rattle.decoder.proofs.Segmentwise.{peel_all-each}
use Rattle.decoder.proofs.PayloadParts.{payload-one, payload-parts, payload_same}

module _ (K L : ℕ) (g : List ℕ) where
  -- what is filled in is g's segment, where g gives the droplet and the known segments are g's
  filling-right : (d : Droplet) (st : State) (i : ℕ) → Fill K L d st i → payload L g d.segments ≡ d.payload
      → ((j : ℕ) → j < K → marked st.marks j ≡ true → segment L st.file j ≡ segment L g j) → filling L d st ≡ segment L g i
  filling-right d st i fill gives h =
      let recs = known st.marks d.segments in
      let known = payload L g recs in
      let given : d.payload ≡ xor_lists known (segment L g i)
      = sym gives ∙ payload-parts L g st.marks d.segments ∙ rw (fill.only, payload-one L g i) in
      let same : payload L st.file recs ≡ known
      = payload_same L st.file g recs (known-all st.marks (λ s. s < K) (λ s. segment L st.file s ≡ segment L g s) h d.segments fill.droplet.below) in
      rw (given, same, xor_lists-comm (xor_lists known (segment L g i)) known)
      (xor_lists-cancel known (segment L g i) (payload-length L g recs ∙ sym (segment-length L g i)))

  pub present_right : (ds : List Droplet) (file marks : List ℕ) → Peelable K L ds file marks → GivesAll L g ds
      → (i : ℕ) → i < K → marked (state_after K L ds file marks).marks i ≡ true
      → segment L (state_after K L ds file marks).file i ≡ segment L g i
  unfolding GivesAll
  present_right ds file marks ok gives =
      peel_all-each K L (λ i m bytes. m ≡ true → bytes ≡ segment L g i) (λ d. payload L g d.segments ≡ d.payload)
      (λ d st i fill p h t. filling-right d st i fill p h) ds file marks ok gives (λ i b t. absurd (false≢true t))
