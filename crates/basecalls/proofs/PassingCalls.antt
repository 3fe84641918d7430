-- A call passes exactly if it is the two sites around letters that the read check accepts. Assumes nothing.
use mathlib.Core.Path.{◌≡◌, refl, sym, ap, ap₂, ◌∙◌}
use mathlib.Core.Bool.{true, false≢true}
use mathlib.Core.List.{List, ◌++◌}
use Prim.Native.Nat.{ℕ, ◌+◌}
use native.Mathlib.Omega.{arith}
use lib.ListN.{length, take, drop, length-append, take-append-drop}
use lib.Seq.{take-append_seam, drop-append_seam, drop-append-add, drop-drop, take_at, drop_at}
use Rattle.field.proofs.SameBytes.{same-eq, eq-same}
use Rattle.droplet.specs.declared.card.Card.{Card}
use Rattle.droplet.specs.PoolCard.{strand_bases}
use Rattle.droplet.specs.Questions.{card_refusal}
use Rattle.droplet.proofs.Conjunctions.{and-true}
use Rattle.screen.specs.Sites.{site_before, site_after}
use Rattle.strand.specs.ReadCheck.{Reading, droplet, refused, letters_reading, read_check}
use Rattle.strand.proofs.LegalStrands.{accepts-exactly}
use Rattle.strand.proofs.ReadingCases.{case-letters}
use Rattle.basecalls.specs.TwoCallers.{sites_right, middle, is_accepted, call_passes}
use Rattle.basecalls.specs.ChosenLetters.{ReadsAs, HasDroplet, CallsThatPass}
use Rattle.basecalls.proofs.CallCases.{before-size, after-size, by-its-middle}
use Rattle.basecalls.proofs.Choices.{PassingCall, passing}

-- ---- the parts of a call

-- a call that has the sites is these with its middle between them
parts : (n : ℕ) (call : List ℕ) → sites_right n call ≡ true → call ≡ site_before ++ (middle n call ++ site_after)
unfolding sites_right middle
parts n call right =
    let start = length site_before in
    let both = and-true _ _ right in
    let behind = sym (take-append-drop n (drop start call)) ∙ ap (λ r. take n (drop start call) ++ r) (drop-drop n start call ∙ same-eq _ _ both.1) in
    sym (take-append-drop start call) ∙ ap₂ ◌++◌ (same-eq _ _ both.0) behind

-- and the other way round: letters between the sites
module _ (n : ℕ) (letters : List ℕ) (size : length letters ≡ n) where
  abbrev between : List ℕ
  between = site_before ++ (letters ++ site_after)

  between-size : length between ≡ n + 48
  between-size =
      omega (arith, length-append site_before (letters ++ site_after), length-append letters site_after, before-size, after-size, size)

  between-sites : sites_right n between ≡ true
  unfolding sites_right
  between-sites =
      rw (
        take-append_seam site_before (letters ++ site_after),
        eq-same site_before,
        drop-append-add site_before (letters ++ site_after) n,
        drop_at letters site_after n size,
        eq-same site_after,
      )

  between-middle : middle n between ≡ letters
  unfolding middle
  between-middle = rw (drop-append_seam site_before (letters ++ site_after)) (take_at letters site_after n size)

-- ---- a call that passes

is-droplet : (x : Reading) → is_accepted x ≡ true → (seed : ℕ) × (payload : List ℕ) × (k : ℕ) × (x ≡ droplet seed payload k)
is-droplet (droplet s p k) e = (s, p, k, refl)
is-droplet (refused n) e = absurd (false≢true e)

module _ (c : Card) (weights : List ℕ) where
  pub reads : (call : List ℕ) → card_refusal c weights ≡ 0 → PassingCall c call → HasDroplet c weights call (middle (strand_bases c) call)
  reads call card p =
      let letters = middle (strand_bases c) call in
      let d = is-droplet (letters_reading c letters) p.legal in
      (d.0, d.1, d.2, record { sites = parts (strand_bases c) call p.sites; accepted = case-letters c weights letters card ∙ d.3 })

  module _ {call letters : List ℕ} {seed : ℕ} {payload : List ℕ} {k : ℕ} (r : ReadsAs c weights call letters seed payload k) where
    pub reads-size : length letters ≡ strand_bases c
    reads-size = ((accepts-exactly c weights letters seed payload k).0 r.accepted).near.bases

    is-middle : middle (strand_bases c) call ≡ letters
    is-middle = rw r.sites (between-middle (strand_bases c) letters reads-size)

    passes : card_refusal c weights ≡ 0 → call_passes c call ≡ true
    passes card =
        let n = strand_bases c in
        let long : length call ≡ n + 48 = rw r.sites (between-size n letters reads-size) in
        let right : sites_right n call ≡ true = rw r.sites (between-sites n letters reads-size) in
        by-its-middle c call long right ∙ rw (is-middle, sym (case-letters c weights letters card) ∙ r.accepted)

  pub calls-that-pass : CallsThatPass c weights
  calls-that-pass = record {
    exactly = λ card call. (λ e. (middle (strand_bases c) call, reads call card (passing c call e)), λ x. passes x.1.3 card);
    one_way = λ call letters letters' seed seed' payload payload' k k' r r'.
        let same : letters ≡ letters' = sym (is-middle r) ∙ is-middle r' in
        let e : droplet seed payload k ≡ droplet seed' payload' k' = sym r.accepted ∙ ap (read_check c weights) same ∙ r'.accepted in
        (same, cc, cc, cc);
  }
