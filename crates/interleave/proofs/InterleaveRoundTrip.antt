-- What one of the two calls wrote the other turns back: `CallsGiveBack`; and what is kept of a file on the way. Assumes nothing.
use mathlib.Core.Path.{◌≡◌, sym, ap, ◌∙◌}
use mathlib.Core.Bool.{Bool, true, not}
use mathlib.Core.List.{List}
use mathlib.Core.Logic.{inl, inr}
use Rattle.std.proofs.Common.{Result}
use Prim.Native.Nat.{ℕ, ◌≤◌}
use native.Mathlib.Omega.{arith}
use lib.ListN.{length, take, length-take}
use lib.Seq.{length-take-le, take_at}
use Rattle.field.specs.Bytes.{AllBytes}
use Rattle.field.proofs.Tests.{either}
use Rattle.droplet.specs.declared.card.Card.{Card}
use Rattle.droplet.specs.Questions.{card_refusal}
use Rattle.droplet.proofs.LegalCard.{legal}
use Rattle.droplet.specs.declared.refusal.Refusal.{Refusal}
use Rattle.interleave.specs.InterleaveCalls.{done, reorder_answer, file_reordered, ReorderPromise}
use Rattle.interleave.specs.InterleaveRoundTrip.{CallsGiveBack}
use Rattle.interleave.proofs.Reordering.{reordered-length, reordered-bytes, reordered-back}
use Rattle.interleave.proofs.ReorderAnswers.{Asked, was-asked, goes_through}

-- ---- a file, reordered if the card has the field

module _ (c : Card) (ws : List ℕ) (fine : card_refusal c ws ≡ 0) where
  -- a width that reorders is from 1 on
  wide : c.interleaved ≡ true → 1 ≤ c.width
  wide there = omega (arith, ((legal c ws fine).width there).width-least)

  module _ (back : Bool) (file : List ℕ) where
    pub file-length : length (file_reordered back c file) ≡ length file
    unfolding file_reordered
    file-length = elim (either c.interleaved) [ inl t ↦ rw t (reordered-length c.width (wide t) back file) | inr f ↦ rw f ]

    pub file-bytes : AllBytes file → AllBytes (file_reordered back c file)
    unfolding file_reordered
    file-bytes h = elim (either c.interleaved) [ inl t ↦ rw t (reordered-bytes c.width (wide t) back file h) | inr f ↦ rw f h ]

    pub file-back : file_reordered (not back) c (file_reordered back c file) ≡ file
    unfolding file_reordered
    file-back = elim (either c.interleaved) [ inl t ↦ rw t (reordered-back c.width (wide t) back file) | inr f ↦ rw f ]

-- ---- the calls

-- a call that was done
module _ (back : Bool) (c : Card) (ws source target : List ℕ) (r : Result (Unit {0}) Refusal) (target' : List ℕ)
    (p : ReorderPromise back c ws source target r target') (e : reorder_answer r ≡ done) where
  known : Asked back c ws source target
  known = was-asked back c ws source target r target' p e

  source-length : length (take c.f source) ≡ c.f
  source-length = length-take-le c.f source known.from

  -- what it wrote
  pub written : take c.f target' ≡ file_reordered back c (take c.f source)
  written =
      let a = known in
      let bytes = file_reordered back c (take c.f source) in
      let left = (goes_through back c ws source target a.fine a.from a.to r target' p).1 in
      ap (take c.f) left ∙ take_at bytes _ c.f (file-length c ws a.fine back (take c.f source) ∙ source-length)

  pub written-length : length (take c.f target') ≡ c.f
  written-length = ap length written ∙ file-length c ws known.fine back (take c.f source) ∙ source-length

pub calls-give-back : CallsGiveBack
calls-give-back back c ws source target first target' p e between buffer second buffer' q same to =
    let fine = (known back c ws source target first target' p e).fine in
    let size = ap length same ∙ written-length back c ws source target first target' p e in
    let from : c.f ≤ length between = omega (arith, sym (length-take c.f between) ∙ size) in
    let through = goes_through (not back) c ws between buffer fine from to second buffer' q in
    let file = same ∙ written back c ws source target first target' p e in
    record {
      says = through.0;
      leaves = through.1 ∙ rw (file, file-back c ws fine back (take c.f source));
    }
