-- `has_sites` meets its contract: both ends of the call are compared. Assumes nothing.
use Rattle.std.proofs.Common.{◌≡◌, ℕ, ◌+◌, ◌-◌, ◌≤◌, Bool, true, false, List, length, take, refl, ◌∙◌, arith, nat_eq}
use Rattle.std.specs.List.{starts_with, ends_with}
use Rattle.field.specs.Bytes.{same_bytes}
use Rattle.field.proofs.SameBytes.{pointwise-same, same-flip, starts_with-same}
use Rattle.droplet.proofs.Conjunctions.{and_then, and-else}
use Rattle.screen.specs.Letters.{text_letters}
use Rattle.screen.specs.Sites.{site_before, site_after}
use Rattle.basecalls.specs.TwoCallers.{sites_right}
use Rattle.basecalls.proofs.CallCases.{before-size, after-size}
use Rattle.basecalls.proofs.call.has_sites.Goals as goal

module _ (call : List ℕ) {first : Bool} (front : first ≡ starts_with nat_eq call site_before) where
  compared : first ≡ same_bytes (take (length site_before) call) site_before
  compared = front ∙ starts_with-same call site_before

  both : {second : Bool} → 48 ≤ length call → first ≡ true → second ≡ ends_with nat_eq call site_after → second ≡ sites_right (length call - 48) call
  unfolding sites_right
  both long met back =
      let place : length site_before + (length call - 48) ≡ length call - length site_after = omega (arith, before-size, after-size) in
      and_then compared met (rw place (back ∙ pointwise-same site_after _ ∙ same-flip site_after _))

  neither : first ≡ false → first ≡ sites_right (length call - 48) call
  unfolding sites_right
  neither unmet = and-else _ compared unmet refl

pub returns-then-starts_with : goal.returns-then-starts_with
unfolding site_before site_after text_letters
returns-then-starts_with c = both c.args.call.now c.starts_with.ensures.value c.requires c.if-starts_with.true c.ends_with.ensures.value

pub returns-else-starts_with : goal.returns-else-starts_with
unfolding site_before text_letters
returns-else-starts_with c = neither c.args.call.now c.starts_with.ensures.value c.if-starts_with.false
