-- The C form's answer by the read check's: a refusal is handed on, and a droplet has its payload in front of the array.
-- Assumes nothing.
use mathlib.Core.Path.{◌≡◌, refl, sym, ap, ◌∙◌}
use mathlib.Core.List.{List}
use Prim.Native.Nat.{ℕ, ◌≤◌}
use native.Mathlib.Omega.{arith}
use lib.ListN.{length, take}
use Rattle.std.proofs.Common.{Result, Ok, Err}
use Rattle.field.proofs.ByteLists.{padded-length}
use Rattle.droplet.specs.declared.card.Card.{Card}
use Rattle.droplet.specs.declared.refusal.Refusal.{Refusal}
use Rattle.droplet.specs.Refusals.{refusal_number}
use Rattle.droplet.proofs.LegalCard.{legal}
use Rattle.strand.specs.declared.read_check.ReadDroplet.{ReadDroplet}
use Rattle.strand.specs.ReadCheck.{read_check, Answers}
use Rattle.strand.specs.ReadCheck.Reading.{refused}
use Rattle.strand.specs.CForm.{droplet_over, handed_over}
use Rattle.strand.specs.CForm.CAnswer.{handed}
use Rattle.strand.proofs.LegalStrands.{accepts-exactly}
use Rattle.strand.proofs.ReadAnswers.{Accepts, accepts, refuses}

hand_on : (L n : ℕ) (out : List ℕ) → handed_over L out (refused n) ≡ handed n out
unfolding handed_over
hand_on L n out = refl

module _ (c : Card) (weights read : List ℕ) (r : Result ReadDroplet Refusal) (answers : Answers (read_check c weights read) r) where
  pub refusal-handed : (q : Refusal) (out : List ℕ) → r ≡ Err q → handed (refusal_number q) out ≡ handed_over c.l out (read_check c weights read)
  refusal-handed q out e = sym (ap (handed_over c.l out) (refuses c.l _ r answers q e) ∙ hand_on c.l (refusal_number q) out)

  module _ (d : ReadDroplet) (found : r ≡ Ok d) where
    told : Accepts c.l (read_check c weights read) d.seed d.payload d.corrected
    told = accepts c.l _ r answers (λ s p k e. ((accepts-exactly c weights read s p k).0 e).strand.size) d found

    pub narrow : c.l ≤ 64
    narrow = (legal c weights ((accepts-exactly c weights read d.seed told.payload d.corrected).0 told.accepted).strand.card).sizes.l_most

    pub droplet-handed : (out : List ℕ) → droplet_over c.l out d.seed (take c.l d.payload) ≡ handed_over c.l out (read_check c weights read)
    unfolding handed_over
    droplet-handed out = ap (droplet_over c.l out d.seed) told.first ∙ sym (ap (handed_over c.l out) told.accepted)
