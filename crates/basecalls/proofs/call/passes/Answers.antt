-- `passes` meets its contract: one law for each of its answers. Assumes nothing.
use Rattle.std.proofs.Common.{◌≡◌, ℕ, ◌+◌, ◌-◌, Bool, true, false, List, length, Result, Ok, Err, is_ok, refl, sym, ap, ◌∙◌, arith}
use Rattle.droplet.specs.declared.card.Card.{Card}
use Rattle.droplet.specs.declared.refusal.Refusal.{Refusal}
use Rattle.droplet.specs.PoolCard.{strand_bases}
use Rattle.strand.specs.declared.read_check.ReadDroplet.{ReadDroplet}
use Rattle.strand.specs.ReadCheck.{Reading, droplet, refused, read_answer, in_64_bytes, letters_reading, Answers}
use Rattle.basecalls.specs.TwoCallers.{sites_right, middle, is_accepted, call_passes}
use Rattle.basecalls.proofs.CallCases.{other_length, other-sites, by-its-middle}
use Rattle.basecalls.proofs.call.passes.Goals as goal

-- the read check answers a droplet just where it accepts
accepted : (x : Reading) (r : Result ReadDroplet Refusal) → read_answer r ≡ in_64_bytes x → is_ok r ≡ is_accepted x
accepted (droplet s p k) (Ok d) e = refl
accepted (droplet s p k) (Err q) e = absurd (let z : ⊥ = cc in z)
accepted (refused n) (Ok d) e = absurd (let z : ⊥ = cc in z)
accepted (refused n) (Err q) e = refl

-- n is the length of a strand, as the code computed it
module _ (card : Card) (call : List ℕ) (n : ℕ) (bases : n ≡ strand_bases card) where
  by-length : (length call ≡ n + 48 → ⊥) → false ≡ call_passes card call
  by-length other = sym (other_length card call (λ e. other (e ∙ ap (λ m. m + 48) (sym bases))))

  module _ {right : Bool} (size : length call ≡ n + 48) (sites : right ≡ sites_right (length call - 48) call) where
    long : length call ≡ strand_bases card + 48
    long = size ∙ ap (λ m. m + 48) bases

    sites-are : (b : Bool) → right ≡ b → sites_right (strand_bases card) call ≡ b
    sites-are b e =
        let behind : strand_bases card ≡ length call - 48 = omega (arith, long) in
        ap (λ m. sites_right m call) behind ∙ sym sites ∙ e

    by-sites : right ≡ false → right ≡ call_passes card call
    by-sites unmet = unmet ∙ sym (other-sites card call long (sites-are false unmet))

    by-middle : {letters : List ℕ} {r : Result ReadDroplet Refusal} {answer : Bool} → right ≡ true → letters ≡ middle n call
        → Answers (letters_reading card letters) r → answer ≡ is_ok r → answer ≡ call_passes card call
    by-middle met taken read ok =
        ok ∙ accepted _ _ read.says ∙ ap (λ l. is_accepted (letters_reading card l)) (taken ∙ ap (λ m. middle m call) bases)
        ∙ sym (by-its-middle card call long (sites-are true met))

pub returns-then-call-n : goal.returns-then-call-n
returns-then-call-n c = by-length c.args.card c.args.call.now c.strand_bases-n.result.0 c.strand_bases-n.ensures.0 (λ e. omega (arith, e))

pub returns-then-has_sites : goal.returns-then-has_sites
unfolding middle
returns-then-has_sites c =
    by-middle c.args.card c.args.call.now c.strand_bases-n.result.0 c.strand_bases-n.ensures.0 (omega (arith, c.if-call-n.false)) c.has_sites.ensures
    c.if-has_sites.true c.middle.ensures.letters c.check_strand.ensures c.is_ok.ensures.value

pub returns-else-has_sites : goal.returns-else-has_sites
returns-else-has_sites c =
    by-sites c.args.card c.args.call.now c.strand_bases-n.result.0 c.strand_bases-n.ensures.0 (omega (arith, c.if-call-n.false)) c.has_sites.ensures
    c.if-has_sites.false
