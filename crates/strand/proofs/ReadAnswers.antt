-- What a caller of the read check, or of its questions 9 to 13 alone, learns of the answer. Assumes nothing.
use mathlib.Core.Path.{◌≡◌, refl, sym, ap, ◌∙◌}
use mathlib.Core.List.{List}
use Prim.Native.Nat.{ℕ}
use lib.ListN.{length, take}
use Rattle.std.proofs.Common.{Result, Ok, Err}
use Rattle.field.specs.Bytes.{padded}
use Rattle.field.proofs.ByteLists.{take-padded}
use Rattle.droplet.specs.declared.refusal.Refusal.{Refusal}
use Rattle.droplet.specs.Refusals.{refusal_number}
use Rattle.strand.specs.declared.read_check.ReadDroplet.{ReadDroplet}
use Rattle.strand.specs.ReadCheck.{Reading, read_answer, in_64_bytes, Answers}
use Rattle.strand.specs.ReadCheck.Reading.{droplet, refused}

-- the reading is a droplet's, and the answer's array holds its payload of L bytes
pub record Accepts (L : ℕ) (reading : Reading) (seed : ℕ) (array : List ℕ) (number : ℕ) : Type 0 where
  pub payload : List ℕ
  pub accepted : reading ≡ droplet seed payload number
  pub size : length payload ≡ L
  pub held : array ≡ padded 64 payload
  pub first : take L array ≡ payload

says-droplet : (L : ℕ) (x : Reading) (d : ReadDroplet) → ((seed : ℕ) (p : List ℕ) (k : ℕ) → x ≡ droplet seed p k → length p ≡ L)
    → droplet d.seed d.payload d.corrected ≡ in_64_bytes x → Accepts L x d.seed d.payload d.corrected
says-droplet L (droplet seed p k) d sized e =
    let size = sized seed p k refl in
    let held : d.payload ≡ padded 64 p = cc in
    let number : d.corrected ≡ k = cc in
    let same : d.seed ≡ seed = cc in
    record {
      payload = p;
      accepted = rw (same, number);
      size = size;
      held = held;
      first = ap (take L) held ∙ rw size at (take-padded 64 p);
    }
says-droplet L (refused n) d sized e = absurd (let z : ⊥ = cc in z)

says-refused : (x : Reading) (n : ℕ) → refused n ≡ in_64_bytes x → x ≡ refused n
says-refused (droplet s p k) n e = cc
says-refused (refused m) n e = cc

module _ (L : ℕ) (reading : Reading) (r : Result ReadDroplet Refusal) (answers : Answers reading r) where
  pub accepts : ((seed : ℕ) (p : List ℕ) (k : ℕ) → reading ≡ droplet seed p k → length p ≡ L)
      → (d : ReadDroplet) → r ≡ Ok d → Accepts L reading d.seed d.payload d.corrected
  accepts sized d e = says-droplet L reading d sized (ap read_answer (sym e) ∙ answers.says)

  pub refuses : (q : Refusal) → r ≡ Err q → reading ≡ refused (refusal_number q)
  refuses q e = says-refused reading (refusal_number q) (ap read_answer (sym e) ∙ answers.says)
