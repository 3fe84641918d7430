-- `put_evidence` meets its contract: the payload, and behind it one byte. Assumes nothing.
use Rattle.std.proofs.Common.{◌≡◌, List, [], ◌∷◌, ◌++◌, ℕ, Bool, true, false, not, refl, sym, ◌∙◌, append_assoc}
use mir.Val.{bool_byte}
use Rattle.decoder.specs.Store.{state_byte, evidence_text}
use Rattle.decoder.proofs.records.put_evidence.Goals as goal

byte : (clean : Bool) → bool_byte (not clean) ≡ state_byte clean
byte true = refl
byte false = refl

written : (payload rest : List ℕ) (clean : Bool) → payload ++ (bool_byte (not clean) ∷ rest) ≡ evidence_text payload clean ++ rest
unfolding evidence_text
written payload rest clean = rw (byte clean) (sym (append_assoc payload (state_byte clean ∷ []) rest))

pub returns : goal.returns
returns c = c.copy_both.ensures ∙ rw c.from.ensures (written _ _ _)
