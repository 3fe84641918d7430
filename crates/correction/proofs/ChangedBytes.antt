-- One byte of a word changed: the values, and the distance; and a word is another with one byte after the other changed. Assumes nothing.
use mathlib.Core.Path.{◌≡◌, sym, ap, ap₂, ◌∙◌}
use mathlib.Core.List.{List, [], ◌∷◌}
use Prim.Native.Nat.{ℕ, zero, suc, ◌*◌, ◌-◌, ◌^◌, ◌<◌, ◌≤◌}
use native.Mathlib.Omega.{arith}
use lib.Bits.{bit_xor, xor_lt}
use lib.ListN.{length, get_or, set, length-set}
use Rattle.field.specs.Bytes.{AllBytes}
use Rattle.field.specs.CheckBytes.{times_power, value_at}
use Rattle.field.proofs.Xor.{xors, xor_assoc, xor-cancel}
use Rattle.field.proofs.Powers.{power-xor}
use Rattle.correction.specs.Correction.{distance}
use Rattle.correction.specs.Locators.{changed}
use Rattle.correction.proofs.Distances.{nearer-place, set-distance, set-bytes, byte_at}
use Rattle.correction.proofs.AtMostOne.{value-cons}

set-turn : (i m x e v : ℕ) → bit_xor (times_power (i * m) (bit_xor x e)) v ≡ bit_xor (bit_xor (times_power (i * m) x) v) (times_power (i * m) e)
set-turn i m x e v = simp (power-xor, xors)

set_value : (i j e : ℕ) (w : List ℕ) → j < length w
    → value_at i (set w j (bit_xor (get_or w j 0) e)) ≡ bit_xor (value_at i w) (times_power (i * (length w - suc j)) e)
set_value i j e [] h = absurd (let z : ⊥ = omega arith in z)
set_value i zero e (x ∷ xs) h =
    let m : suc (length xs) - 1 ≡ length xs = omega arith in
    value-cons i (bit_xor x e) xs ∙ set-turn i (length xs) x e (value_at i xs)
    ∙ ap₂ (λ (u n : ℕ). bit_xor u (times_power (i * n) e)) (sym (value-cons i x xs)) (sym m)
set_value i (suc j) e (x ∷ xs) h =
    let m : suc (length xs) - suc (suc j) ≡ length xs - suc j = omega arith in
    let l = set xs j (bit_xor (get_or xs j 0) e) in
    value-cons i x l
    ∙ ap₂ (λ (n v : ℕ). bit_xor (times_power (i * n) x) v) (length-set xs j _) (set_value i j e xs (omega arith))
    ∙ sym (xor_assoc (times_power (i * length xs) x) (value_at i xs) (times_power (i * (length xs - suc j)) e))
    ∙ ap₂ (λ (u n : ℕ). bit_xor u (times_power (i * n) e)) (sym (value-cons i x xs)) (sym m)

module _ (w : List ℕ) (p e : ℕ) (h : p < length w) where
  pub changed-value : (i : ℕ) → value_at i (changed w p e) ≡ bit_xor (value_at i w) (times_power (i * p) e)
  unfolding changed
  changed-value i =
      let m : length w - suc (length w - suc p) ≡ p = omega arith in
      set_value i (length w - suc p) e w (omega arith)
      ∙ ap (λ (n : ℕ). bit_xor (value_at i w) (times_power (i * n) e)) m

  pub changed-length : length (changed w p e) ≡ length w
  unfolding changed
  changed-length = length-set w (length w - suc p) _

  pub changed-bytes : AllBytes w → e < 2 ^ 8 → AllBytes (changed w p e)
  unfolding changed
  changed-bytes hs he = set-bytes w _ _ hs (xor_lt 8 _ e (byte_at w (length w - suc p) hs) he)

  pub changed-distance : (u : List ℕ) → length w ≡ length u → distance (changed w p e) u ≤ suc (distance w u)
  unfolding changed
  changed-distance u q = set-distance w u _ _ q

-- a change that makes one word nearer to another
pub record Step (v w : List ℕ) : Type 0 where
  pub place : ℕ
  pub byte : ℕ
  pub inside : place < length w
  pub small : byte < 2 ^ 8
  pub closer : suc (distance v (changed w place byte)) ≤ distance v w

pub step : (v w : List ℕ) → length v ≡ length w → AllBytes v → AllBytes w → 0 < distance v w → Step v w
unfolding changed
step v w e hv hw h =
    let r = nearer-place v w e h in
    let j = r.place in
    let i = r.inside in
    let p = length w - suc j in
    let m : length w - suc p ≡ j = omega arith in
    record {
      place = p;
      byte = bit_xor (get_or w j 0) (get_or v j 0);
      inside = omega arith;
      small = xor_lt 8 _ _ (byte_at w j hw) (byte_at v j hv);
      closer = rw (m, xor-cancel (get_or w j 0) (get_or v j 0)) r.nearer;
    }
