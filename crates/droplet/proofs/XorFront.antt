-- A list XORed into the front of another: byte by byte, with zeros behind it, and where what is behind stays. Assumes nothing.
use mathlib.Core.Path.{◌≡◌, refl, sym, ap, ap₂, ◌∙◌}
use mathlib.Core.List.{List, [], ◌∷◌, ◌++◌}
use Prim.Native.Nat.{ℕ, zero, suc, min, ◌+◌, ◌-◌, ◌*◌, ◌≤◌, ◌<◌}
use native.Mathlib.Numerals.{add-one}
use native.Mathlib.Omega.{arith}
use native.Mathlib.Decide.{dec_le}
use lib.Bits.{bit_xor, xor_zero_r}
use lib.ListN.{length, get_or, take, drop, set, replicate, length-take, length-drop}
use lib.Seq.{take_at, drop_at, take_all}
use Rattle.field.specs.Bytes.{xor_lists, padded}
use Rattle.field.proofs.ByteLists.{xor_lists-length}
use Rattle.droplet.specs.Droplet.{segment}
use Rattle.droplet.specs.Loops.{xor_front}

pub front-none : (p : List ℕ) → xor_front p [] ≡ p
unfolding xor_front xor_lists
front-none p = refl

-- one more byte
front-suc : (p q : List ℕ) (b : ℕ) → b < length q → length q ≤ length p
    → set (xor_front p (take b q)) b (bit_xor (get_or (xor_front p (take b q)) b 0) (get_or q b 0)) ≡ xor_front p (take (suc b) q)
unfolding xor_front xor_lists
front-suc p [] b h l = absurd (let z : ⊥ = omega arith in z)
front-suc [] (y ∷ q) b h l = absurd (let z : ⊥ = omega arith in z)
front-suc (x ∷ p) (y ∷ q) zero h l = refl
front-suc (x ∷ p) (y ∷ q) (suc b) h l = ap (◌∷◌ (bit_xor x y)) (front-suc p q b (omega arith) (omega arith))

pub front-next : (p q : List ℕ) (b : ℕ) → b < length q → length q ≤ length p
    → set (xor_front p (take b q)) b (bit_xor (get_or (xor_front p (take b q)) b 0) (get_or q b 0)) ≡ xor_front p (take (b + 1) q)
front-next p q b h l = rw add-one (front-suc p q b h l)

-- zeros change nothing
front-zeros : (p q : List ℕ) (n : ℕ) → length q + n ≤ length p → xor_front p (q ++ replicate n 0) ≡ xor_front p q
unfolding xor_front xor_lists
front-zeros p [] zero h = refl
front-zeros [] [] (suc n) h = refl
front-zeros (x ∷ p) [] (suc n) h = ap₂ ◌∷◌ (xor_zero_r x) (front-zeros p [] n (omega arith))
front-zeros [] (y ∷ q) n h = absurd (let z : ⊥ = omega arith in z)
front-zeros (x ∷ p) (y ∷ q) n h = ap (◌∷◌ (bit_xor x y)) (front-zeros p q n (omega arith))

-- so the bytes of a segment past the file's end can be left out
pub front-segment : (p file : List ℕ) (L s : ℕ) → L ≤ length p
    → xor_front p (take (min (s * L + L) (length file) - s * L) (drop (s * L) file)) ≡ xor_front p (segment L file s)
unfolding segment padded
front-segment p file L s h =
    let rest = drop (s * L) file in
    let e : take (min (s * L + L) (length file) - s * L) rest ≡ take L rest =
    elim (dec_le L (length rest)) [
      | yes l ↦ (let n : min (s * L + L) (length file) - s * L ≡ L = omega (arith, length-drop (s * L) file) in rw n)
      | no l ↦
          take_all _ rest (omega (arith, length-drop (s * L) file)) ∙ sym (take_all L rest (omega arith))
    ] in
    rw e (sym (front-zeros p (take L rest) (L - length (take L rest)) (omega (arith, length-take L rest))))

-- what is behind stays
pub front-padded : (n : ℕ) (p q : List ℕ) → length p ≡ length q → xor_front (padded n p) q ≡ padded n (xor_lists p q)
unfolding xor_front padded
front-padded n p q e =
    let z = replicate {A = ℕ} (n - length p) 0 in
    rw (take_at p z (length q) e, drop_at p z (length q) e, xor_lists-length p q e)
