-- What a code's `first && second` gives, whichever of its two ways was taken; what a true conjunction says of its parts;
-- what a first "no" that is none says of its question. Assumes nothing.
use mathlib.Core.Path.{◌≡◌, refl}
use mathlib.Core.Bool.{Bool, true, false, cond, ◌&&◌}
use Prim.Native.Nat.{ℕ, suc}
use native.Mathlib.Omega.{arith}

pub and_then : {a b first flag : Bool} → first ≡ a → first ≡ true → flag ≡ b → flag ≡ (a && b)
and_then {a = true} e t h = h
and_then {a = false} e t h = cc

pub and-else : (b : Bool) {a first flag : Bool} → first ≡ a → first ≡ false → flag ≡ first → flag ≡ (a && b)
and-else b {a = true} e t h = cc
and-else b {a = false} e t h = cc

-- the same where the second of the two was asked first
pub and_before : {a b first flag : Bool} → first ≡ b → first ≡ true → flag ≡ a → flag ≡ (a && b)
and_before {a = true} {b = true} e t h = h
and_before {a = true} {b = false} e t h = cc
and_before {a = false} e t h = h

pub and-before_no : (a : Bool) {b first flag : Bool} → first ≡ b → first ≡ false → flag ≡ first → flag ≡ (a && b)
and-before_no true e t h = cc
and-before_no false e t h = cc

pub and-true : (a b : Bool) → (a && b) ≡ true → (a ≡ true) × (b ≡ true)
and-true true b e = (refl, e)
and-true false b e = (e, cc)

pub said-yes : (b : Bool) (n others : ℕ) → cond b others (suc n) ≡ 0 → (b ≡ true) × (others ≡ 0)
said-yes true n others e = (refl, e)
said-yes false n others e = absurd (let z : ⊥ = omega arith in z)
