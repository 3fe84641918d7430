-- Parts of a buffer as slices lend them. Assumes nothing.
use mathlib.Core.Path.{◌≡◌, sym}
use mathlib.Core.List.{List, ◌++◌}
use Prim.Native.Nat.{ℕ, ◌+◌, ◌-◌, ◌≤◌}
use native.Mathlib.Nat.{le_refl}
use native.Mathlib.Omega.{arith}
use lib.ListN.{length, take, drop, length-drop, take-append-drop}
use lib.Seq.{take_all, take-add, take-take, length-take-le, drop_at}
use Rattle.field.proofs.LentParts.{put_back}
use Rattle.decoder.specs.Store.{overwritten}

-- the rest from a place on
pub rest-whole : (l : List ℕ) (a : ℕ) → take (length l - a) (drop a l) ≡ drop a l
rest-whole l a = take_all (length l - a) (drop a l) (rw length-drop (le_refl (length l - a)))

-- a part that lies inside the first m bytes is the same part of these alone
pub part-inside : (a b m : ℕ) (l : List ℕ) → a + b ≤ m → m ≤ length l → take b (drop a (take m l)) ≡ take b (drop a l)
part-inside a b m l h long =
    let e : m ≡ a + (m - a) = omega arith in
    rw (e, take-add a (m - a) l, drop_at (take a l) (take (m - a) (drop a l)) a (length-take-le a l (omega arith)))
    (take-take b (m - a) (drop a l) (omega arith))

-- the part from a place on was lent, and something was written at its start
pub part-written : (store part new : List ℕ) (from : ℕ) → from ≤ length store
    → part ≡ new ++ drop (length new) (take (length store - from) (drop from store))
    → take from store ++ (part ++ drop (length store - from) (drop from store)) ≡ overwritten from new store
unfolding overwritten
part-written store part new from h e =
    put_back (take from store) new store store part from (length-take-le from store h) (sym (take-append-drop from store)) e
