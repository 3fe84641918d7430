-- `fill` meets its contract: what is written is the segment's part of the definition. Assumes nothing.
use mathlib.Core.Path.{◌≡◌, refl, ap, ◌∙◌}
use mathlib.Core.List.{List, ◌++◌}
use Prim.Native.Nat.{ℕ, ◌+◌, ◌-◌, ◌*◌, ◌≤◌}
use native.Mathlib.Omega.{arith}
use lib.ListN.{length, take, drop, set}
use lib.Seq.{drop-drop}
use Rattle.field.specs.Bytes.{padded}
use Rattle.field.proofs.ByteLists.{take-padded}
use Rattle.decoder.specs.Restorer.{filled}
use Rattle.decoder.proofs.MarkedXor.{xored-length}
use Rattle.decoder.proofs.restorer.fill.Goals as goal

-- a list whose L elements from a on became the front of 64 bytes
part-written : (file p part q : List ℕ) (a L : ℕ) → length q ≡ L → a + L ≤ length file → p ≡ padded 64 q
    → part ≡ take L p
    → take a file ++ (part ++ drop (a + L - a) (drop a file)) ≡ take a file ++ (q ++ drop (a + L) file)
part-written file p part q a L size fits e w =
    let n : a + L - a ≡ L = omega arith in
    let front : take L p ≡ q = rw (e, ← size) (take-padded 64 q) in
    let written : part ≡ q = w ∙ front in
    rw (written, n, drop-drop L a file)

pub returns : goal.returns
unfolding filled
returns c =
    let x = c.args in
    let L = length x.stored.now in
    ap (λ (f : List ℕ). record { file = f; marks = set x.marks.now x.s 1 })
    (part-written x.file.now _ _ _ (x.s * L) L (xored-length L x.file.now x.marks.now x.stored.now refl x.list.now) c.requires.2
    c.xor_marked-p.ensures c.copy_from_slice.ensures.after)
