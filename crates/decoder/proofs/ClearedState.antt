-- What a peeling starts from: no mark is set, each segment is 0, and the buffers are long enough. Assumes nothing.
use mathlib.Core.Path.{◌≡◌}
use mathlib.Core.Bool.{false}
use mathlib.Core.List.{List, ◌++◌, append_assoc}
use Prim.Native.Nat.{ℕ, ◌+◌, ◌-◌, ◌*◌, ◌<◌}
use native.Mathlib.Nat.{mul-le-mul_right}
use native.Mathlib.Omega.{arith}
use lib.ListN.{get_or, drop, replicate, length-append, length-replicate, length-drop, get_or-append, get_or-replicate, replicate-append-replicate}
use Rattle.droplet.specs.Droplet.{segment}
use Rattle.decoder.specs.Restorer.{Droplet, marked, present, cleared}
use Rattle.decoder.proofs.MarkCounts.{present-none}
use Rattle.decoder.proofs.PlacedSegment.{segment-behind}
use Rattle.decoder.proofs.PoolShapes.{Sized, Peelable}

module _ (K L : ℕ) (file marks : List ℕ) where
  pub cleared-mark : (i : ℕ) → i < K → get_or (cleared K L file marks).marks i 0 ≡ 0
  unfolding cleared
  cleared-mark i h =
      rw (get_or-append (replicate K 0) (drop K marks) 0 i (rw length-replicate h), get_or-replicate {A = ℕ} K i 0 0 h)

  pub cleared-marked : (i : ℕ) → i < K → marked (cleared K L file marks).marks i ≡ false
  unfolding marked
  cleared-marked i h = rw (cleared-mark i h)

  pub cleared-present : present K (cleared K L file marks).marks ≡ 0
  cleared-present = present-none K (cleared K L file marks).marks cleared-marked

  pub cleared-segment : (i : ℕ) → i < K → segment L (cleared K L file marks).file i ≡ replicate L 0
  unfolding cleared
  cleared-segment i h =
      let rest = K * L - (i * L + L) in
      let e : i * L + (L + rest) ≡ K * L = omega (arith, mul-le-mul_right L h) in
      rw (← e, ← replicate-append-replicate {A = ℕ} (i * L) (L + rest) 0, ← replicate-append-replicate {A = ℕ} L rest 0, append_assoc, append_assoc)
      (segment-behind L i (replicate (i * L) 0) (replicate L 0) (replicate rest 0 ++ drop (i * L + (L + rest)) file)
      (length-replicate (i * L) 0) (length-replicate L 0))

pub cleared-sized : (K L : ℕ) (ds : List Droplet) (file marks : List ℕ) → Peelable K L ds file marks → Sized K L (cleared K L file marks)
unfolding cleared
cleared-sized K L ds file marks ok = record {
  marks = simp (length-append, length-replicate, length-drop) (omega arith);
  file = simp (length-append, length-replicate, length-drop) (omega arith);
}
