-- Bytes stay bytes: where the droplets' payloads are bytes, so is each restored segment. Assumes nothing.
use mathlib.Core.List.{List}
use Prim.Native.Nat.{ℕ, zero, suc, ◌*◌, ◌<◌}
use native.Mathlib.Nat.{suc-mul, zero-mul, le_refl}
use native.Mathlib.Omega.{arith}
use lib.ListN.{length, take, drop}
use lib.Seq.{take-add}
use Rattle.field.specs.Bytes.{All, IsByte, AllBytes, padded}
use Rattle.field.proofs.ByteLists.{all_append, all_take, zeros-bytes, xor_lists-bytes, take-padded}
use Rattle.droplet.specs.Droplet.{segment, payload}
use Rattle.decoder.specs.Restorer.{Droplet, known}
use Rattle.decoder.proofs.MissingSegments.{known-all}
use Rattle.decoder.proofs.PoolShapes.{Peelable, state_after}
use Rattle.decoder.proofs.Segmentwise.{peel_all-each}
use Rattle.decoder.proofs.PayloadParts.{payload-all-bytes}

pub segments-bytes : (K L : ℕ) (ds : List Droplet) (file marks : List ℕ) → Peelable K L ds file marks → All (λ d. AllBytes d.payload) ds
    → (i : ℕ) → i < K → AllBytes (segment L (state_after K L ds file marks).file i)
segments-bytes K L ds file marks ok bytes =
    peel_all-each K L (λ i m part. AllBytes part) (λ d. AllBytes d.payload)
    (λ d st i fill p h. xor_lists-bytes d.payload (payload L st.file (known st.marks d.segments)) p
    (payload-all-bytes L st.file (known st.marks d.segments)
    (known-all st.marks (λ s. s < K) (λ s. AllBytes (segment L st.file s)) (λ s b e. h s b) d.segments fill.droplet.below)))
    ds file marks ok bytes (λ i b. zeros-bytes L)

-- the K segments joined
pub joined_bytes : (K L : ℕ) (file : List ℕ) → ((i : ℕ) → i < K → AllBytes (segment L file i)) → AllBytes (take (K * L) file)
unfolding segment
joined_bytes zero L file h = rw zero-mul tt
joined_bytes (suc K) L file h =
    let last = take L (drop (K * L) file) in
    rw (suc-mul, take-add (K * L) L file)
    (all_append IsByte (take (K * L) file) last (joined_bytes K L file (λ i b. h i (omega arith)))
    (rw (take-padded L last) at (all_take IsByte (length last) (padded L last) (h K (le_refl (suc K))))))
