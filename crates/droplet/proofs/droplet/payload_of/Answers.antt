-- `payload_of` meets its contract: a turn XORs one more segment in. Assumes nothing.
use mathlib.Core.Path.{◌≡◌, sym, ap, ◌∙◌}
use mathlib.Core.List.{List}
use Prim.Native.Nat.{ℕ, ◌+◌, ◌-◌, ◌<◌, ◌≤◌}
use native.Mathlib.Numerals.{add-one}
use native.Mathlib.Omega.{arith}
use lib.ListN.{length, get_or, take, replicate, length-replicate, replicate-append-replicate}
use lib.Seq.{take_all, take-suc}
use Rattle.field.specs.Bytes.{padded}
use Rattle.droplet.specs.Droplet.{segment, payload}
use Rattle.droplet.specs.Loops.{xor_front}
use Rattle.droplet.proofs.XorFront.{front-padded}
use Rattle.droplet.proofs.Payload.{segment-length, payload-last, payload-length}
use Rattle.droplet.proofs.droplet.payload_of.Goals as goal

padded-zeros : (n L : ℕ) → L ≤ n → padded n (replicate L 0) ≡ replicate n 0
unfolding padded
padded-zeros n L h =
    let e : L + (n - L) ≡ n = omega arith in
    rw (length-replicate, replicate-append-replicate, e)

-- a turn
turned : (L : ℕ) (file list p : List ℕ) (i n : ℕ) → i < length list → p ≡ padded n (payload L file (take i list))
    → xor_front p (segment L file (get_or list i 0)) ≡ padded n (payload L file (take (i + 1) list))
turned L file list p i n h e =
    let s = get_or list i 0 in
    let q = payload L file (take i list) in
    rw (
      e,
      front-padded n q (segment L file s) (payload-length L file (take i list) ∙ sym (segment-length L file s)),
      ← payload-last L file (take i list) s,
      add-one i,
      take-suc list i 0 h,
    )

pub loop-s-init : goal.loop-s-init
unfolding payload
loop-s-init c = sym (padded-zeros 64 _ c.requires)

pub loop-s-preserved : goal.loop-s-preserved
loop-s-preserved c = c.xor_segment.ensures ∙ turned _ _ _ _ _ _ c.loop-s-test.true c.loop-s.invariant

pub returns : goal.returns
returns c =
    let a = c.args in
    c.loop-s.invariant
    ∙ ap (λ (xs : List ℕ). padded 64 (payload a.l a.file.now xs)) (take_all _ a.list.now c.loop-s-test.false)
