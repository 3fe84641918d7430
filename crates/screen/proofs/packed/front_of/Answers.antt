-- `front_of`: a byte more takes number and mask eight bits further, and fewer than eight bytes leave room. Assumes nothing.
use mathlib.Core.Path.{◌≡◌, refl, sym, ◌∙◌}
use mathlib.Core.List.{List}
use Prim.Native.Nat.{ℕ, suc, ◌+◌, ◌*◌, ◌^◌, ◌<◌, ◌≤◌}
use native.Mathlib.Nat.{lt_of_lt_of_le}
use native.Mathlib.Omega.{arith}
use lib.Dec.{lit<}
use lib.ListN.{length, get_or, drop_of_length-le}
use lib.Pow.{pow-add, pow_mono}
use Rattle.screen.specs.Loops.{number_after, low_bits}
use Rattle.screen.proofs.PackedBases.{next-byte}
use Rattle.screen.proofs.packed.front_of.Invariants.{Stands}
use Rattle.screen.proofs.packed.front_of.Goals as goal

-- a byte more takes eight bits more, and fewer than seven bytes leave room for it
wider : (e e' n b : ℕ) → n < 2 ^ e → b < 256 → e' ≡ e + 8 → n * 256 + b < 2 ^ e'
wider e e' n b h l f = rw (f, pow-add 2 e 8) (omega arith)

narrow : (most e n : ℕ) → n < 2 ^ e → e ≤ most → n < 2 ^ most
narrow most e n h l = lt_of_lt_of_le h (pow_mono {j = most} l)

four-more : (j : ℕ) → low_bits (4 * (j + 1)) ≡ low_bits (4 * j) * 256 + 85
unfolding low_bits
four-more j =
    let e : 4 * (j + 1) ≡ suc (suc (suc (suc (4 * j)))) = omega arith in
    rw e (omega arith)

module _ (word : List ℕ) (before number mask j : ℕ) (now : Stands word before number mask j) where
  turned : j < length word → get_or word j 0 < 256 → Stands word before (number * 256 + get_or word j 0) (mask * 256 + 85) (j + 1)
  turned h b = record {
    fits = wider (8 * j + 2) _ number _ now.fits b (omega arith);
    leads = sym (next-byte word number j (j + 1) h refl) ∙ now.leads;
    masks = rw now.masks (sym (four-more j));
    mask_fits = wider (8 * j) _ mask 85 now.mask_fits (lit< tt) (omega arith);
  }

  finished : j ≡ length word → (number ≡ number_after before word) × (mask ≡ low_bits (4 * length word))
  unfolding number_after
  finished e = let h : length word ≤ j = omega arith in (rw (drop_of_length-le word h) at now.leads, rw e at now.masks)

  roomy : j < 8 → (number < 2 ^ 62) × (mask < 2 ^ 62)
  roomy h = (narrow 62 _ number now.fits (omega arith), narrow 62 _ mask now.mask_fits (omega arith))

pub loop-b-init : goal.loop-b-init
unfolding low_bits
loop-b-init c = record { fits = omega (arith, c.requires.1); leads = refl; masks = refl; mask_fits = lit< tt }

pub overflow_mul-number : goal.overflow_mul-number
overflow_mul-number c =
    let l = c.loop-b in
    omega (arith, narrow 55 _ l.number l.invariant.fits (omega arith))

pub overflow_add-number : goal.overflow_add-number
overflow_add-number c =
    let l = c.loop-b in
    omega (arith, narrow 55 _ l.number l.invariant.fits (omega arith), c.type_inv.word l.b-index)

pub overflow_mul-mask : goal.overflow_mul-mask
overflow_mul-mask c =
    let l = c.loop-b in
    omega (arith, narrow 55 _ l.mask l.invariant.mask_fits (omega arith))

pub overflow_add-mask : goal.overflow_add-mask
overflow_add-mask c =
    let l = c.loop-b in
    omega (arith, narrow 55 _ l.mask l.invariant.mask_fits (omega arith))

pub loop-b-preserved : goal.loop-b-preserved
loop-b-preserved c =
    let l = c.loop-b in
    rw c.from.ensures (turned _ _ l.number l.mask l.b-index l.invariant (omega arith) (omega (arith, c.type_inv.word l.b-index)))

pub returns : goal.returns
returns c =
    let l = c.loop-b in
    record {
      number_value = finished _ _ l.number l.mask l.b-index l.invariant (omega arith);
      number_bound = roomy _ _ l.number l.mask l.b-index l.invariant (omega arith);
    }
