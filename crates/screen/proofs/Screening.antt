-- A word's measure, and the verdict on it; the count of C and G of its bases, byte by byte. Assumes nothing.
use mathlib.Core.Path.{◌≡◌, sym, ap, ◌∙◌}
use mathlib.Core.Bool.{Bool, true, false, cond}
use mathlib.Core.List.{List, [], ◌∷◌, ◌++◌}
use Prim.Native.Nat.{ℕ, ◌+◌, ◌≤◌, zero-le}
use native.Mathlib.Nat.{add_assoc, zero-add}
use native.Mathlib.Omega.{arith}
use lib.Dec.{eqb}
use lib.ListN.{length}
use Rattle.droplet.specs.declared.card.Card.{Card}
use Rattle.droplet.specs.declared.card.Bases.{Bases}
use Rattle.droplet.specs.PoolCard.{bases_of}
use Rattle.screen.specs.declared.screen.Measure.{Measure}
use Rattle.screen.specs.declared.limits.Verdict.{Verdict}
use Rattle.screen.specs.declared.limits.Verdict.TheVariants.{Passes}
use Rattle.screen.specs.Letters.{byte_bases, word_bases}
use Rattle.screen.specs.Screen.{longest_run, gc_count, byte_gc, measure_of, verdict, word_verdict, is, screen_passes}
use Rattle.screen.proofs.Spelling.{bases-length}

gc-one : (p q : Bool) → cond p 1 (cond q 1 0) ≤ 1
gc-one true q = omega arith
gc-one false true = omega arith
gc-one false false = omega arith

pub gc-most : (bases : List ℕ) → gc_count bases ≤ length bases
unfolding gc_count
gc-most [] = zero-le
gc-most (b ∷ bs) = omega (arith, gc-one (eqb b 1) (eqb b 2), gc-most bs)

gc-append : (a b : List ℕ) → gc_count (a ++ b) ≡ gc_count a + gc_count b
unfolding gc_count
gc-append [] b = sym (zero-add (gc_count b))
gc-append (x ∷ xs) b = rw (gc-append xs b) (sym (add_assoc _ (gc_count xs) (gc_count b)))

pub gc-cons : (b : ℕ) (bs : List ℕ) → gc_count (word_bases (b ∷ bs)) ≡ byte_gc b + gc_count (word_bases bs)
unfolding word_bases byte_gc
gc-cons b bs = gc-append (byte_bases b) (word_bases bs)

-- ---- what the callers of the screen compare

pub measure-is : {longest gc : ℕ} (word : List ℕ) → longest ≡ longest_run (word_bases word) → gc ≡ gc_count (word_bases word)
    → record { longest = longest; gc = gc } ≡ measure_of word
unfolding measure_of
measure-is word l g = rw (l, g)

module _ (word : List ℕ) {measure : Measure} {n : Bases} (measured : measure ≡ measure_of word) (bases : n ≡ bases_of (record { 0 = length word })) where
  in-bases : n.0 ≡ length (word_bases word)
  unfolding bases_of
  in-bases = rw bases (omega (arith, bases-length word))

  -- a strand's word is short enough for every product
  pub comparable : length word ≤ 72 → (measure.gc ≤ 288) × (n.0 ≤ 288)
  unfolding measure_of
  comparable short =
      (rw measured (omega (arith, gc-most (word_bases word), bases-length word)), omega (arith, in-bases, bases-length word))

  pub compared : (c : Card) {v : Verdict} → v ≡ verdict c measure n.0 → v ≡ word_verdict c word
  unfolding word_verdict
  compared c e = e ∙ rw (measured, in-bases)

-- ---- what a verdict says of the screen

module _ (c : Card) (word : List ℕ) {v : Verdict} (says : v ≡ word_verdict c word) where
  pub passes : v ≡ Passes → screen_passes c word ≡ true
  unfolding screen_passes
  passes e = ap (is Passes) (sym says ∙ e)

  pub fails : is Passes v ≡ false → screen_passes c word ≡ false
  unfolding screen_passes
  fails e = ap (is Passes) (sym says) ∙ e
