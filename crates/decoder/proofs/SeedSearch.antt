-- The search for a seed among records: where the first record of a seed stands, the seeds around it, and what it means that there is none.
-- Assumes nothing.
use mathlib.Core.Path.{◌≡◌, refl, sym, ap, ◌∙◌, subst}
use mathlib.Core.Bool.{true, false}
use mathlib.Core.List.{List, [], ◌∷◌, ◌++◌, map-append}
use mathlib.Core.Logic.{inl, inr}
use Prim.Native.Nat.{ℕ, suc}
use native.Mathlib.Omega.{arith}
use borrow.Author.Tests.{eqb-true}
use lib.Dec.{eqb}
use lib.ListN.{length}
use Rattle.field.proofs.Tests.{either}
use Rattle.droplet.specs.Droplet.{member, Distinct}
use Rattle.decoder.specs.Store.{LegalRead, Record, Found, found, absent, later, find_seed}
use Rattle.decoder.specs.Demand3.{seeds_of, reads_in}
use Rattle.decoder.proofs.SeedLists.{seeds-join, there, once_after}

-- where the first record of a seed stands
pub record Spot (s : ℕ) (rs : List Record) (i : ℕ) (q : Record) : Type 0 where
  pub before : List Record
  pub after : List Record
  pub parts : rs ≡ before ++ (q ∷ after)
  pub place : length before ≡ i
  pub seed : q.read.seed ≡ s
  pub first : member s (seeds_of (reads_in before)) ≡ false

-- the same of the reads that the records hold
pub record ReadSpot (s : ℕ) (rs : List LegalRead) (q : LegalRead) : Type 0 where
  pub before : List LegalRead
  pub after : List LegalRead
  pub parts : rs ≡ before ++ (q ∷ after)
  pub seed : q.seed ≡ s
  pub first : member s (seeds_of before) ≡ false

pub reads-join : (rs rs' : List Record) → reads_in (rs ++ rs') ≡ reads_in rs ++ reads_in rs'
reads-join rs rs' = map-append (λ (r : Record). r.read) rs rs'

abbrev pub held-spot : (s : ℕ) (rs : List Record) (i : ℕ) (q : Record) → Spot s rs i q → ReadSpot s (reads_in rs) q.read
held-spot s rs i q spot =
    record {
      before = reads_in spot.before;
      after = reads_in spot.after;
      parts = ap reads_in spot.parts ∙ reads-join spot.before (q ∷ spot.after);
      seed = spot.seed;
      first = spot.first;
    }

-- the seeds there: any read of the seed in that place leaves them as they are; the seed is among them; and where none stands twice it is not
-- among those behind that place
module _ (s : ℕ) (rs : List LegalRead) (q : LegalRead) (spot : ReadSpot s rs q) where
  abbrev around : List ℕ
  around = seeds_of spot.before ++ (s ∷ seeds_of spot.after)

  seeds-with : (x : LegalRead) → x.seed ≡ s → seeds_of (spot.before ++ (x ∷ spot.after)) ≡ around
  seeds-with x e = seeds-join spot.before (x ∷ spot.after) ∙ ap (λ (t : ℕ). seeds_of spot.before ++ (t ∷ seeds_of spot.after)) e

  seeds-here : seeds_of rs ≡ around
  seeds-here = ap seeds_of spot.parts ∙ seeds-with q spot.seed

  pub spot-same : (x : LegalRead) → x.seed ≡ s → seeds_of (spot.before ++ (x ∷ spot.after)) ≡ seeds_of rs
  spot-same x e = seeds-with x e ∙ sym seeds-here

  pub spot-here : member s (seeds_of rs) ≡ true
  spot-here = ap (member s) seeds-here ∙ there s (seeds_of spot.before) (seeds_of spot.after)

  pub spot-last : Distinct (seeds_of rs) → member s (seeds_of spot.after) ≡ false
  spot-last once = once_after s (seeds_of spot.before) (seeds_of spot.after) (subst Distinct seeds-here once)

module _ (s : ℕ) where
  -- behind a record of another seed
  spot-later : (x : Record) (rs : List Record) → eqb x.read.seed s ≡ false → ((i : ℕ) (q : Record) → find_seed s rs ≡ found i q → Spot s rs i q)
      → (o : Found) → find_seed s rs ≡ o → (i : ℕ) (q : Record) → later o ≡ found i q → Spot s (x ∷ rs) i q
  unfolding member
  spot-later x rs t back absent f i q e = absurd (let z : ◌≡◌ {A = ℕ} 0 1 = cc in let y : ⊥ = omega arith in y)
  spot-later x rs t back (found j y) f i q e =
      let n : suc j ≡ i = cc in
      let same : y ≡ q = cc in
      let spot = back j y f in
      record {
        before = x ∷ spot.before;
        after = spot.after;
        parts = ap (λ (l : List Record). x ∷ l) (spot.parts ∙ ap (λ (z : Record). spot.before ++ (z ∷ spot.after)) same);
        place = ap suc spot.place ∙ n;
        seed = ap (λ (z : Record). z.read.seed) (sym same) ∙ spot.seed;
        first = rw t spot.first;
      }

  pub found-spot : (rs : List Record) (i : ℕ) (q : Record) → find_seed s rs ≡ found i q → Spot s rs i q
  unfolding find_seed member
  found-spot [] i q e = absurd (let z : ◌≡◌ {A = ℕ} 0 1 = cc in let y : ⊥ = omega arith in y)
  found-spot (x ∷ rs) i q e =
      elim (either (eqb x.read.seed s)) [
        | inl t ↦
            let f : found 0 x ≡ found i q = rw t at e in
            let same : x ≡ q = cc in
            record {
              before = [];
              after = rs;
              parts = ap (λ (z : Record). z ∷ rs) same;
              place = cc;
              seed = ap (λ (z : Record). z.read.seed) (sym same) ∙ eqb-true x.read.seed s t;
              first = refl;
            }
        | inr t ↦ spot-later x rs t (found-spot rs) (find_seed s rs) refl i q (rw t at e)
      ]

  absent-later : (o : Found) → later o ≡ absent → o ≡ absent
  absent-later absent e = refl
  absent-later (found i q) e = cc

  pub absent-has : (rs : List Record) → find_seed s rs ≡ absent → member s (seeds_of (reads_in rs)) ≡ false
  unfolding find_seed member
  absent-has [] e = refl
  absent-has (x ∷ rs) e =
      elim (either (eqb x.read.seed s)) [
        | inl t ↦ let f : found 0 x ≡ absent = rw t at e in cc
        | inr t ↦ rw t (absent-has rs (absent-later (find_seed s rs) (rw t at e)))
      ]
