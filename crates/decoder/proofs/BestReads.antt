-- The first clean read of a seed, or its first corrected one: with one read more, and where it comes from. Assumes nothing.
use mathlib.Core.Path.{◌≡◌, refl, sym, ap, ◌∙◌, subst}
use mathlib.Core.Bool.{Bool, true, false, cond, not, ◌&&◌, true≢false}
use mathlib.Core.List.{List, [], ◌∷◌, ◌++◌, append-nil}
use mathlib.Core.Logic.{inl, inr}
use Prim.Native.Nat.{ℕ}
use native.Mathlib.Omega.{arith}
use borrow.Author.Tests.{not-true}
use lib.Dec.{eqb}
use lib.ListN.{take}
use Rattle.field.specs.Bytes.{All}
use Rattle.field.proofs.Tests.{either}
use Rattle.field.proofs.ByteLists.{all_append}
use Rattle.decoder.specs.Store.{LegalRead, takes_over, better}
use Rattle.decoder.specs.Demand3.{seeds_of, those, clean_of, corrected_of, best_of, best_of_each}
use Rattle.decoder.specs.Among.{Among}
use Rattle.decoder.proofs.AllOf.{all_map, all-front}

-- what the record of a seed holds, which held q, when a read r of it is taken
abbrev pub merged : LegalRead → LegalRead → LegalRead
merged r q = cond (better r q) r q

pub merged-seed : (r q : LegalRead) (b : Bool) → q.seed ≡ r.seed → (cond b r q).seed ≡ r.seed
merged-seed r q true e = refl
merged-seed r q false e = e

-- the best of some reads of its seed
abbrev pub BestIn : List LegalRead → LegalRead → Type 0
BestIn os r = best_of r.seed os ≡ r ∷ []

-- ---- reads that pass a test

module _ (test : LegalRead → Bool) where
  pub those-snoc : (os : List LegalRead) (r : LegalRead) → those test (os ++ (r ∷ [])) ≡ those test os ++ cond (test r) (r ∷ []) []
  unfolding those
  those-snoc [] r = refl
  those-snoc (x ∷ os) r =
      elim (either (test x)) [ inl e ↦ rw e (ap (λ (l : List LegalRead). x ∷ l) (those-snoc os r)) | inr e ↦ rw e (those-snoc os r) ]

  those-pass : (os : List LegalRead) → All (λ r. test r ≡ true) (those test os)
  unfolding those
  those-pass [] = tt
  those-pass (x ∷ os) = elim (either (test x)) [ inl e ↦ rw e (e, those-pass os) | inr e ↦ rw e (those-pass os) ]

  those-all : (P : LegalRead → Type 0) (os : List LegalRead) → All P os → All P (those test os)
  unfolding those
  those-all P [] h = tt
  those-all P (x ∷ os) h = elim (either (test x)) [ inl e ↦ rw e (h.0, those-all P os h.1) | inr e ↦ rw e (those-all P os h.1) ]

  -- one that passes is not passed over
  those-some : (os : List LegalRead) (x : LegalRead) → Among x os → test x ≡ true → those test os ≡ [] → ⊥
  unfolding those
  those-some [] x a p e = absurd a
  those-some (y ∷ os) x (inl q) p e =
      let t : test y ≡ true = ap test (sym q) ∙ p in
      let f : y ∷ those test os ≡ [] = rw t at e in
      let z : ◌≡◌ {A = ℕ} 0 1 = cc in
      omega arith
  those-some (y ∷ os) x (inr a) p e =
      elim (either (test y)) [
        | inl t ↦ let f : y ∷ those test os ≡ [] = rw t at e in let z : ◌≡◌ {A = ℕ} 0 1 = cc in omega arith
        | inr t ↦ those-some os x a p (rw t at e)
      ]

-- ---- clean ones before corrected ones

both_right : (a b : Bool) → (a && b) ≡ true → b ≡ true
both_right true b e = e
both_right false b e = absurd (true≢false (sym e))

fresh : (C M : List LegalRead) (r : LegalRead) (m : Bool) → take 1 (C ++ M) ≡ []
    → take 1 ((C ++ cond m (r ∷ []) []) ++ (M ++ cond (not m) (r ∷ []) [])) ≡ r ∷ []
fresh (x ∷ C) M r m h = let f : x ∷ [] ≡ [] = h in cc
fresh [] (x ∷ M) r m h = let f : x ∷ [] ≡ [] = h in cc
fresh [] [] r true h = refl
fresh [] [] r false h = refl

again : (C M : List LegalRead) (r q : LegalRead) (m w : Bool) → All (λ x. x.clean ≡ true) C → All (λ x. x.clean ≡ false) M
    → take 1 (C ++ M) ≡ q ∷ [] → q.clean ≡ w
    → take 1 ((C ++ cond m (r ∷ []) []) ++ (M ++ cond (not m) (r ∷ []) [])) ≡ cond (takes_over m w) r q ∷ []
again [] [] r q m w c d h e = let f : [] ≡ q ∷ [] = h in cc
again [] (x ∷ M) r q false w c d h e = h
again [] (x ∷ M) r q true w c d h e =
    let same : x ≡ q = cc in
    let t : w ≡ false = sym e ∙ ap (λ (z : LegalRead). z.clean) (sym same) ∙ d.0 in
    rw t
again (x ∷ C) M r q m w c d h e =
    let same : x ≡ q = cc in
    let t : w ≡ true = sym e ∙ ap (λ (z : LegalRead). z.clean) (sym same) ∙ c.0 in
    rw t (stays m)
  where
    stays : (m : Bool) → x ∷ [] ≡ cond (takes_over m true) r q ∷ []
    stays true = h
    stays false = h

module _ (s : ℕ) (os : List LegalRead) where
  cleans : All (λ x. x.clean ≡ true) (those (clean_of s) os)
  cleans = all_map _ _ (λ x h. both_right (eqb x.seed s) x.clean h) (those (clean_of s) os) (those-pass (clean_of s) os)

  correcteds : All (λ x. x.clean ≡ false) (those (corrected_of s) os)
  correcteds =
      all_map _ _ (λ x h. not-true x.clean (both_right (eqb x.seed s) (not x.clean) h)) (those (corrected_of s) os) (those-pass (corrected_of s) os)

  -- ---- one read more

  module _ (r : LegalRead) where
    best-snoc : best_of s (os ++ (r ∷ []))
        ≡ take 1 ((those (clean_of s) os ++ cond (clean_of s r) (r ∷ []) []) ++ (those (corrected_of s) os ++ cond (corrected_of s r) (r ∷ []) []))
    unfolding best_of
    best-snoc = rw (those-snoc (clean_of s) os r, those-snoc (corrected_of s) os r)

    -- of another seed
    pub best-other : eqb r.seed s ≡ false → best_of s (os ++ (r ∷ [])) ≡ best_of s os
    unfolding best_of
    best-other e = best-snoc ∙ rw (e, append-nil (those (clean_of s) os), append-nil (those (corrected_of s) os))

    -- the first of the seed
    pub best-new : eqb r.seed s ≡ true → best_of s os ≡ [] → best_of s (os ++ (r ∷ [])) ≡ r ∷ []
    unfolding best_of
    best-new e h = best-snoc ∙ rw e (fresh (those (clean_of s) os) (those (corrected_of s) os) r r.clean h)

    -- another of the seed
    pub best-again : (q : LegalRead) → eqb r.seed s ≡ true → best_of s os ≡ q ∷ [] → best_of s (os ++ (r ∷ [])) ≡ merged r q ∷ []
    unfolding best_of
    best-again q e h =
        best-snoc ∙ rw e (again (those (clean_of s) os) (those (corrected_of s) os) r q r.clean q.clean cleans correcteds h refl)

  -- ---- where it comes from

  pub best-all : (P : LegalRead → Type 0) (r : LegalRead) → All P os → best_of s os ≡ r ∷ [] → P r
  unfolding best_of
  best-all P r h e =
      (subst (All P) e (all-front P 1 (those (clean_of s) os ++ those (corrected_of s) os)
      (all_append P (those (clean_of s) os) (those (corrected_of s) os) (those-all (clean_of s) P os h) (those-all (corrected_of s) P os h)))).0

  -- it is clean where one of the reads is
  pub best-clean : (r x : LegalRead) → Among x os → clean_of s x ≡ true → best_of s os ≡ r ∷ [] → r.clean ≡ true
  unfolding best_of
  best-clean r x a p e = go (those (clean_of s) os) cleans (those-some (clean_of s) os x a p) e
    where
      go : (C : List LegalRead) → All (λ x. x.clean ≡ true) C → (C ≡ [] → ⊥) → take 1 (C ++ those (corrected_of s) os) ≡ r ∷ [] → r.clean ≡ true
      go [] c n e = absurd (n refl)
      go (y ∷ C) c n e = let same : y ≡ r = cc in ap (λ (z : LegalRead). z.clean) (sym same) ∙ c.0

-- reads that are the best of some, each of its seed, are the best of each of their seeds
pub best-each : (os rs : List LegalRead) → All (BestIn os) rs → best_of_each (seeds_of rs) os ≡ rs
unfolding best_of_each
best-each os [] h = refl
best-each os (r ∷ rs) h = rw h.0 (ap (λ (l : List LegalRead). r ∷ l) (best-each os rs h.1))
