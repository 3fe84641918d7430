-- Seeds in a list: in one of two lists, in the front of one, and none twice. Assumes nothing.
use mathlib.Core.Path.{◌≡◌, refl, sym, ap, ◌∙◌}
use mathlib.Core.Bool.{Bool, true, false, ◌||◌, true≢false, false≢true}
use mathlib.Core.List.{List, [], ◌∷◌, ◌++◌}
use mathlib.Core.Logic.{inl, inr}
use Prim.Native.Nat.{ℕ, zero, suc, ◌<◌}
use native.Mathlib.Omega.{arith}
use borrow.Author.Tests.{eq-eqb, eqb-true, eqb-false, ne_eqb}
use lib.Dec.{eqb}
use lib.ListN.{length, take}
use Rattle.field.proofs.Tests.{either}
use Rattle.droplet.specs.Droplet.{member, Distinct}
use Rattle.droplet.proofs.Sets.{member-append}
use Rattle.decoder.specs.Store.{LegalRead}
use Rattle.decoder.specs.Demand3.{seeds_of}

pub seeds-join : (rs rs' : List LegalRead) → seeds_of (rs ++ rs') ≡ seeds_of rs ++ seeds_of rs'
seeds-join [] rs' = refl
seeds-join (r ∷ rs) rs' = ap (λ (l : List ℕ). r.seed ∷ l) (seeds-join rs rs')

neither : (a b : Bool) → (a || b) ≡ false → (a ≡ false) × (b ≡ false)
neither true b e = absurd (true≢false e)
neither false b e = (refl, e)

-- a seed that is in none of them is another
pub not_same : (s t : ℕ) (ts : List ℕ) → member s ts ≡ true → member t ts ≡ false → eqb s t ≡ false
not_same s t ts h f =
    elim (either (eqb s t)) [
      | inl e ↦ absurd (true≢false (sym h ∙ ap (λ (x : ℕ). member x ts) (eqb-true s t e) ∙ f))
      | inr e ↦ e
    ]

pub turned : (s t : ℕ) → eqb s t ≡ false → eqb t s ≡ false
turned s t e = ne_eqb t s (λ q. eqb-false s t e (sym q))

module _ (s : ℕ) where
  pub in-neither : (ts us : List ℕ) → member s (ts ++ us) ≡ false → (member s ts ≡ false) × (member s us ≡ false)
  in-neither ts us h = neither (member s ts) (member s us) (sym (member-append s ts us) ∙ h)

  pub not_first : (t : ℕ) (ts : List ℕ) → member s (t ∷ ts) ≡ false → (eqb t s ≡ false) × (member s ts ≡ false)
  unfolding member
  not_first t ts h = elim (either (eqb t s)) [ inl e ↦ absurd (true≢false (rw e at h)) | inr e ↦ (e, rw e at h) ]

  pub there : (ts us : List ℕ) → member s (ts ++ (s ∷ us)) ≡ true
  unfolding member
  there [] us = rw (eq-eqb s s refl)
  there (t ∷ ts) us = elim (either (eqb t s)) [ inl e ↦ rw e | inr e ↦ rw e (there ts us) ]

  pub front-has : (n : ℕ) (ts : List ℕ) → member s (take n ts) ≡ true → member s ts ≡ true
  unfolding member
  front-has zero ts h = absurd (false≢true h)
  front-has (suc n) [] h = h
  front-has (suc n) (t ∷ ts) h = elim (either (eqb t s)) [ inl e ↦ rw e | inr e ↦ rw e (front-has n ts (rw e at h)) ]

  -- a seed that the first n lack and some later one is: there are more than n
  pub later-has : (n : ℕ) (ts : List ℕ) → member s ts ≡ true → member s (take n ts) ≡ false → n < length ts
  unfolding member
  later-has n [] h f = absurd (false≢true h)
  later-has zero (t ∷ ts) h f = omega arith
  later-has (suc n) (t ∷ ts) h f =
      elim (either (eqb t s)) [
        | inl e ↦ absurd (true≢false (rw e at f))
        | inr e ↦ omega (arith, later-has n ts (rw e at h) (rw e at f))
      ]

  -- ---- none twice

  pub once_more : (ts : List ℕ) → Distinct ts → member s ts ≡ false → Distinct (ts ++ (s ∷ []))
  once_more [] h f = (unfold member in refl, tt)
  once_more (t ∷ ts) h f =
      let p = not_first t ts f in
      (append-not t ts h.0 (turned t s p.0), once_more ts h.1 p.1)
    where
      append-not : (t : ℕ) (ts : List ℕ) → member t ts ≡ false → eqb s t ≡ false → member t (ts ++ (s ∷ [])) ≡ false
      append-not t ts h e = member-append t ts (s ∷ []) ∙ (unfold member in rw (h, e))

  pub once_after : (ts us : List ℕ) → Distinct (ts ++ (s ∷ us)) → member s us ≡ false
  once_after [] us h = h.0
  once_after (t ∷ ts) us h = once_after ts us h.1
