-- Laws of moves: of nothing and of one byte, one move after another, the same move told by other indices, and all bytes of a file.
-- Assumes nothing.
use mathlib.Core.Path.{◌≡◌, refl, sym, subst, ◌∙◌}
use mathlib.Core.Bool.{Bool}
use mathlib.Core.List.{List}
use mathlib.Core.Logic.{◌⊎◌, inl, inr}
use Prim.Native.Nat.{ℕ, ◌≤◌, ◌<◌}
use native.Mathlib.Omega.{arith}
use lib.ListN.{length, get_or, set, length-set}
use lib.Seq.{get_or-set_same, get_or-set_other, ext_get_or}
use Rattle.interleave.specs.Interleaving.{reordered}
use Rattle.interleave.specs.Moves.{Moved, FileMoved}
use Rattle.interleave.proofs.Reordering.{to-injective, arrives, reordered-length, reordered-at}

-- ---- any move

-- R is P and Q together
pub record Together (P Q R : ℕ → Type 0) : Type 0 where
  pub split : (j : ℕ) → R j → P j ⊎ Q j
  pub first : (j : ℕ) → P j → R j
  pub second : (j : ℕ) → Q j → R j

module _ {to from : ℕ → ℕ} {source : List ℕ} where
  pub moved_none : {P : ℕ → Type 0} (before : List ℕ) → ((j : ℕ) → P j → ⊥) → Moved to from P source before before
  moved_none before none = record { moved = λ j p. absurd (none j p); kept = λ p other. refl; long = refl }

  pub moved-one : (before : List ℕ) (k : ℕ) → to k < length before
      → Moved to from (λ j. j ≡ k) source before (set before (to k) (get_or source (from k) 0))
  moved-one before k h = record {
    moved = λ j e. rw e (get_or-set_same before (to k) (get_or source (from k) 0) 0 h);
    kept = λ p other. get_or-set_other before (to k) p (get_or source (from k) 0) 0 (λ e. other k refl (sym e));
    long = length-set before (to k) (get_or source (from k) 0);
  }

  -- no byte of the second move goes where one of the first went
  pub moved_then : {P Q R : ℕ → Type 0} {before mid after : List ℕ} → Together P Q R → ((j k : ℕ) → P j → Q k → to j ≡ to k → ⊥)
      → Moved to from P source before mid → Moved to from Q source mid after → Moved to from R source before after
  moved_then both apart m n = record {
    moved = λ j r.
        elim (both.split j r) [
          | inl p ↦ n.kept (to j) (λ k q e. apart j k p q (sym e)) ∙ m.moved j p
          | inr q ↦ n.moved j q
        ];
    kept = λ p other. n.kept p (λ j q. other j (both.second j q)) ∙ m.kept p (λ j q. other j (both.first j q));
    long = n.long ∙ m.long;
  }

-- an index of the set has its byte go to t and come from f
pub record Carries (to from : ℕ → ℕ) (P : ℕ → Type 0) (t f : ℕ) : Type 0 where
  pub index : ℕ
  pub holds : P index
  pub goes : to index ≡ t
  pub comes : from index ≡ f

-- the same bytes, told by other indices
pub moved_as : {to from to' from' : ℕ → ℕ} {P P' : ℕ → Type 0} {source before after : List ℕ}
    → ((j : ℕ) → P' j → Carries to from P (to' j) (from' j)) → ((x : ℕ) → P x → Carries to' from' P' (to x) (from x))
    → Moved to from P source before after → Moved to' from' P' source before after
moved_as there here m = record {
  moved = λ j p. let x = there j p in rw (← x.goes, ← x.comes) (m.moved x.index x.holds);
  kept = λ p other. m.kept p (λ x q e. other (here x q).index (here x q).holds ((here x q).goes ∙ e));
  long = m.long;
}

-- ---- the bytes of a file

module _ (back : Bool) (W F : ℕ) (least : 1 ≤ W) {source : List ℕ} where
  -- one part of the file after another
  pub file-then : {P Q R : ℕ → Type 0} {before mid after : List ℕ} → Together P Q R → ((j : ℕ) → R j → j < F) → ((j : ℕ) → P j → Q j → ⊥)
      → FileMoved back W F P source before mid → FileMoved back W F Q source mid after → FileMoved back W F R source before after
  file-then {P} both inside apart =
      moved_then both (λ j k p q e.
      let same = to-injective W least back F j k (inside j (both.first j p)) (inside k (both.second k q)) e in
      apart k (subst P same p) q)

  -- all of it, between two lists of its length
  pub file-all : {before after : List ℕ} → length source ≡ F → length before ≡ F → FileMoved back W F (λ j. j < F) source before after
      → after ≡ reordered back W source
  file-all {after = after} size room m =
      let long = m.long in
      let r = reordered-length W least back source in
      ext_get_or 0 after (reordered back W source) (omega arith) (λ p h.
      let at = arrives W least back F p (omega arith) in
      rw (← at.there) (m.moved at.byte at.within ∙ sym (reordered-at W least back source F at.byte size at.within)))
