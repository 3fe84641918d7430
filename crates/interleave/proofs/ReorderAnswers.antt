-- The answers of interleaving a file and of its inverse, with the target that goes with each. Assumes nothing.
use mathlib.Core.Path.{◌≡◌, sym, ◌∙◌}
use mathlib.Core.Bool.{Bool, ◌&&◌}
use mathlib.Core.List.{List, ◌++◌}
use mathlib.Core.Logic.{◌⊎◌, inl, inr}
use Rattle.std.proofs.Common.{Result, Ok, Err}
use Prim.Native.Nat.{ℕ, ◌≤◌, ◌<◌}
use native.Mathlib.Omega.{arith}
use lib.Dec.{eqb, leb}
use lib.ListN.{length, take, drop}
use borrow.Author.Tests.{leb-true, eqb-true, eqb-false, le-leb, lt-leb, ne_eqb}
use Rattle.field.proofs.Tests.{either}
use Rattle.droplet.specs.declared.card.Card.{Card}
use Rattle.droplet.specs.Questions.{card_refusal}
use Rattle.droplet.proofs.Conjunctions.{and-true, said-yes}
use Rattle.droplet.proofs.CardAnswers.{SaysNo}
use Rattle.droplet.specs.declared.refusal.Refusal.{Refusal}
use Rattle.droplet.specs.declared.refusal.Refusal.TheVariants.{FileBuffer}
use Rattle.droplet.specs.Refusals.{refusal_number}
use Rattle.interleave.specs.InterleaveCalls.{both_long, reorder_refusal, done, refused, reorder_answer, file_reordered, reorder_file, ReorderPromise}

module _ (back : Bool) (c : Card) (ws source target : List ℕ) where
  -- question n is the first that says no
  stops : (q : Refusal) → SaysNo (reorder_refusal c ws (length source) (length target)) (refusal_number q)
      → ReorderPromise back c ws source target (Err q) target
  unfolding reorder_file
  stops q s =
      let no = ne_eqb (refusal_number q) 0 s.not-zero in
      record { says = rw (s.number, no); leaves = rw (s.number, no) }

  pub illegal : (q : Refusal) → SaysNo (card_refusal c ws) (refusal_number q) → ReorderPromise back c ws source target (Err q) target
  unfolding reorder_refusal
  illegal q s = stops q (record { number = rw (s.number, ne_eqb (refusal_number q) 0 s.not-zero); not-zero = s.not-zero })

  module _ (legal : card_refusal c ws ≡ 0) where
    pub too_short : (length source < c.f) ⊎ ((c.f ≤ length source) × (length target < c.f)) → ReorderPromise back c ws source target (Err FileBuffer) target
    unfolding reorder_refusal both_long
    too_short (inl h) = stops FileBuffer (record { number = rw (legal, lt-leb c.f (length source) h); not-zero = λ e. omega arith })
    too_short (inr (long, h)) =
        stops FileBuffer (record {
          number = rw (legal, le-leb c.f (length source) long, lt-leb c.f (length target) h);
          not-zero = λ e. omega arith;
        })

    module _ (from : c.f ≤ length source) (to : c.f ≤ length target) where
      pub unrefused : reorder_refusal c ws (length source) (length target) ≡ 0
      unfolding reorder_refusal both_long
      unrefused = rw (legal, le-leb c.f (length source) from, le-leb c.f (length target) to)

      pub moved : (after : List ℕ) → after ≡ file_reordered back c (take c.f source) ++ drop c.f target
          → ReorderPromise back c ws source target (Ok tt) after
      unfolding reorder_file
      moved after e = record { says = rw unrefused; leaves = rw unrefused e }

      -- so such a call is done
      pub goes_through : (r : Result (Unit {0}) Refusal) (after : List ℕ) → ReorderPromise back c ws source target r after
          → (reorder_answer r ≡ done) × (after ≡ file_reordered back c (take c.f source) ++ drop c.f target)
      unfolding reorder_file
      goes_through r after p = (rw unrefused at p.says, rw unrefused at p.leaves)

  -- ---- a call that was done

  -- no question said no
  pub record Asked : Type 0 where
    pub fine : card_refusal c ws ≡ 0
    pub from : c.f ≤ length source
    pub to : c.f ≤ length target

  asked : reorder_refusal c ws (length source) (length target) ≡ 0 → Asked
  unfolding reorder_refusal both_long
  asked e =
      elim (either (eqb (card_refusal c ws) 0)) [
        | inl t ↦
            let long = (said-yes (leb c.f (length source) && leb c.f (length target)) 27 0 (rw t at e)).0 in
            let both = and-true (leb c.f (length source)) (leb c.f (length target)) long in
            record {
              fine = eqb-true (card_refusal c ws) 0 t;
              from = leb-true c.f (length source) both.0;
              to = leb-true c.f (length target) both.1;
            }
        | inr f ↦ absurd (eqb-false (card_refusal c ws) 0 f (rw f at e))
      ]

  pub was-asked : (r : Result (Unit {0}) Refusal) (after : List ℕ) → ReorderPromise back c ws source target r after → reorder_answer r ≡ done → Asked
  unfolding reorder_file
  was-asked r after p e =
      let R = reorder_refusal c ws (length source) (length target) in
      elim (either (eqb R 0)) [
        | inl t ↦ asked (eqb-true R 0 t)
        | inr f ↦ absurd (not_done (sym e ∙ rw f at p.says))
      ]
    where
      apart : ◌≡◌ {A = ℕ} 0 1 → ⊥
      apart e = omega arith

      not_done : {n : ℕ} → done ≡ refused n → ⊥
      not_done e = apart (cc)
