-- What has joined after i draws is the front of the whole set, and the list behind the set is as it was lent; so what the marks
-- of the front show holds of the set. Assumes nothing.
use mathlib.Core.Path.{◌≡◌, refl, sym, ap, ◌∙◌}
use mathlib.Core.List.{List, [], ◌∷◌, ◌++◌}
use mathlib.Core.Logic.{inl, inr}
use Prim.Native.Nat.{ℕ, zero, suc, ◌+◌, ◌-◌, ◌%◌, ◌≤◌}
use native.Mathlib.Nat.{mod-lt, le_refl}
use native.Mathlib.Omega.{arith}
use lib.ListN.{length, take, drop, length-append}
use lib.Seq.{length-take-le, take-length, take_all, drop_at, take-take, take-append-le, take-append_seam}
use Rattle.field.specs.declared.generator.Draw.{Draw}
use Rattle.field.specs.Generator.{after_draw, number_drawn}
use Rattle.field.proofs.Tests.{either}
use Rattle.droplet.specs.Droplet.{member, joining, pick_from}
use Rattle.droplet.proofs.Sets.{pick-length}
use Rattle.droplet.proofs.Picking.{Picking}
use Rattle.decoder.specs.declared.restorer.Unmarked.{Unmarked}
use Rattle.decoder.specs.declared.restorer.Unmarked.TheVariants.{Several}
use Rattle.decoder.specs.Restorer.{missing}
use Rattle.decoder.specs.Loops.{unmarked_of, Looked}
use Rattle.decoder.proofs.Unmarked.{several-front}

-- what joins is at most j
pub joins-most : (xs : List ℕ) (j v : ℕ) → joining xs j (v % (j + 1)) ≤ j
joins-most xs j v =
    let drawn = mod-lt v {m = j + 1} (omega arith) in
    elim (either (member (v % (j + 1)) xs)) [ inl e ↦ rw e (le_refl j) | inr e ↦ rw e (omega arith) ]

-- draws add behind what has joined
pick-front : (more : ℕ) (state : Draw) (j : ℕ) (xs : List ℕ) → take (length xs) (pick_from more state j xs) ≡ xs
unfolding pick_from
pick-front zero state j xs = take-length xs
pick-front (suc more) state j xs =
    let s = joining xs j (number_drawn (after_draw state) % suc j) in
    let later = pick_from more (after_draw state) (suc j) (xs ++ (s ∷ [])) in
    sym (take-take (length xs) (length (xs ++ (s ∷ []))) later (omega (arith, length-append xs (s ∷ []))))
    ∙ rw (pick-front more (after_draw state) (suc j) (xs ++ (s ∷ []))) (take-append_seam xs (s ∷ []))

module _ (k d : ℕ) (first : Draw) (lent : List ℕ) where
  -- the whole set
  abbrev whole : List ℕ
  whole = pick_from d first (k - d) []

  whole_length : length whole ≡ d
  whole_length = pick-length d first (k - d) [] ∙ omega arith

  -- the set was drawn whole after its first n segments, or need not be
  module _ (marks after : List ℕ) where
    pub whole-front : (r : Unmarked) → Looked (take d whole) marks d lent after r → Looked whole marks d lent after r
    whole-front r h = rw (take_all d whole (rw whole_length (le_refl d))) at h

    pub whole-several : (n : ℕ) (r : Unmarked) → r ≡ Several → Looked (take n whole) marks d lent after r → Looked whole marks d lent after Several
    whole-several n r e h = record {
      found = sym (several-front marks n whole (sym h.found ∙ e));
      front = λ no. absurd (no refl);
      rest = h.rest;
    }

    -- drawn again, after a first look that kept what is past the set
    pub whole_again : (between : List ℕ) (r : Unmarked) → drop d between ≡ drop d lent → Looked (take d whole) marks d between after r
        → Looked whole marks d lent after r
    whole_again between r rest h =
        let t : Looked whole marks d between after r = rw (take_all d whole (rw whole_length (le_refl d))) at h in
        record { found = t.found; front = t.front; rest = t.rest ∙ rest }

  module _ (state : Draw) (list : List ℕ) (i : ℕ) (now : Picking k d first lent state list i) (room : d ≤ length lent) where
    joined_length : length (take i list) ≡ i
    joined_length = length-take-le i list (omega (arith, now.long, now.at_most))

    later-length : length (pick_from (d - i) state (k - d + i) (take i list)) ≡ d
    later-length = pick-length (d - i) state (k - d + i) (take i list) ∙ omega (arith, joined_length, now.at_most)

    drawn-front : take i whole ≡ take i list
    drawn-front =
        let later = pick_from (d - i) state (k - d + i) (take i list) in
        let most = now.at_most in
        let front = pick-front (d - i) state (k - d + i) (take i list) in
        sym (take-append-le i whole (drop d lent) (rw whole_length most))
        ∙ ap (take i) (sym now.goes_on)
        ∙ take-append-le i later (drop d list) (rw later-length most)
        ∙ rw joined_length at front

    drawn-rest : drop d list ≡ drop d lent
    drawn-rest =
        sym (drop_at (pick_from (d - i) state (k - d + i) (take i list)) (drop d list) d later-length)
        ∙ ap (drop d) now.goes_on
        ∙ drop_at whole (drop d lent) d whole_length

    -- what the marks of the segments drawn show of the first n of the set, i being at most n
    module _ (n : ℕ) (most : i ≤ n) (some : n ≤ d) (marks : List ℕ) where
      pub looked-several : (r : Unmarked) → r ≡ unmarked_of (missing marks (take i list)) → r ≡ Several → Looked (take n whole) marks d lent list r
      looked-several r e several = record {
        found = several ∙ sym (several-front marks i (take n whole) (rw (take-take i n whole most, drawn-front) (sym e ∙ several)));
        front = λ no. absurd (no several);
        rest = drawn-rest;
      }

      pub looked-all : n ≤ i → (r : Unmarked) → r ≡ unmarked_of (missing marks (take i list)) → Looked (take n whole) marks d lent list r
      looked-all all r e =
          let end : n ≡ i = omega arith in
          let front : take n whole ≡ take n list = rw end drawn-front in
          record {
            found = rw front (rw (← end) at e);
            front = λ no. rw (length-take-le n whole (rw whole_length some)) (sym front);
            rest = drawn-rest;
          }
