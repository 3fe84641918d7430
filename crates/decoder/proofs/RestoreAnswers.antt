-- From what the restorer's parts give to the promise of a restore: refused by the card, by a later question, and answered.
-- Assumes nothing.
use mathlib.Core.Path.{◌≡◌, refl, sym, ap, ◌∙◌}
use mathlib.Core.Bool.{Bool, true, false, cond, ◌&&◌}
use mathlib.Core.List.{List, map}
use Prim.Native.Nat.{ℕ, suc, ◌*◌, ◌≤◌}
use native.Mathlib.Omega.{arith}
use borrow.Author.Tests.{eq-eqb, ne_eqb, leb-true}
use lib.Dec.{leb}
use lib.ListN.{length, take}
use Rattle.std.specs.Prelude.{Ok, Err}
use Rattle.droplet.specs.declared.card.Card.{Card}
use Rattle.droplet.specs.declared.card.Plan.{Plan}
use Rattle.droplet.specs.declared.refusal.Refusal.{Refusal}
use Rattle.droplet.specs.Refusals.{refusal_number}
use Rattle.droplet.specs.PoolCard.{segment_count}
use Rattle.droplet.specs.Questions.{card_refusal}
use Rattle.droplet.specs.Droplet.{segments_of}
use Rattle.droplet.proofs.Conjunctions.{and-true, said-yes}
use Rattle.droplet.proofs.CardAnswers.{Passed, SaysNo}
use Rattle.droplet.proofs.Refusals.{refusal_of, refusal-back}
use Rattle.decoder.specs.declared.restorer.Sheet.{Sheet}
use Rattle.decoder.specs.Store.{Record, record_bytes, records, count_fits}
use Rattle.decoder.specs.Restorer.{State, droplets, has_seed, peel_all, room_refusal, later_refusal, restore_refusal, restore, RestorePromise}
use Rattle.decoder.specs.declared.restorer.Pool.{Pool}
use Rattle.decoder.specs.Loops.{Pickable, records_in}
use Rattle.decoder.specs.Pools.{droplet_of, droplets_in, Room, MadeSheet}
use Rattle.decoder.proofs.RecordsIn.{records_in-first}

-- no question has the number 0
some-number : (why : Refusal) → refusal_number why ≡ 0 → ⊥
some-number why e =
    let other : ◌≡◌ {A = ℕ} 28 (refusal_number why) = ap refusal_number (sym (ap refusal_of e) ∙ refusal-back why) in
    omega arith

said-not : (b : Bool) (n others : ℕ) → cond b (suc n) others ≡ 0 → (b ≡ false) × (others ≡ 0)
said-not true n others e = absurd (let z : ⊥ = omega arith in z)
said-not false n others e = (refl, e)

-- the questions 14, 17, 18 and 8 say yes
pub record Fits (K L D : ℕ) (store : List ℕ) (count file marks list : ℕ) : Type 0 where
  pub records-fit : count * record_bytes L ≤ length store
  pub file-fits : K * L ≤ file
  pub marks-fit : K ≤ marks
  pub list-fits : D ≤ list

pub later-fits : (K L D : ℕ) (store : List ℕ) (count file marks list : ℕ) → later_refusal K L D store count file marks list ≡ 0
    → Fits K L D store count file marks list
unfolding later_refusal room_refusal
later-fits K L D store count file marks list e =
    let q14 = said-yes (count_fits L store count) _ _ e in
    let q17 = said-not (has_seed 0 (records L count store)) _ _ q14.1 in
    let q18 = said-yes (leb (K * L) file && leb K marks) _ _ q17.1 in
    let q8 = said-yes (leb D list) _ _ q18.1 in
    let both = and-true (leb (K * L) file) (leb K marks) q18.0 in
    record {
      records-fit = leb-true _ _ q14.0;
      file-fits = leb-true _ _ both.0;
      marks-fit = leb-true _ _ both.1;
      list-fits = leb-true _ _ q8.0;
    }

module _ (c : Card) (weights store : List ℕ) (count : ℕ) (file marks list : List ℕ) where
  abbrev number : ℕ
  number = restore_refusal c weights store count (length file) (length marks) (length list)

  refused-promise : (why : Refusal) → number ≡ refusal_number why → (refusal_number why ≡ 0 → ⊥)
      → RestorePromise c weights store count file marks list (Err why) file marks list
  unfolding restore
  refused-promise why e h =
      let other : number ≡ 0 → ⊥ = λ z. h (sym e ∙ z) in
      record {
        says = simp (ne_eqb _ _ other) (cc e);
        fills = simp (ne_eqb _ _ other);
        sets = simp (ne_eqb _ _ other);
        keeps = refl;
        untouched = λ z. refl;
      }

  pub card-refused : (why : Refusal) → SaysNo (card_refusal c weights) (refusal_number why)
      → RestorePromise c weights store count file marks list (Err why) file marks list
  unfolding restore_refusal
  card-refused why stop =
      refused-promise why (simp (ne_eqb (card_refusal c weights) 0 (λ z. stop.not-zero (sym stop.number ∙ z))) stop.number) stop.not-zero

  module _ (plan : Plan) (passed : Passed c weights plan.segments plan.degrees plan.sum) where
    later : later_refusal plan.segments c.l plan.degrees store count (length file) (length marks) (length list) ≡ number
    unfolding later_refusal restore_refusal
    later = rw (eq-eqb _ _ passed.unrefused, passed.segments, passed.degrees)

    pub later-refused : (why : Refusal) → refusal_number why ≡ later_refusal plan.segments c.l plan.degrees store count (length file) (length marks) (length list)
        → RestorePromise c weights store count file marks list (Err why) file marks list
    later-refused why e = refused-promise why (sym (e ∙ later)) (some-number why)

    module _ (fine : 0 ≡ later_refusal plan.segments c.l plan.degrees store count (length file) (length marks) (length list)) where
      fits : Fits plan.segments c.l plan.degrees store count (length file) (length marks) (length list)
      fits = later-fits _ _ _ _ _ _ _ _ (sym fine)

      pub records-fit : count * record_bytes c.l ≤ length store
      records-fit = fits.records-fit

      pub pickable : Pickable weights plan.segments plan.sum c.l
      pickable =
          let w = passed.legal.weights in
          record {
            short = omega (arith, w.whole, w.degrees-most);
            summed = passed.sum;
            positive = w.sum-least;
            few = omega (arith, passed.segments, passed.legal.sizes.segments-most);
            degrees = omega (arith, passed.segments, w.degrees-segments);
            narrow = passed.legal.sizes.l_most;
          }

      -- the pool of this card and these weights
      module _ (p : Pool) (own : p.weights.now ≡ weights) (numbers : p.plan ≡ plan) (width : p.l ≡ c.l) where
        pub room : Room p file marks list
        room = record {
          file_fits = rw (numbers, width) fits.file-fits;
          marks_fit = rw numbers fits.marks-fit;
          places = rw own (omega (arith, passed.degrees, fits.list-fits));
        }

        segments : p.plan.segments ≡ segment_count c
        segments = ap (λ (q : Plan). q.segments) numbers ∙ passed.segments

        same_droplets : droplets_in p (take (count * record_bytes c.l) store) ≡ droplets c weights store count
        unfolding droplets_in droplet_of droplets
        same_droplets =
            let first = ap (λ (L : ℕ). records_in L (take (count * record_bytes c.l) store)) width ∙ records_in-first c.l count store fits.records-fit in
            ap (map (droplet_of p)) first
            ∙ (λ z. map (λ (r : Record). record { segments = segments_of (own z) (segments z) r.read.seed; payload = r.read.payload }) (records c.l count store))

        pub restored-promise : (records file' marks' list' : List ℕ) (r : Sheet) → records ≡ take (count * record_bytes c.l) store
            → MadeSheet p (droplets_in p records) (peel_all p.plan.segments p.l (droplets_in p records) file marks) list file' marks' list' r
            → RestorePromise c weights store count file marks list (Ok r) file' marks' list'
        unfolding restore
        restored-promise records file' marks' list' r first done =
            let none : number ≡ 0 = sym (fine ∙ later) in
            record {
              says = simp (eq-eqb _ _ none) (rw (first, same_droplets, segments, width) at done.sheet);
              fills = simp (eq-eqb _ _ none) (ap (λ (st : State). st.file) (rw (first, same_droplets, segments, width) at done.state));
              sets = simp (eq-eqb _ _ none) (ap (λ (st : State). st.marks) (rw (first, same_droplets, segments, width) at done.state));
              keeps = rw own at done.rest;
              untouched = λ z. let y = eq-eqb _ _ none in absurd (let x : ◌≡◌ {A = ℕ} 0 1 = cc in let w : ⊥ = omega arith in w);
            }
