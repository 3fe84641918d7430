-- The restorer's loops: a record's turn in a pass, a pass in the peeling, and a record in the count of contradictions.
-- Assumes nothing.
use mathlib.Core.Path.{◌≡◌, refl, sym, ap, ◌∙◌}
use mathlib.Core.Bool.{Bool, true, false}
use mathlib.Core.List.{List, ◌∷◌, ◌++◌}
use Prim.Native.Nat.{ℕ, suc, ◌+◌, ◌-◌, ◌≤◌, ◌<◌}
use native.Mathlib.Nat.{sub-zero}
use native.Mathlib.Omega.{arith}
use borrow.Author.Tests.{eq-eqb, ne_eqb}
use lib.ListN.{length, drop, length-append}
use Rattle.std.specs.Int.{from_bool}
use Rattle.droplet.specs.PoolCard.{weight_count}
use Rattle.decoder.specs.Store.{record_bytes, record_from}
use Rattle.decoder.specs.Restorer.{Droplet, State, step, pass, present, peeled, peel, contradicts, contradictions}
use Rattle.decoder.specs.declared.restorer.Pool.{Pool}
use Rattle.decoder.specs.Pools.{droplet_of, droplets_in, Room, Filled}
use Rattle.decoder.proofs.MarkCounts.{present-most}
use Rattle.decoder.proofs.Passes.{pass-cons, peel-stop, peel-more}
use Rattle.decoder.proofs.RecordsIn.{width-some, droplets_in-cons, droplets_in-short}

-- buffers of the same lengths have room too
module _ (p : Pool) {file marks list file' marks' list' : List ℕ} where
  pub room-stays : Room p file marks list → length file' ≡ length file → length marks' ≡ length marks → length list' ≡ length list
      → Room p file' marks' list'
  room-stays room f m l = record {
    file_fits = omega (arith, room.file_fits);
    marks_fit = omega (arith, room.marks_fit);
    places = omega (arith, room.places);
  }

-- ---- a pass

-- with some of the bytes left: their records make of the state now what all make of the state at the start
pub record Passing (p : Pool) (bytes file₀ marks₀ list₀ left file marks list : List ℕ) (filled : ℕ) : Type 0 where
  pub goes_on : pass p.l (droplets_in p left) (record { file = file; marks = marks })
      ≡ pass p.l (droplets_in p bytes) (record { file = file₀; marks = marks₀ })
  pub counted : present p.plan.segments marks ≡ present p.plan.segments marks₀ + filled
  pub rest : drop (weight_count p.weights.now) list ≡ drop (weight_count p.weights.now) list₀
  pub file-size : length file ≡ length file₀
  pub marks-size : length marks ≡ length marks₀
  pub list-size : length list ≡ length list₀

module _ (p : Pool) (bytes file₀ marks₀ list₀ : List ℕ) where
  pub passing_begins : (left : List ℕ) → left ≡ bytes → Passing p bytes file₀ marks₀ list₀ left file₀ marks₀ list₀ 0
  passing_begins left e = record {
    goes_on = rw e;
    counted = omega arith;
    rest = refl;
    file-size = refl;
    marks-size = refl;
    list-size = refl;
  }

  module _ (left file marks list : List ℕ) (filled : ℕ) (now : Passing p bytes file₀ marks₀ list₀ left file marks list filled) where
    -- no more segments are filled than there are
    pub few-filled : (n : ℕ) (marks' : List ℕ) → present p.plan.segments marks' ≡ present p.plan.segments marks + n → filled + n ≤ p.plan.segments
    few-filled n marks' e = omega (arith, now.counted, present-most p.plan.segments marks')

    pub passing-turns : (x next : List ℕ) → left ≡ x ++ next → length x ≡ record_bytes p.l → (file' marks' list' : List ℕ) (n : ℕ)
        → Filled p (step p.l (droplet_of p (record_from p.l x)) (record { file = file; marks = marks })) marks list file' marks' list' n
        → length file' ≡ length file → length marks' ≡ length marks → length list' ≡ length list
        → Passing p bytes file₀ marks₀ list₀ next file' marks' list' (filled + n)
    passing-turns x next split size file' marks' list' n stepped f m l =
        let d = droplet_of p (record_from p.l x) in
        record {
          goes_on =
              ap (pass p.l (droplets_in p next)) stepped.state ∙ sym (pass-cons p.l d (droplets_in p next) (record { file = file; marks = marks }))
              ∙ ap (λ (ds : List Droplet). pass p.l ds (record { file = file; marks = marks })) (sym (droplets_in-cons p left x next split size))
              ∙ now.goes_on;
          counted = omega (arith, stepped.count, now.counted);
          rest = stepped.rest ∙ now.rest;
          file-size = f ∙ now.file-size;
          marks-size = m ∙ now.marks-size;
          list-size = l ∙ now.list-size;
        }

    pub passing-ends : length left < record_bytes p.l
        → Filled p (pass p.l (droplets_in p bytes) (record { file = file₀; marks = marks₀ })) marks₀ list₀ file marks list filled
    unfolding pass
    passing-ends h = record {
      state =
          ap (λ (ds : List Droplet). pass p.l ds (record { file = file; marks = marks })) (sym (droplets_in-short p left h)) ∙ now.goes_on;
      count = now.counted;
      rest = now.rest;
    }

-- ---- the peeling

-- after some passes: those left make of the state now what all make of the state at the start
pub record PeelingOn (p : Pool) (ds : List Droplet) (file₀ marks₀ list₀ file marks list : List ℕ) (there passes : ℕ) : Type 0 where
  pub goes_on : peel (suc p.plan.segments - passes) p.plan.segments p.l ds passes (record { file = file; marks = marks })
      ≡ peel (suc p.plan.segments) p.plan.segments p.l ds 0 (record { file = file₀; marks = marks₀ })
  pub counted : there ≡ present p.plan.segments marks
  pub few : passes ≤ there
  pub rest : drop (weight_count p.weights.now) list ≡ drop (weight_count p.weights.now) list₀
  pub file-size : length file ≡ length file₀
  pub marks-size : length marks ≡ length marks₀
  pub list-size : length list ≡ length list₀

module _ (p : Pool) (ds : List Droplet) (file₀ marks₀ list₀ : List ℕ) where
  abbrev K : ℕ
  K = p.plan.segments

  abbrev L : ℕ
  L = p.l

  pub peeling-begins : present K marks₀ ≡ 0 → PeelingOn p ds file₀ marks₀ list₀ file₀ marks₀ list₀ 0 0
  peeling-begins none = record {
    goes_on = ap (λ (fuel : ℕ). peel fuel K L ds 0 (record { file = file₀; marks = marks₀ })) (sub-zero (suc K));
    counted = sym none;
    few = omega arith;
    rest = refl;
    file-size = refl;
    marks-size = refl;
    list-size = refl;
  }

  module _ (file marks list : List ℕ) (there passes : ℕ) (now : PeelingOn p ds file₀ marks₀ list₀ file marks list there passes) where
    -- the marks bound the passes
    pub few_passes : passes ≤ K
    few_passes = omega (arith, now.few, now.counted, present-most K marks)

    fuel-left : suc K - passes ≡ suc (K - passes)
    fuel-left = let h = few_passes in omega arith

    module _ (file' marks' list' : List ℕ) (n : ℕ)
        (passed : Filled p (pass L ds (record { file = file; marks = marks })) marks list file' marks' list' n) where
      pub few-present : there + n ≤ K
      few-present = omega (arith, passed.count, now.counted, present-most K marks')

      after : present K (pass L ds (record { file = file; marks = marks })).marks ≡ present K marks + n
      after = ap (λ (st : State). present K st.marks) (sym passed.state) ∙ passed.count

      pub peeling-ends : (passes' : ℕ) → passes' ≡ suc passes → n ≡ 0
          → peeled passes' (record { file = file'; marks = marks' }) ≡ peel (suc K) K L ds 0 (record { file = file₀; marks = marks₀ })
      peeling-ends passes' more none =
          let same : present K (pass L ds (record { file = file; marks = marks })).marks ≡ present K marks = omega (arith, after) in
          rw (more, passed.state)
          (sym (peel-stop (K - passes) K L ds passes (record { file = file; marks = marks }) (eq-eqb _ _ same))
          ∙ ap (λ (fuel : ℕ). peel fuel K L ds passes (record { file = file; marks = marks })) (sym fuel-left) ∙ now.goes_on)

      pub peeling-turns : (passes' : ℕ) → passes' ≡ suc passes → 0 < n
          → length file' ≡ length file → length marks' ≡ length marks → length list' ≡ length list
          → PeelingOn p ds file₀ marks₀ list₀ file' marks' list' (there + n) passes'
      peeling-turns passes' more some f m l =
          let other : present K (pass L ds (record { file = file; marks = marks })).marks ≡ present K marks → ⊥ = λ e. omega (arith, after) in
          let less : suc K - suc passes ≡ K - passes = omega arith in
          record {
            goes_on =
                rw (more, less, passed.state)
                (sym (peel-more (K - passes) K L ds passes (record { file = file; marks = marks }) (ne_eqb _ _ other))
                ∙ ap (λ (fuel : ℕ). peel fuel K L ds passes (record { file = file; marks = marks })) (sym fuel-left) ∙ now.goes_on);
            counted = omega (arith, passed.count, now.counted);
            few = omega (arith, now.few);
            rest = passed.rest ∙ now.rest;
            file-size = f ∙ now.file-size;
            marks-size = m ∙ now.marks-size;
            list-size = l ∙ now.list-size;
          }

-- ---- the count of contradictions

-- with some of the bytes left
pub record Counting (p : Pool) (bytes : List ℕ) (st : State) (list₀ left list : List ℕ) (n : ℕ) : Type 0 where
  pub few : n + length left ≤ length bytes
  pub goes_on : n + contradictions p.l (droplets_in p left) st ≡ contradictions p.l (droplets_in p bytes) st
  pub rest : drop (weight_count p.weights.now) list ≡ drop (weight_count p.weights.now) list₀
  pub list-size : length list ≡ length list₀

module _ (p : Pool) (bytes : List ℕ) (st : State) (list₀ : List ℕ) where
  pub counting-begins : (left : List ℕ) → left ≡ bytes → Counting p bytes st list₀ left list₀ 0
  counting-begins left e = record {
    few = omega (arith, ap length e);
    goes_on = rw e (omega arith);
    rest = refl;
    list-size = refl;
  }

  module _ (left list : List ℕ) (n : ℕ) (now : Counting p bytes st list₀ left list n) where
    counted_next : (b : Bool) (d : Droplet) (ds : List Droplet) → b ≡ contradicts p.l st d
        → contradictions p.l (d ∷ ds) st ≡ from_bool b + contradictions p.l ds st
    unfolding contradictions
    counted_next true d ds e = rw (sym e) (omega arith)
    counted_next false d ds e = rw (sym e) (omega arith)

    pub counting-turns : (x next : List ℕ) → left ≡ x ++ next → length x ≡ record_bytes p.l → (list' : List ℕ) (b : Bool)
        → b ≡ contradicts p.l st (droplet_of p (record_from p.l x))
        → drop (weight_count p.weights.now) list' ≡ drop (weight_count p.weights.now) list → length list' ≡ length list
        → Counting p bytes st list₀ next list' (n + from_bool b)
    counting-turns x next split size list' b e r l =
        let here =
        ap (λ (ds : List Droplet). contradictions p.l ds st) (droplets_in-cons p left x next split size) ∙ counted_next b _ (droplets_in p next) e in
        record {
          few = few-more b;
          goes_on = omega (arith, here, now.goes_on);
          rest = r ∙ now.rest;
          list-size = l ∙ now.list-size;
        }
      where
        shorter : length left ≡ length x + length next
        shorter = ap length split ∙ length-append x next

        few-more : (b : Bool) → n + from_bool b + length next ≤ length bytes
        few-more true = omega (arith, now.few, shorter, size, width-some p.l)
        few-more false = omega (arith, now.few, shorter)

    pub counting-ends : length left < record_bytes p.l → n ≡ contradictions p.l (droplets_in p bytes) st
    unfolding contradictions
    counting-ends h =
        let e = ap (λ (ds : List Droplet). contradictions p.l ds st) (droplets_in-short p left h) in
        let z : contradictions p.l (droplets_in p left) st ≡ 0 = e in
        omega (arith, now.goes_on)
