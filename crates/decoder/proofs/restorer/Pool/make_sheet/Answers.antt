-- `make_sheet` meets its contract: what is cleared, peeled and counted is the definition's sheet. Assumes nothing.
use mathlib.Core.Path.{◌≡◌, refl, ap, ◌∙◌}
use mathlib.Core.List.{List, [], ◌++◌}
use Prim.Native.Nat.{ℕ, suc, ◌*◌, ◌≤◌}
use native.Mathlib.Nat.{mul-le-mul_left}
use native.Mathlib.Omega.{arith}
use lib.ListN.{length, take, drop, replicate, length-append, length-replicate, length-drop}
use lib.Seq.{length-take-le}
use Rattle.droplet.specs.PoolCard.{weight_count}
use Rattle.decoder.specs.declared.restorer.Peeling.{Peeling}
use Rattle.decoder.specs.Restorer.{Droplet, State, peeled, peeled_state, present, peel, cleared, peel_all, contradictions, sheet_of}
use Rattle.decoder.specs.declared.restorer.Pool.{Pool}
use Rattle.decoder.specs.Pools.{Room, Ended, MadeSheet}
use Rattle.decoder.proofs.ClearedState.{cleared-present}
use Rattle.decoder.proofs.RestoreLoops.{room-stays}
use Rattle.decoder.proofs.restorer.Pool.make_sheet.Goals as goal

-- the buffers with zeros in their fronts
module _ (K L : ℕ) (file marks f m : List ℕ) (file_fits : K * L ≤ length file) (marks_fit : K ≤ length marks)
    (zeros : f ≡ replicate (length (take (K * L) file)) 0) (none : m ≡ replicate (length (take K marks)) 0) where
  abbrev start : State
  start = record { file = f ++ drop (K * L) file; marks = m ++ drop K marks }

  start_is : start ≡ cleared K L file marks
  unfolding cleared
  start_is = rw (zeros, none, length-take-le (K * L) file file_fits, length-take-le K marks marks_fit)

  start-file : length (f ++ drop (K * L) file) ≡ length file
  start-file = rw (zeros, length-take-le (K * L) file file_fits) (simp (length-append, length-replicate, length-drop) (omega arith))

  start-marks : length (m ++ drop K marks) ≡ length marks
  start-marks = rw (none, length-take-le K marks marks_fit) (simp (length-append, length-replicate, length-drop) (omega arith))

  start-present : present K (m ++ drop K marks) ≡ 0
  start-present = ap (λ (st : State). present K st.marks) start_is ∙ cleared-present K L file marks

module _ (p : Pool) (ds : List Droplet) (file marks list f m file' marks' between list' : List ℕ) (r : Peeling) (n : ℕ)
    (room : Room p file marks list) (zeros : f ≡ replicate (length (take (p.plan.segments * p.l) file)) 0)
    (none : m ≡ replicate (length (take p.plan.segments marks)) 0) where
  abbrev K : ℕ
  K = p.plan.segments

  abbrev before : State
  before = start K p.l file marks f m room.file_fits room.marks_fit zeros none

  pub started : Room p before.file before.marks list × (present K before.marks ≡ 0)
  started = (
    room-stays p room (start-file K p.l file marks f m room.file_fits room.marks_fit zeros none)
        (start-marks K p.l file marks f m room.file_fits room.marks_fit zeros none) refl,
    start-present K p.l file marks f m room.file_fits room.marks_fit zeros none,
  )

  module _ (ended : Ended p (peel (suc K) K p.l ds 0 before) list file' marks' between r)
      (counted : n ≡ contradictions p.l ds (record { file = file'; marks = marks' }))
      (rest : drop (weight_count p.weights.now) list' ≡ drop (weight_count p.weights.now) between) where
    whole : peeled r.passes (record { file = file'; marks = marks' }) ≡ peel_all K p.l ds file marks
    unfolding peel_all
    whole = ended.state ∙ ap (peel (suc K) K p.l ds 0) (start_is K p.l file marks f m room.file_fits room.marks_fit zeros none)

    known : MadeSheet p ds (peel_all K p.l ds file marks) list file' marks' list'
        (record { present = r.present; passes = r.passes; contradictions = n })
    known = record {
      sheet = rw (ended.count, counted) (ap (sheet_of K p.l ds) whole);
      state = ap peeled_state whole;
      rest = rest ∙ ended.rest;
    }

pub overflow_mul-n : goal.overflow_mul-n
overflow_mul-n c =
    let right = c.args.self.now.pickable in
    omega (arith, mul-le-mul_left c.args.self.now.plan.segments right.narrow, right.few)

pub peel-end-requires : goal.peel-end-requires
peel-end-requires c =
    started _ [] _ _ _ _ _ [] [] [] [] (record { present = 0; passes = 0 }) 0 c.requires (c.fill.ensures.after (λ y e. e)) (c.fill-2.ensures.after (λ y e. e))

pub count_contradictions-contradictions-requires : goal.count_contradictions-contradictions-requires
count_contradictions-contradictions-requires c =
    let kept = c.peel-end.auto in
    let begun = started _ [] _ _ _ _ _ [] [] [] [] (record { present = 0; passes = 0 }) 0 c.requires (c.fill.ensures.after (λ y e. e)) (c.fill-2.ensures.after (λ y e. e)) in
    room-stays _ begun.0 kept.file kept.marks kept.list

pub returns : goal.returns
returns c =
    let last = c.count_contradictions-contradictions.ensures in
    known _ _ _ _ _ _ _ _ _ _ _ _ _ c.requires (c.fill.ensures.after (λ y e. e)) (c.fill-2.ensures.after (λ y e. e)) c.peel-end.ensures last.0 last.1
