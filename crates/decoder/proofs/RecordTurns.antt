-- A record's turn: what its drawn set says of the definition's step, and of its contradiction. Assumes nothing.
use mathlib.Core.Path.{◌≡◌, refl, sym, ap, ◌∙◌}
use mathlib.Core.Bool.{Bool, false, not, ◌&&◌}
use mathlib.Core.List.{List, [], ◌∷◌}
use Prim.Native.Nat.{ℕ, ◌+◌, ◌-◌, ◌*◌, ◌≤◌, ◌<◌}
use native.Mathlib.Nat.{mul-le-mul_right, le_refl}
use native.Mathlib.Omega.{arith}
use lib.ListN.{length, take, drop}
use lib.Seq.{drop-drop}
use Rattle.field.specs.Bytes.{All, padded, same_bytes}
use Rattle.field.proofs.ByteLists.{take-padded, padded-length}
use Rattle.droplet.specs.PoolCard.{weight_count}
use Rattle.droplet.specs.Droplet.{segments_of, payload}
use Rattle.droplet.proofs.Degree.{degree_of-most}
use Rattle.droplet.proofs.Sets.{segments-length, segments-below}
use Rattle.droplet.proofs.Payload.{payload-length}
use Rattle.decoder.specs.declared.restorer.Unmarked.TheVariants.{None, One, Several}
use Rattle.decoder.specs.declared.restorer.Drawn.{Drawn}
use Rattle.decoder.specs.declared.restorer.Pool.{Pool}
use Rattle.decoder.specs.Store.{record_bytes, record_seed, record_payload, record_from}
use Rattle.decoder.specs.Restorer.{Droplet, State, marked, missing, filled, filled_by, step, present, is_nil, contradicts}
use Rattle.decoder.specs.Loops.{unmarked_of, AllBelow}
use Rattle.decoder.specs.Pools.{droplet_of, Seen, Room, Filled}
use Rattle.decoder.proofs.AllOf.{all_map}
use Rattle.decoder.proofs.MarkCounts.{present-more}
use Rattle.decoder.proofs.RecordBytes.{payload-size}
use Rattle.decoder.proofs.MissingSegments.{missing-one}
use Rattle.decoder.proofs.Unmarked.{unmarked-none, unmarked-one}

-- a step that leaves the state as it is: not just one segment is missing
stays-unless : (L : ℕ) (d : Droplet) (st : State) (xs : List ℕ) → ((s : ℕ) → unmarked_of xs ≡ One s → ⊥) → filled_by L d st xs ≡ st
unfolding filled_by unmarked_of
stays-unless L d st [] other = refl
stays-unless L d st (i ∷ []) other = absurd (other i refl)
stays-unless L d st (i ∷ (j ∷ xs)) other = refl

-- what is as it was from d on is so from n on
drop_more : (d n : ℕ) (xs ys : List ℕ) → d ≤ n → drop d xs ≡ drop d ys → drop n xs ≡ drop n ys
drop_more d n xs ys h e =
    let past : d + (n - d) ≡ n = omega arith in
    rw (← past, ← drop-drop (n - d) d xs, ← drop-drop (n - d) d ys, e)

module _ (p : Pool) (bytes file marks before after : List ℕ) (r : Drawn) (size : length bytes ≡ record_bytes p.l)
    (room : Room p file marks before) (seen : Seen p (record_seed bytes) marks before after r) where
  abbrev K : ℕ
  K = p.plan.segments

  abbrev L : ℕ
  L = p.l

  abbrev weights : List ℕ
  weights = p.weights.now

  abbrev own : List ℕ
  own = segments_of weights K (record_seed bytes)

  -- the record's droplet, and the state before its turn
  abbrev one : Droplet
  one = droplet_of p (record_from L bytes)

  abbrev st : State
  st = record { file = file; marks = marks }

  degree-most : r.degree ≤ weight_count weights
  degree-most = rw seen.degree (degree_of-most weights (record_seed bytes) p.pickable.positive)

  pub degree-places : r.degree ≤ length before
  degree-places = omega (arith, degree-most, room.places)

  pub list-kept : drop (weight_count weights) after ≡ drop (weight_count weights) before
  list-kept = drop_more r.degree (weight_count weights) after before degree-most seen.looked.rest

  -- the payload as it is lent
  abbrev stored : List ℕ
  stored = record_payload L bytes

  pub stored-size : length stored ≡ L
  stored-size = payload-size L bytes (rw size (le_refl (record_bytes L)))

  own_below : All (λ s. s < K) own
  own_below = segments-below weights K (record_seed bytes) p.pickable.positive p.pickable.degrees

  -- not just one segment is missing
  pub turn-none : ((s : ℕ) → r.unmarked ≡ One s → ⊥) → Filled p (step L one st) marks before file marks after 0
  unfolding step droplet_of record_from
  turn-none other = record {
    state = sym (stays-unless L one st (missing marks own) (λ s e. other s (seen.looked.found ∙ e)));
    count = omega arith;
    rest = list-kept;
  }

  -- unless several are, the set stands in the front of the list
  module _ (few : r.unmarked ≡ Several → ⊥) where
    front-own : take r.degree after ≡ own
    front-own =
        let n : length own ≡ r.degree = segments-length weights K (record_seed bytes) ∙ sym seen.degree in
        rw (← n) (seen.looked.front few)

    front_below : AllBelow (length marks) (take r.degree after)
    unfolding AllBelow
    front_below =
        rw front-own (all_map (λ s. s < K) (λ s. s < length marks) (λ s h. omega (arith, room.marks_fit)) own own_below)

  -- just one is
  module _ (s : ℕ) (lone : r.unmarked ≡ One s) where
    lone-few : r.unmarked ≡ Several → ⊥
    lone-few e = let z : ◌≡◌ {A = ℕ} 0 1 = cc in omega arith

    lone-missing : missing marks own ≡ s ∷ []
    lone-missing = unmarked-one s (missing marks own) (sym lone ∙ seen.looked.found)

    lone_below : (s < K) × (marked marks s ≡ false)
    lone_below = missing-one marks K s own own_below lone-missing

    pub fill-list : AllBelow (length marks) (take r.degree after)
    fill-list = front_below lone-few

    pub fill-place : s * L + L ≤ length file
    fill-place = omega (arith, mul-le-mul_right L lone_below.0, room.file_fits)

    pub fill-mark : s < length marks
    fill-mark = omega (arith, lone_below, room.marks_fit)

    pub turn_one : (file' marks' : List ℕ)
        → record { file = file'; marks = marks' } ≡ filled L (record { segments = take r.degree after; payload = stored }) st s
        → Filled p (step L one st) marks before file' marks' after 1
    unfolding step filled_by filled droplet_of record_from
    turn_one file' marks' e = record {
      state = rw (lone-missing, ← (front-own lone-few)) e;
      count =
          ap (λ (t : State). present K t.marks) e ∙ present-more marks s K lone_below.0 fill-mark lone_below.1
          ∙ omega arith;
      rest = list-kept;
    }

  -- ---- a contradiction

  pub agrees-unless : (r.unmarked ≡ None → ⊥) → false ≡ contradicts L st one
  unfolding contradicts droplet_of record_from
  agrees-unless some = of (missing marks own) seen.looked.found
    where
      of : (xs : List ℕ) → r.unmarked ≡ unmarked_of xs → false ≡ (is_nil xs && not (same_bytes (payload L file own) stored))
      of [] e = absurd (some (unfold unmarked_of in e))
      of (x ∷ xs) e = refl

  module _ (all : r.unmarked ≡ None) where
    all-few : r.unmarked ≡ Several → ⊥
    all-few e = let z : ◌≡◌ {A = ℕ} 0 1 = cc in omega arith

    module _ (q : List ℕ) (made : q ≡ padded 64 (payload L file (take r.degree after))) where
      pub contradicts-by : (same : Bool) → same ≡ same_bytes (take (length stored) q) stored → not same ≡ contradicts L st one
      unfolding contradicts droplet_of record_from
      contradicts-by same e =
          let xor = payload L file own in
          let front : take L (padded 64 xor) ≡ xor
          = ap (λ (n : ℕ). take n (padded 64 xor)) (sym (payload-length L file own)) ∙ take-padded 64 xor in
          let whole : take L q ≡ xor = rw (made, front-own all-few) front in
          let none = unmarked-none (missing marks own) (sym all ∙ seen.looked.found) in
          rw (e, stored-size, whole, none)
