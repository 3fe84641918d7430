-- What a caller knows of a card and its weights that the questions 2 to 4 and 27 do not refuse. Assumes nothing.
use mathlib.Core.Path.{◌≡◌, refl}
use mathlib.Core.Bool.{Bool, true, false, ◌||◌}
use mathlib.Core.List.{List}
use mathlib.Core.Logic.{inl, inr}
use Prim.Native.Nat.{ℕ, suc, ◌+◌, ◌-◌, ◌*◌, ◌%◌, ◌≤◌, ◌<◌}
use native.Mathlib.Nat.{div-mul-le_self, lt-div-mul-add, le-div_iff_mul-le}
use native.Mathlib.Omega.{arith}
use Rattle.std.proofs.lemmas.Bool.Decides.{nat_tests}
use lib.Dec.{eqb}
use lib.ListN.{length}
use borrow.Author.Tests.{eqb-true}
use Rattle.field.specs.CheckBytes.{CheckCount}
use Rattle.field.proofs.Syndromes.{checks-bounds}
use Rattle.droplet.specs.declared.card.Card.{Card}
use Rattle.droplet.specs.PoolCard.{weight_count, weight_sum, segment_count, strand_bytes}
use Rattle.droplet.specs.Questions.{sizes_right, limits_right, weights_right, width_right, card_refusal}

-- ---- question 2

pub record Sizes (c : Card) : Type 0 where
  pub f-least : 1 ≤ c.f
  pub f-most : c.f ≤ 8388608
  pub l-least : 1 ≤ c.l
  pub l_most : c.l ≤ 64
  pub check_count : CheckCount c.r
  pub segments-least : 1 ≤ segment_count c
  pub segments-most : segment_count c ≤ 131072
  pub file-within : c.f ≤ segment_count c * c.l
  pub file-fills : segment_count c * c.l < c.f + c.l
  pub strand-least : 7 ≤ strand_bytes c
  pub strand-most : strand_bytes c ≤ 72

-- the test of R
abbrev pub checks_right : ℕ → Bool
checks_right r = eqb r 2 || eqb r 4

checks-true : (r : ℕ) → checks_right r ≡ true → CheckCount r
checks-true r e = go (eqb r 2) refl e
  where
    go : (b : Bool) → eqb r 2 ≡ b → (b || eqb r 4) ≡ true → CheckCount r
    go true h t = inl (eqb-true r 2 h)
    go false h t = inr (eqb-true r 4 t)

module _ (c : Card) where
  -- K segments hold the file, and K - 1 do not
  module _ (f-least : 1 ≤ c.f) (l-least : 1 ≤ c.l) where
    file-within : c.f ≤ segment_count c * c.l
    unfolding segment_count
    file-within = omega (arith, lt-div-mul-add {a = c.f + (c.l - 1)} {b = c.l} (omega arith))

    file-fills : segment_count c * c.l < c.f + c.l
    unfolding segment_count
    file-fills = omega (arith, div-mul-le_self (c.f + (c.l - 1)) c.l)

    segments-least : 1 ≤ segment_count c
    unfolding segment_count
    segments-least = (le-div_iff_mul-le {k = c.l} {x = 1} {y = c.f + (c.l - 1)} (omega arith)).1 (omega arith)

  pub sizes-true : sizes_right c ≡ true → Sizes c
  unfolding sizes_right strand_bytes
  sizes-true e =
      let f-least : 1 ≤ c.f = grind (arith, nat_tests) in
      let l-least : 1 ≤ c.l = grind (arith, nat_tests) in
      let l_most : c.l ≤ 64 = grind (arith, nat_tests) in
      let checks = checks-true c.r grind (arith, nat_tests) in
      let bounds = checks-bounds checks in
      record {
        f-least = f-least;
        f-most = grind (arith, nat_tests);
        l-least = l-least;
        l_most = l_most;
        check_count = checks;
        segments-least = segments-least f-least l-least;
        segments-most = grind (arith, nat_tests);
        file-within = file-within f-least l-least;
        file-fills = file-fills f-least l-least;
        strand-least = omega arith;
        strand-most = omega arith;
      }

-- ---- question 3

pub record Limits (c : Card) : Type 0 where
  pub m-least : 1 ≤ c.m
  pub m-most : c.m ≤ 20
  pub ordered : c.lo ≤ c.hi
  pub hi-most : c.hi ≤ 1000

pub limits-true : (c : Card) → limits_right c ≡ true → Limits c
unfolding limits_right
limits-true c e =
    record { m-least = grind (arith, nat_tests); m-most = grind (arith, nat_tests); ordered = grind (arith, nat_tests); hi-most = grind (arith, nat_tests) }

-- ---- question 4

pub record Weights (c : Card) (ws : List ℕ) : Type 0 where
  pub whole : length ws ≡ weight_count ws * 4
  pub degrees-least : 1 ≤ weight_count ws
  pub degrees-segments : weight_count ws ≤ segment_count c
  pub degrees-most : weight_count ws ≤ 1024
  pub sum-least : 1 ≤ weight_sum ws
  pub sum-most : weight_sum ws ≤ 4294967295

pub weights-true : (c : Card) (ws : List ℕ) → weights_right c ws ≡ true → Weights c ws
unfolding weights_right
weights-true c ws e =
    let divides : length ws % 4 ≡ 0 = grind (arith, nat_tests) in
    record {
      whole = omega arith;
      degrees-least = grind (arith, nat_tests);
      degrees-segments = grind (arith, nat_tests);
      degrees-most = grind (arith, nat_tests);
      sum-least = grind (arith, nat_tests);
      sum-most = grind (arith, nat_tests);
    }

-- ---- question 27

pub record Width (c : Card) : Type 0 where
  pub width-least : 2 ≤ c.width
  pub width-most : c.width ≤ c.f

pub width-true : (c : Card) → width_right c ≡ true → c.interleaved ≡ true → Width c
unfolding width_right
width-true c e there = record { width-least = grind (arith, nat_tests); width-most = grind (arith, nat_tests) }

-- ---- the four together

pub record Legal (c : Card) (ws : List ℕ) : Type 0 where
  pub sizes : Sizes c
  pub limits : Limits c
  pub weights : Weights c ws
  pub width : c.interleaved ≡ true → Width c

-- a refusal has a number other than 0
pub no_number : {n : ℕ} → suc n ≡ 0 → ⊥
no_number e = omega arith

pub legal : (c : Card) (ws : List ℕ) → card_refusal c ws ≡ 0 → Legal c ws
unfolding card_refusal
legal c ws e =
    let two : sizes_right c ≡ true = grind arith in
    let three : limits_right c ≡ true = grind arith in
    let four : weights_right c ws ≡ true = grind arith in
    let last : width_right c ≡ true = grind arith in
    record { sizes = sizes-true c two; limits = limits-true c three; weights = weights-true c ws four; width = width-true c last }
