-- The bytes of a card: what stands before the weights and behind them, what the reader finds at its places, and what a well-formed
-- card is made of. Assumes nothing.
use mathlib.Core.Path.{◌≡◌, refl, sym, ap, ◌∙◌}
use mathlib.Core.Bool.{Bool, true, false, cond, ◌&&◌}
use mathlib.Core.List.{List, [], ◌∷◌, ◌++◌}
use Prim.Native.Nat.{ℕ, ◌+◌, ◌-◌, ◌%◌, ◌^◌, ◌≤◌, ◌<◌}
use native.Mathlib.Omega.{arith}
use Rattle.std.proofs.lemmas.Bool.Decides.{nat_tests}
use lib.ListN.{length, take, drop, length-take, length-drop, length-append, take-append-drop}
use lib.Seq.{length-take-le, take-append_seam, drop-append_seam, drop-drop}
use Rattle.field.specs.Bytes.{from_big_endian, to_big_endian, same_bytes}
use Rattle.field.proofs.BigEndian.{to-from}
use Rattle.field.proofs.SameBytes.{same-eq, eq-same, same-append}
use Rattle.droplet.specs.declared.card.Card.{Card}
use Rattle.droplet.specs.PoolCard.{number_at, to_two_bytes, field_bytes, width_field, card_bytes, weights_start, weights_end, width_there, card_numbers, carried, card_weights, well_formed}

-- ---- numbers in one and two bytes

pub one-back : (n : ℕ) → from_big_endian (n ∷ []) ≡ n
unfolding from_big_endian
one-back n = omega arith

pub two_back : (n : ℕ) → from_big_endian (to_two_bytes n) ≡ n
unfolding from_big_endian to_two_bytes
two_back n = omega arith

-- ---- the bytes before the weights, and those behind them

abbrev pub head_bytes : Card → List ℕ → List ℕ
head_bytes c ws = take weights_start (card_bytes c ws)

-- a field of seven bytes, or nothing
module _ (c : Card) where
  pub width-field : c.interleaved ≡ true → width_field c ≡ field_bytes 4 (to_big_endian c.width)
  unfolding width_field
  width-field t = rw t

  pub no-width-field : c.interleaved ≡ false → width_field c ≡ []
  unfolding width_field
  no-width-field f = rw f

  pub width-length : length (width_field c) ≡ cond c.interleaved 7 0
  unfolding width_field field_bytes to_two_bytes to_big_endian
  width-length = grind arith

  pub width-short : length (width_field c) ≤ 7
  width-short = grind (arith, width-length)

module _ (c : Card) (ws : List ℕ) where
  pub head-length : length (head_bytes c ws) ≡ weights_start
  unfolding card_bytes field_bytes to_two_bytes to_big_endian
  head-length = refl

  pub parts : card_bytes c ws ≡ head_bytes c ws ++ (ws ++ width_field c)
  unfolding card_bytes field_bytes to_two_bytes to_big_endian
  parts = refl

  pub card-length : length (card_bytes c ws) ≡ weights_start + length ws + length (width_field c)
  card-length = ap length parts ∙ simp (length-append, head-length) (omega arith)

  pub third-length : number_at 18 2 (card_bytes c ws) ≡ length ws
  unfolding number_at card_bytes field_bytes to_two_bytes to_big_endian
  third-length = two_back (length ws)

  pub weights-end : weights_end (card_bytes c ws) ≡ weights_start + length ws
  unfolding weights_end
  weights-end = rw third-length

  behind-head : drop weights_start (card_bytes c ws) ≡ ws ++ width_field c
  unfolding card_bytes field_bytes to_two_bytes to_big_endian
  behind-head = refl

  pub weights-back : card_weights (card_bytes c ws) ≡ ws
  weights-back = rw (third-length, behind-head, take-append_seam)

  -- what stands n bytes behind the weights
  pub behind-weights : (n : ℕ) → drop (weights_start + length ws + n) (card_bytes c ws) ≡ drop n (width_field c)
  behind-weights n =
      let card = card_bytes c ws in
      sym (drop-drop n (weights_start + length ws) card)
      ∙ ap (drop n) (sym (drop-drop (length ws) weights_start card) ∙ ap (drop (length ws)) behind-head ∙ drop-append_seam ws (width_field c))

  pub width-there : width_there (card_bytes c ws) ≡ c.interleaved
  unfolding width_there
  width-there = let end = weights-end in let size = card-length in let field = width-length c in grind (arith, nat_tests)

  width-at : c.interleaved ≡ true → number_at (weights_start + length ws + 3) 4 (card_bytes c ws) ≡ from_big_endian (to_big_endian c.width)
  unfolding number_at width_field field_bytes to_two_bytes to_big_endian
  width-at t = rw (behind-weights 3, t)

  -- W stands behind the weights, if the field is there
  width-number : (c.interleaved ≡ true → c.width < 2 ^ 32)
      → cond (width_there (card_bytes c ws)) (number_at (weights_end (card_bytes c ws) + 3) 4 (card_bytes c ws)) 0 ≡ cond c.interleaved c.width 0
  width-number small = picked c.interleaved (width_there (card_bytes c ws)) width-there (λ t.
      ap (λ (n : ℕ). number_at (n + 3) 4 (card_bytes c ws)) weights-end ∙ width-at t ∙ to-from c.width (small t))
    where
      picked : (b there : Bool) {n w : ℕ} → there ≡ b → (b ≡ true → n ≡ w) → cond there n 0 ≡ cond b w 0
      picked true there e h = rw (e, h refl)
      picked false there e h = rw e

  -- the numbers of the first two fields, with any W
  fixed-numbers : c.f < 2 ^ 32 → (there : Bool) (W : ℕ)
      → ◌≡◌ {A = Card} (record {
        f = number_at 3 4 (card_bytes c ws);
        l = number_at 7 1 (card_bytes c ws);
        r = number_at 8 1 (card_bytes c ws);
        m = number_at 12 1 (card_bytes c ws);
        lo = number_at 13 2 (card_bytes c ws);
        hi = number_at 15 2 (card_bytes c ws);
        interleaved = there;
        width = W;
      }) (record { f = c.f; l = c.l; r = c.r; m = c.m; lo = c.lo; hi = c.hi; interleaved = there; width = W })
  unfolding number_at card_bytes field_bytes to_two_bytes to_big_endian
  fixed-numbers h there W = rw (to-from c.f h, one-back c.l, one-back c.r, one-back c.m, two_back c.lo, two_back c.hi)

  pub numbers-back : c.f < 2 ^ 32 → (c.interleaved ≡ true → c.width < 2 ^ 32) → card_numbers (card_bytes c ws) ≡ carried c
  unfolding card_numbers carried
  numbers-back h small = rw (width-number small, width-there) (fixed-numbers h _ _)

  -- W is not looked at without the field
  pub carried-bytes : card_bytes (carried c) ws ≡ card_bytes c ws
  unfolding card_bytes width_field carried
  carried-bytes = grind arith

-- ---- well-formed cards

pub card-well-formed : (c : Card) (ws : List ℕ) → c.f < 2 ^ 32 → (c.interleaved ≡ true → c.width < 2 ^ 32) → length ws % 4 ≡ 0
    → well_formed (card_bytes c ws) ≡ true
unfolding well_formed
card-well-formed c ws h small e = rw (numbers-back c ws h small, weights-back c ws, carried-bytes c ws) (simp (eq-same, e))

pub own-bytes : (card : List ℕ) → well_formed card ≡ true → card ≡ card_bytes (card_numbers card) (card_weights card)
unfolding well_formed
own-bytes card e = let same : same_bytes card (card_bytes (card_numbers card) (card_weights card)) ≡ true = grind arith in same-eq _ _ same

pub well-formed-long : (card : List ℕ) → well_formed card ≡ true → weights_end card ≤ length card
well-formed-long card e =
    let c = card_numbers card in
    let ws = card_weights card in
    let own = own-bytes card e in
    let end = ap weights_end own ∙ weights-end c ws in
    omega (arith, end, ap length own ∙ card-length c ws)

-- ---- the parts of a card, as they are lent

module _ (card : List ℕ) where
  pub head-before-end : weights_start ≤ weights_end card
  unfolding weights_end
  head-before-end = omega arith

  module _ (long : weights_end card ≤ length card) where
    pub weights-length : length (card_weights card) ≡ weights_end card - weights_start
    unfolding weights_end
    weights-length = simp (length-take, length-drop) (omega (arith, long))

    pub head-there : weights_start ≤ length card
    head-there = omega (arith, long, head-before-end)

    pub weights-and-rest : drop weights_start card ≡ card_weights card ++ drop (weights_end card) card
    unfolding weights_end
    weights-and-rest =
        let size = number_at 18 2 card in
        let behind = drop weights_start card in
        sym (take-append-drop size behind) ∙ ap (λ (rest : List ℕ). take size behind ++ rest) (drop-drop size weights_start card)

    own-parts : card ≡ take weights_start card ++ (card_weights card ++ drop (weights_end card) card)
    own-parts = sym (take-append-drop weights_start card) ∙ ap (λ (rest : List ℕ). take weights_start card ++ rest) weights-and-rest

    -- the bytes before the weights and those behind them decide
    pub ends-decide : (c : Card) → same_bytes card (card_bytes c (card_weights card))
        ≡ (same_bytes (take weights_start card) (head_bytes c (card_weights card)) && same_bytes (drop (weights_end card) card) (width_field c))
    ends-decide c =
        let front = take weights_start card in
        let ws = card_weights card in
        let rest = drop (weights_end card) card in
        let size = length-take-le weights_start card head-there ∙ sym (head-length c ws) in
        ap (λ (l : List ℕ). same_bytes l (card_bytes c ws)) own-parts
        ∙ ap (same_bytes (front ++ (ws ++ rest))) (parts c ws)
        ∙ same-append front (head_bytes c ws) (ws ++ rest) (ws ++ width_field c) size
        ∙ ap (◌&&◌ (same_bytes front (head_bytes c ws))) (same-append ws ws rest (width_field c) refl ∙ rw (eq-same ws))
