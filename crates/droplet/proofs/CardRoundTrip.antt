-- The card cutter and the card reader give each other back: `CutThenRead`, `ReadThenCut` and `CardsExactly`. Assumes nothing.
use Rattle.std.specs.Prelude.{Result}
use mathlib.Core.Path.{◌≡◌, sym, ap, ◌∙◌}
use mathlib.Core.Bool.{true}
use mathlib.Core.List.{List}
use Prim.Native.Nat.{ℕ, ◌^◌, ◌≤◌, ◌<◌}
use native.Mathlib.Omega.{arith}
use lib.ListN.{length, take}
use lib.Seq.{take-append_seam}
use borrow.Author.Tests.{le-leb}
use Rattle.droplet.specs.declared.card.Card.{Card}
use Rattle.droplet.specs.declared.refusal.Refusal.{Refusal}
use Rattle.droplet.specs.PoolCard.{card_bytes, card_numbers, carried, card_weights, well_formed, weight_count, segment_count}
use Rattle.droplet.specs.Questions.{sizes_right, limits_right, weights_right, width_right, card_refusal, card_reading_refusal, card_reading}
use Rattle.droplet.specs.Questions.CardRead.{accepted}
use Rattle.droplet.specs.CardCutter.{cut_card, CutPromise}
use Rattle.droplet.specs.CardRoundTrip.{CutThenRead, Cuts, ReadThenCut, CardsExactly}
use Rattle.droplet.proofs.CardBytes.{weights-back, numbers-back, card-well-formed, own-bytes}
use Rattle.droplet.proofs.LegalCard.{legal}
use Rattle.droplet.proofs.CardAnswers.{reading-accepted}

-- without the field W is not looked at
carried-refusal : (c : Card) (ws : List ℕ) → card_refusal (carried c) ws ≡ card_refusal c ws
unfolding card_refusal sizes_right limits_right weights_right width_right segment_count carried
carried-refusal c ws = grind arith

-- the reader's W is 0 without the field
numbers-carried : (card : List ℕ) → carried (card_numbers card) ≡ card_numbers card
unfolding card_numbers carried
numbers-carried card = grind arith

module _ (c : Card) (ws : List ℕ) (unrefused : card_refusal c ws ≡ 0) where
  -- the reader accepts the bytes of legal numbers and weights
  card-read : card_reading (card_bytes c ws) ≡ accepted (carried c) (weight_count ws)
  unfolding card_reading card_reading_refusal
  card-read =
      let known = legal c ws unrefused in
      let small = known.sizes.f-most in
      let narrow : (c.interleaved ≡ true → c.width < 2 ^ 32) = λ t. omega (arith, (known.width t).width-most) in
      let whole = known.weights.whole in
      rw (
        card-well-formed c ws (omega arith) narrow (omega arith),
        numbers-back c ws (omega arith) narrow,
        weights-back c ws,
        carried-refusal c ws,
        unrefused,
      )

  -- the cutter writes them, if there is space
  card-cut : (buffer : List ℕ) (r : Result ℕ Refusal) (buffer' : List ℕ) → CutPromise c ws buffer r buffer' → length (card_bytes c ws) ≤ length buffer
      → Cuts (card_bytes c ws) buffer r buffer'
  unfolding cut_card
  card-cut buffer r buffer' p room =
      let yes = le-leb (length (card_bytes c ws)) (length buffer) room in
      record { says = rw (unrefused, yes) at p.says; leaves = rw (unrefused, yes) at p.leaves }

pub cut-then-read : CutThenRead
cut-then-read c ws buffer r buffer' p unrefused room =
    let card = card_bytes c ws in
    let done = card-cut c ws unrefused buffer r buffer' p room in
    let front : take (length card) buffer' ≡ card = ap (take (length card)) done.leaves ∙ take-append_seam card _ in
    record {
      size = length card;
      says = done.says;
      numbers = ap card_reading front ∙ card-read c ws unrefused;
      plan = ap card_weights front ∙ weights-back c ws;
    }

-- an accepted card is the bytes of its numbers and weights
accepted-bytes : (card : List ℕ) (c : Card) (D : ℕ) → card_reading card ≡ accepted c D → card ≡ card_bytes c (card_weights card)
unfolding card_reading_refusal
accepted-bytes card c D e =
    let a = reading-accepted card c D e in
    let one : well_formed card ≡ true = grind (arith, a) in
    own-bytes card one ∙ ap (λ (n : Card). card_bytes n (card_weights card)) (sym a.numbers)

pub read-then-cut : ReadThenCut
read-then-cut card c D e buffer r buffer' p room =
    let own = accepted-bytes card c D e in
    let done = card-cut c (card_weights card) (reading-accepted card c D e).unrefused buffer r buffer' p (omega (arith, ap length own)) in
    rw own done

pub cards-exactly : CardsExactly
cards-exactly card c ws = (
  λ h.
      let a = reading-accepted card c _ h.0 in (
        ap (card_refusal c) (sym h.1) ∙ a.unrefused,
        accepted-bytes card c _ h.0 ∙ ap (card_bytes c) h.1,
        ap carried a.numbers ∙ numbers-carried card ∙ sym a.numbers,
      ),
  λ h. (
    ap card_reading h.1 ∙ card-read c ws h.0 ∙ ap (λ (n : Card). accepted n (weight_count ws)) h.2,
    ap card_weights h.1 ∙ weights-back c ws,
  ),
)
