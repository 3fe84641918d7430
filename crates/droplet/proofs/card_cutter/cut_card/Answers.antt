-- `cut_card` meets its contract: one law for each of its answers. Assumes nothing.
use Rattle.std.specs.Prelude.{Ok, Err}
use mathlib.Core.Path.{◌≡◌, refl, sym, ap, ◌∙◌}
use mathlib.Core.List.{List, ◌++◌, append_assoc}
use Prim.Native.Nat.{ℕ, ◌+◌, ◌-◌, ◌≤◌, ◌<◌}
use native.Mathlib.Omega.{arith}
use lib.ListN.{length, take, drop, length-append, length-take, length-drop}
use borrow.Author.Tests.{ne_eqb, le-leb, lt-leb}
use Rattle.field.proofs.LentParts.{put_back}
use Rattle.droplet.specs.declared.card.Card.{Card}
use Rattle.droplet.specs.declared.refusal.Refusal.{Refusal}
use Rattle.droplet.specs.declared.refusal.Refusal.TheVariants.{CardBuffer}
use Rattle.droplet.specs.Refusals.{refusal_number}
use Rattle.droplet.specs.PoolCard.{width_field, card_bytes, weights_start}
use Rattle.droplet.specs.Questions.{card_refusal}
use Rattle.droplet.specs.CardCutter.{cut_card, CutPromise}
use Rattle.droplet.proofs.CardBytes.{head_bytes, width-short, head-length, parts, card-length}
use Rattle.droplet.proofs.Refusals.{handed_on}
use Rattle.droplet.proofs.CardAnswers.{SaysNo, passed, stopped}
use Rattle.droplet.proofs.card_cutter.cut_card.Goals as goal

module _ (c : Card) (ws out : List ℕ) where
  illegal : (q : Refusal) → SaysNo (card_refusal c ws) (refusal_number q) → CutPromise c ws out (Err q) out
  unfolding cut_card
  illegal q s =
      let no = ne_eqb (refusal_number q) 0 s.not-zero in
      record { says = rw (s.number, no); leaves = rw (s.number, no) }

  module _ (legal : card_refusal c ws ≡ 0) where
    short : length out < weights_start + length ws + length (width_field c) → CutPromise c ws out (Err CardBuffer) out
    unfolding cut_card
    short h =
        let no = lt-leb (length (card_bytes c ws)) (length out) (omega (arith, card-length c ws)) in
        record { says = rw (legal, no); leaves = rw (legal, no) }

    -- head and weights are copied, and then the field into the part behind them
    written : (size end : ℕ) (head once part : List ℕ) → size ≡ end + length (width_field c) → end ≡ weights_start + length ws → size ≤ length out
        → head ≡ head_bytes c ws → once ≡ head ++ (ws ++ drop (length head + length ws) out)
        → part ≡ width_field c ++ drop (length (width_field c)) (take (length once - end) (drop end once))
        → CutPromise c ws out (Ok size) (take end once ++ (part ++ drop (length once - end) (drop end once)))
    unfolding cut_card
    written size end head once part s e room h copied put =
        let whole : length (card_bytes c ws) ≡ size = omega (arith, card-length c ws, e, s) in
        let yes = le-leb (length (card_bytes c ws)) (length out) (omega (arith, whole)) in
        let front = head_bytes c ws ++ ws in
        let long : length front ≡ end = simp (length-append, head-length c ws) (omega (arith, e)) in
        let first : once ≡ front ++ drop end out = copied ∙ rw (h, head-length c ws, ← e, append_assoc) in
        let all = put_back front (width_field c) out once part end long first put in
        let rest = drop (end + length (width_field c)) out in
        let card = sym (append_assoc front (width_field c) rest)
        ∙ ap (λ (l : List ℕ). l ++ rest) (append_assoc (head_bytes c ws) ws (width_field c) ∙ sym (parts c ws))
        ∙ ap (λ (n : ℕ). card_bytes c ws ++ drop n out) (sym s) in
        record { says = rw (legal, yes, whole); leaves = rw (legal, yes, whole) (all ∙ card) }

pub returns-in_err-check_plan : goal.returns-in_err-check_plan
returns-in_err-check_plan c =
    rw (handed_on _ _ c.from_residual.ensures.1) (illegal _ _ _ _ (stopped _ _ c.check_plan.ensures c.in_err-check_plan.was))

pub overflow_add-size : goal.overflow_add-size
overflow_add-size c =
    let weights = (passed _ _ c.check_plan.ensures c.in_ok-check_plan.was).legal.weights in
    record { fits = omega (arith, c.width_length.ensures, width-short c.args.card) }

pub returns-then-out-size : goal.returns-then-out-size
returns-then-out-size c =
    short _ _ _ (passed _ _ c.check_plan.ensures c.in_ok-check_plan.was).unrefused (omega (arith, c.if-out-size.true, c.width_length.ensures))

pub card_head-requires : goal.card_head-requires
card_head-requires c = let weights = (passed _ _ c.check_plan.ensures c.in_ok-check_plan.was).legal.weights in omega arith

pub copy_both-requires : goal.copy_both-requires
copy_both-requires c =
    omega (arith, ap length c.card_head.ensures ∙ head-length c.args.card c.args.weights.now, c.if-out-size.false)

pub put_width-requires : goal.put_width-requires
put_width-requires c =
    simp (length-take, length-drop) (omega (arith, c.if-out-size.false, c.width_length.ensures, c.copy_both.auto.to))

pub returns : goal.returns
returns c =
    written _ _ _ (passed _ _ c.check_plan.ensures c.in_ok-check_plan.was).unrefused _ _ _ _ _ (rw c.width_length.ensures) refl c.if-out-size.false
    c.card_head.ensures c.copy_both.ensures c.put_width.ensures
