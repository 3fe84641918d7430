-- `is_width` meets its contract: the library compares two lists as the definition does. Assumes nothing.
use Rattle.std.proofs.Common.{◌≡◌, ◌∙◌, ℕ, List, [], ◌∷◌, eqb, length, sym, ap, refl, ne_eqb, arith}
use Rattle.field.specs.Bytes.{same_bytes}
use Rattle.field.proofs.SameBytes.{pointwise-same}
use Rattle.droplet.proofs.CardBytes.{width-field, no-width-field}
use Rattle.droplet.proofs.card.is_width.Goals as goal

none-same : (xs : List ℕ) → eqb (length xs) 0 ≡ same_bytes xs []
unfolding same_bytes
none-same [] = refl
none-same (x ∷ xs) = ne_eqb (length (x ∷ xs)) 0 (λ e. omega arith)

pub returns-then-card : goal.returns-then-card
returns-then-card c =
    c.eq.ensures ∙ pointwise-same _ _
    ∙ ap (same_bytes c.args.bytes.now) (c.as_slice.ensures ∙ c.width_bytes.ensures ∙ sym (width-field c.args.card c.if-card.true))

pub returns : goal.returns
returns c = rw (no-width-field c.args.card c.if-card.false) (c.is_empty.ensures ∙ none-same _)
