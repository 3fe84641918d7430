-- `card_numbers` meets its contract: each number is that of its bytes. Assumes nothing.
use Rattle.std.proofs.Common.{◌≡◌, ℕ, List, arith, take, drop}
use Rattle.field.specs.Bytes.{from_big_endian}
use Rattle.droplet.specs.PoolCard.{number_at, card_numbers}
use Rattle.droplet.proofs.NumberAt.{number-one}
use Rattle.droplet.proofs.CardParts.{front-number, rest-there, rest-number, flagged}
use Rattle.droplet.proofs.card.card_numbers.Goals as goal

number_four : (bytes : List ℕ) {n : ℕ} → n ≡ from_big_endian (take 4 (drop 3 bytes)) → n ≡ number_at 3 4 bytes
unfolding number_at
number_four bytes e = e

pub returns : goal.returns
unfolding card_numbers
returns c card ends =
    let head = c.args.head.now in
    let front = front-number card head ends.before in
    let width = flagged _ _ _ c.card_width-width.ensures in
    rw (
      number_four head c.number_at.ensures,
      front 3 4 (omega arith),
      ← number-one head 7 (omega arith),
      front 7 1 (omega arith),
      ← number-one head 8 (omega arith),
      front 8 1 (omega arith),
      ← number-one head 12 (omega arith),
      front 12 1 (omega arith),
      c.two_bytes.ensures,
      front 13 2 (omega arith),
      c.two_bytes-2.ensures,
      front 15 2 (omega arith),
      c.is_some.ensures,
      width.0,
      c.unwrap_or.ensures,
      width.1,
      rest-there card head _ ends,
      rest-number card head _ ends,
    )
