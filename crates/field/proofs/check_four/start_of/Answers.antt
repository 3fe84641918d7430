-- `start_of` meets its contract: fewer than four bytes, and then four. Assumes nothing.
use Rattle.std.proofs.Common.{◌≡◌, [], ◌-◌, length, take, drop, arith, length-drop, take-append-drop, drop_of_length-le}
use Rattle.field.specs.Bytes.{IsByte}
use Rattle.field.proofs.ByteLists.{all_from, all_drop}
use Rattle.field.proofs.BigEndian.{spelt}
use Rattle.field.proofs.Remainders.{goes-from, goes_end, four-turn}
use Rattle.field.proofs.check_four.start_of.Goals as goal

pub returns : goal.returns
returns c =
    let w = c.args.word.now in
    let k = length w - 4 in
    let s = c.split_at.ensures in
    let n = c.number_of-2 in
    let x = c.number_at in
    let bytes = all_drop IsByte k w (all_from IsByte w 0 (λ i h. omega (arith, c.type_inv.word i))) in
    let four = spelt (drop k w) x.result (simp length-drop (omega arith)) bytes (rw s.back at x.ensures) in
    let none : drop 4 (drop k w) ≡ [] = drop_of_length-le (drop k w) {i = 4} (simp length-drop (omega arith)) in
    rw c.up_four.ensures
    (goes_end w (drop 4 (drop k w)) _ none
    (four-turn w (drop k w) _ n.result x.result four (goes-from w (take k w) (drop k w) n.result (take-append-drop k w) (rw s.front at n.ensures))))
