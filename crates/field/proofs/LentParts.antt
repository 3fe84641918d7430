-- The part of a buffer behind a front, lent, written and put back. Assumes nothing.
use Rattle.std.proofs.Common.{◌≡◌, ℕ, ◌+◌, ◌-◌, List, [], ◌++◌, length, take, drop, sym, ap, ◌∙◌, append-nil, arith, length-drop, drop_of_length-le, take_all, drop-drop, take_at, drop_at}

-- first a front is written, and then something at the start of the part behind it
pub put_back : (front back to once part : List ℕ) (n : ℕ) → length front ≡ n → once ≡ front ++ drop n to
    → part ≡ back ++ drop (length back) (take (length once - n) (drop n once))
    → take n once ++ (part ++ drop (length once - n) (drop n once)) ≡ front ++ (back ++ drop (n + length back) to)
put_back front back to once part n long f g =
    let rest = drop n to in
    let behind : drop n once ≡ rest = ap (drop n) f ∙ drop_at front rest n long in
    let before : take n once ≡ front = ap (take n) f ∙ take_at front rest n long in
    let size : length rest ≡ length once - n = ap length (sym behind) ∙ length-drop n once in
    let all : take (length once - n) rest ≡ rest = take_all (length once - n) rest (omega arith) in
    let none : drop (length once - n) rest ≡ [] = drop_of_length-le rest {i = length once - n} (omega arith) in
    rw (before, g, behind, all, none, append-nil, drop-drop)
