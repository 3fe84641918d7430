-- A word's value at a^i is the sum of its bytes, each times a power of a^i by its distance from the end. Assumes nothing.
use Rattle.std.proofs.Common.{◌≡◌, ℕ, suc, ◌*◌, List, [], ◌∷◌, length, sym, ap, ◌∙◌, add_comm, mul-zero, mul-suc}
use lib.Bits.{bit_xor, xor_zero_l, xor_zero_r}
use Rattle.field.specs.CheckBytes.{times_power, horner, value_at}
use Rattle.field.proofs.Xor.{xor_assoc}
use Rattle.field.proofs.Powers.{power-xor, power_zero, power-add}

-- the weighted sum: byte b with n bytes after it counts (a^i)^n times
unfoldable pub weighted : ℕ → List ℕ → ℕ
weighted i [] = 0
weighted i (b ∷ bs) = bit_xor (times_power (i * length bs) b) (weighted i bs)

pub horner-weighted : (i acc : ℕ) (word : List ℕ) → horner i acc word ≡ bit_xor (times_power (i * length word) acc) (weighted i word)
unfolding horner weighted times_power
horner-weighted i acc [] = sym (ap (λ (n : ℕ). bit_xor (times_power n acc) 0) (mul-zero i) ∙ xor_zero_r acc)
horner-weighted i acc (b ∷ bs) =
    let n = i * length bs in
    let moved : times_power n (times_power i acc) ≡ times_power (i * suc (length bs)) acc =
    sym (power-add i n acc) ∙ ap (λ (k : ℕ). times_power k acc) (add_comm i n ∙ sym (mul-suc i (length bs))) in
    horner-weighted i (bit_xor (times_power i acc) b) bs
    ∙ ap (λ (v : ℕ). bit_xor v (weighted i bs)) (power-xor n (times_power i acc) b ∙ ap (λ (v : ℕ). bit_xor v (times_power n b)) moved)
    ∙ xor_assoc (times_power (i * suc (length bs)) acc) (times_power n b) (weighted i bs)

pub value-weighted : (i : ℕ) (word : List ℕ) → value_at i word ≡ weighted i word
value-weighted i word =
    horner-weighted i 0 word ∙ ap (λ (v : ℕ). bit_xor v (weighted i word)) (power_zero (i * length word)) ∙ xor_zero_l (weighted i word)
