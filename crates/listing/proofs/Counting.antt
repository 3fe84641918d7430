-- A count modulo 2^64 goes up with the count that it stands for. Assumes nothing.
use Rattle.std.proofs.Common.{◌≡◌, ℕ, suc, ◌+◌, ◌%◌, ◌^◌, arith}

pub one_more : (m n : ℕ) → m ≡ n % 2 ^ 64 → (m + 1) % 2 ^ 64 ≡ suc n % 2 ^ 64
one_more m n e = omega arith
