-- A table by its rule: its length, the entry at a place, and two rules that give one table. Assumes nothing.
use Rattle.std.proofs.Common.{◌≡◌, ℕ, zero, suc, ◌<◌, ◌∷◌, length, get_or, refl, ap, ap₂, arith}
use Rattle.field.specs.Bytes.{table_of}

pub entry : (n : ℕ) (f : ℕ → ℕ) (k : ℕ) → k < n → get_or (table_of n f) k 0 ≡ f k
unfolding table_of
entry zero f k h = omega arith
entry (suc n) f zero h = refl
entry (suc n) f (suc k) h = entry n (λ m. f (suc m)) k (omega arith)

pub table-length : (n : ℕ) (f : ℕ → ℕ) → length (table_of n f) ≡ n
unfolding table_of
table-length zero f = refl
table-length (suc n) f = ap suc (table-length n (λ k. f (suc k)))

pub tables-same : (n : ℕ) (f g : ℕ → ℕ) → ((k : ℕ) → k < n → f k ≡ g k) → table_of n f ≡ table_of n g
unfolding table_of
tables-same zero f g h = refl
tables-same (suc n) f g h = ap₂ ◌∷◌ (h 0 (omega arith)) (tables-same n (λ k. f (suc k)) (λ k. g (suc k)) (λ k b. h (suc k) (omega arith)))
