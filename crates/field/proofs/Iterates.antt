-- A function applied k times, over any function: sums and products of counts, and the counts that bring a number back. Assumes nothing.
use Rattle.std.proofs.Common.{◌≡◌, ℕ, zero, suc, ◌+◌, ◌*◌, ◌/◌, ◌%◌, sym, refl, ap, ◌∙◌, suc-add, mul-zero, zero-add, mul-suc}
use native.Mathlib.Nat.{div-add-mod}
use Rattle.field.specs.Generator.{iterate}

module _ (f : ℕ → ℕ) where
  pub iterate-add : (a b s : ℕ) → iterate (a + b) f s ≡ iterate b f (iterate a f s)
  unfolding iterate
  iterate-add zero b s = ap (λ n. iterate n f s) (zero-add b)
  iterate-add (suc a) b s = ap (λ n. iterate n f s) (suc-add a b) ∙ iterate-add a b (f s)

  fixed-stays : (k s : ℕ) → f s ≡ s → iterate k f s ≡ s
  unfolding iterate
  fixed-stays zero s e = refl
  fixed-stays (suc k) s e = ap (iterate k f) e ∙ fixed-stays k s e

iterate-out : (f : ℕ → ℕ) (k s : ℕ) → iterate k f (f s) ≡ f (iterate k f s)
unfolding iterate
iterate-out f zero s = refl
iterate-out f (suc k) s = iterate-out f k (f s)

pub iterate-mul : (f : ℕ → ℕ) (a b s : ℕ) → iterate (a * b) f s ≡ iterate b (iterate a f) s
unfolding iterate
iterate-mul f a zero s = ap (λ n. iterate n f s) (mul-zero a)
iterate-mul f a (suc b) s =
    ap (λ n. iterate n f s) (mul-suc a b) ∙ iterate-add f (a * b) a s ∙ ap (iterate a f) (iterate-mul f a b s)
    ∙ sym (iterate-out (iterate a f) b s)

-- where a and b steps bring a number back, so do a multiple of a, and b modulo a
module _ (f : ℕ → ℕ) (s : ℕ) where
  pub fixed-mul : (a b : ℕ) → iterate a f s ≡ s → iterate (a * b) f s ≡ s
  fixed-mul a b e = iterate-mul f a b s ∙ fixed-stays (iterate a f) b s e

  pub fixed-mod : (a b : ℕ) → iterate a f s ≡ s → iterate b f s ≡ s → iterate (b % a) f s ≡ s
  fixed-mod a b ea eb =
      ap (iterate (b % a) f) (sym (fixed-mul a (b / a) ea)) ∙ sym (iterate-add f (a * (b / a)) (b % a) s)
      ∙ ap (λ n. iterate n f s) (div-add-mod b a) ∙ eb
