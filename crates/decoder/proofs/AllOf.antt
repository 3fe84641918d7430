-- What holds of each element of a list, of any kind, and what stands in a list. Assumes nothing.
use mathlib.Core.Path.{◌≡◌, refl, ap}
use mathlib.Core.List.{List, [], ◌∷◌, ◌++◌, map}
use mathlib.Core.Logic.{inl, inr}
use Prim.Native.Nat.{ℕ, zero, suc}
use lib.ListN.{take}
use Rattle.field.specs.Bytes.{All}
use Rattle.decoder.specs.Among.{Among, AllAmong}

module _ {A : Type 0} (P Q : A → Type 0) where
  pub all_map : ((a : A) → P a → Q a) → (l : List A) → All P l → All Q l
  all_map f [] h = tt
  all_map f (x ∷ l) h = (f x h.0, all_map f l h.1)

  pub all_both : (l : List A) → All P l → All Q l → All (λ a. P a × Q a) l
  all_both [] h k = tt
  all_both (x ∷ l) h k = ((h.0, k.0), all_both l h.1 k.1)

module _ {A : Type 0} (P : A → Type 0) where
  pub all-front : (n : ℕ) (l : List A) → All P l → All P (take n l)
  all-front zero l h = tt
  all-front (suc n) [] h = tt
  all-front (suc n) (x ∷ l) h = (h.0, all-front n l h.1)

  pub all-before : (l m : List A) → All P (l ++ m) → All P l
  all-before [] m h = tt
  all-before (x ∷ l) m h = (h.0, all-before l m h.1)

  pub all_after : (l m : List A) → All P (l ++ m) → All P m
  all_after [] m h = h
  all_after (x ∷ l) m h = all_after l m h.1

  pub all_among : (l : List A) → All P l → (x : A) → Among x l → P x
  all_among [] h x a = absurd a
  all_among (y ∷ l) h x (inl q) = rw q h.0
  all_among (y ∷ l) h x (inr a) = all_among l h.1 x a

  pub among-all : (l : List A) → ((x : A) → Among x l → P x) → All P l
  among-all [] f = tt
  among-all (x ∷ l) f = (f x (inl refl), among-all l (λ y a. f y (inr a)))

pub all-mapped : {A B : Type 0} (P : B → Type 0) (f : A → B) (l : List A) → All (λ a. P (f a)) l → All P (map f l)
all-mapped P f [] h = tt
all-mapped P f (x ∷ l) h = (h.0, all-mapped P f l h.1)

among-map : {A B : Type 0} (f : A → B) (l : List A) (x : A) → Among x l → Among (f x) (map f l)
among-map f [] x a = absurd a
among-map f (y ∷ l) x (inl q) = inl (ap f q)
among-map f (y ∷ l) x (inr a) = inr (among-map f l x a)

-- each element has one in the other list with the same image
pub among-mapped : {A B : Type 0} (f : A → B) (l l' : List A) → ((x : A) → Among x l → (y : A) × Among y l' × (f x ≡ f y))
    → AllAmong (map f l) (map f l')
among-mapped f [] l' h z a = absurd a
among-mapped f (x ∷ l) l' h z (inl q) = let there = h x (inl refl) in rw (q, there.2) (among-map f l' there.0 there.1)
among-mapped f (x ∷ l) l' h z (inr a) = among-mapped f l l' (λ y b. h y (inr b)) z a
