-- The longest run of a word by rows of matches: the bases as one number, and a flag for each, set where it is equal to the one before
-- it. Assumes nothing.
use mathlib.Core.Path.{◌≡◌, refl, ◌∙◌}
use mathlib.Core.Bool.{Bool, true, false, cond}
use mathlib.Core.Logic.{inl, inr}
use mathlib.Core.List.{List, [], ◌∷◌, map, foldl}
use Prim.Native.Nat.{ℕ, suc, max, ◌+◌, ◌*◌, ◌/◌, ◌%◌, ◌<◌}
use native.Mathlib.Omega.{arith}
use borrow.Author.Tests.{eqb-true}
use lib.Bits.{bit_xor, xor_shr, xor_mod}
use lib.Dec.{eqb, lit<}
use lib.ListN.{length, get_or}
use Rattle.field.specs.Bytes.{All}
use Rattle.field.proofs.Tests.{either}
use Rattle.screen.specs.Letters.{byte_bases, word_bases}
use Rattle.screen.specs.Screen.{OrderBase, of_strand, of_site, base_of, is_strands, BaseRun, base_run, with_base, longest_of, longest_run}
use Rattle.screen.specs.Loops.{number_after, zero_pairs, matches, end_row, longest_row}
use Rattle.screen.proofs.Spelling.{bases-length}
use Rattle.screen.proofs.PackedBases.{agree}
use Rattle.screen.proofs.OrderRuns.{one_more, earlier_runs, none-counts, order-run}

-- a number with bases behind it
bases_after : ℕ → List ℕ → ℕ
bases_after n [] = n
bases_after n (b ∷ bs) = bases_after (n * 4 + b) bs

-- bytes are four bases each
word-bases : (n : ℕ) (bs : List ℕ) → ((i : ℕ) → get_or bs i 0 < 256) → number_after n bs ≡ bases_after n (word_bases bs)
unfolding number_after word_bases byte_bases bases_after
word-bases n [] h = refl
word-bases n (b ∷ bs) h =
    let m = n * 256 + b in
    let small = h 0 in
    let first : n * 4 + b / 64 % 4 ≡ m / 64 = omega arith in
    let second : m / 64 * 4 + b / 16 % 4 ≡ m / 16 = omega arith in
    let third : m / 16 * 4 + b / 4 % 4 ≡ m / 4 = omega arith in
    let fourth : m / 4 * 4 + b % 4 ≡ m = omega arith in
    rw (first, second, third, fourth) (word-bases m bs (λ i. h (suc i)))

-- which are numbers of two bits
are-bases : (bs : List ℕ) → All (λ b. b < 4) (word_bases bs)
unfolding word_bases byte_bases
are-bases [] = tt
are-bases (b ∷ bs) = (omega arith, (omega arith, (omega arith, (omega arith, are-bases bs))))

-- whether a base matches
equal-pair : (b l : ℕ) → b < 4 → l < 4 → ◌≡◌ {A = ℕ} (cond (eqb (bit_xor b l) 0) 1 0) (cond (eqb b l) 1 0)
equal-pair b l h g =
    let first : (b * 4 + l) / 4 ≡ b = omega arith in
    let second : (b * 4 + l) % 4 ≡ l = omega arith in
    rw (first, second) at (agree 16 (λ m. cond (eqb (bit_xor (m / 4) (m % 4)) 0) 1 0) (λ m. cond (eqb (m / 4) (m % 4)) 1 0) tt (b * 4 + l) (omega arith))

-- one base more
match-last : (k n b : ℕ) → b < 4 → matches (suc k) (n * 4 + b) ≡ matches k n * 4 + cond (eqb b (n % 4)) 1 0
unfolding zero_pairs
match-last k n b h =
    let m = n * 4 + b in
    let up : m / 4 ≡ n = omega arith in
    let low : m % 4 ≡ b = omega arith in
    rw (xor_shr m (m / 4) 2, xor_mod m (m / 4) 2, up, low, equal-pair b (n % 4) h (omega arith))

-- a match makes the row at the end longer, any other base ends it
row-after : (k m : ℕ) (p : Bool) → end_row (suc k) (m * 4 + cond p 1 0) ≡ cond p (suc (end_row k m)) 0
unfolding end_row
row-after k m true =
    let low : (m * 4 + 1) % 4 ≡ 1 = omega arith in
    let up : (m * 4 + 1) / 4 ≡ m = omega arith in
    rw (low, up)
row-after k m false = let low : (m * 4 + 0) % 4 ≡ 0 = omega arith in rw low

-- and that row may be the longest
longest-after : (k m : ℕ) (p : Bool) → longest_row (suc k) (m * 4 + cond p 1 0) ≡ max (longest_row k m) (end_row (suc k) (m * 4 + cond p 1 0))
unfolding longest_row
longest-after k m true = let up : (m * 4 + 1) / 4 ≡ m = omega arith in rw up
longest-after k m false = let up : (m * 4 + 0) / 4 ≡ m = omega arith in rw up

-- the runs behind bases of which the last k are the strand's, with the one before them: the last run is one longer than the row of
-- matches at the end, and the longest that counts one longer than the longest row
record Behind (k n : ℕ) (runs : List BaseRun) : Type 0 where
  earlier : List BaseRun
  last : runs ≡ base_run (n % 4) (suc (end_row k (matches k n))) true ∷ earlier
  longest : longest_of runs ≡ suc (longest_row k (matches k n))

-- one base more, the strand's or a site's
longest-more : (k n : ℕ) (runs : List BaseRun) → Behind k n runs → (x : OrderBase) → base_of x < 4
    → longest_of (with_base runs x) ≡ suc (longest_row (suc k) (matches (suc k) (n * 4 + base_of x)))
unfolding with_base
longest-more k n runs now x h =
    let p = eqb (base_of x) (n % 4) in
    let m = matches k n in
    rw (now.last, match-last k n (base_of x) h, longest-after k m p, row-after k m p)
    (one_more p (is_strands x) (base_of x) (n % 4) (end_row k m) (longest_row k m) now.earlier (rw now.last at now.longest))

-- a base of the strand keeps all of it
base_more : (k n : ℕ) (runs : List BaseRun) → Behind k n runs → (b : ℕ) → b < 4 → Behind (suc k) (n * 4 + b) (with_base runs (of_strand b))
unfolding with_base
base_more k n runs now b h =
    let p = eqb b (n % 4) in
    let m = matches k n in
    let base : (n * 4 + b) % 4 ≡ b = omega arith in
    let longest = longest-more k n runs now (of_strand b) h in
    elim (either p) [
      | inl e ↦ record {
        earlier = now.earlier;
        last = rw (now.last, base, match-last k n b h, row-after k m p, e) (rw (eqb-true b (n % 4) e));
        longest = longest;
      }
      | inr e ↦ record {
        earlier = runs;
        last = rw (base, match-last k n b h, row-after k m p, e, now.last, e);
        longest = longest;
      }
    ]

-- more bases of the strand
bases-more : (bases : List ℕ) → All (λ b. b < 4) bases → (k n : ℕ) (runs : List BaseRun) → Behind k n runs
    → Behind (k + length bases) (bases_after n bases) (foldl with_base runs (map of_strand bases))
unfolding bases_after
bases-more [] t k n runs now = let e : k + 0 ≡ k = omega arith in rw e now
bases-more (b ∷ bs) (h, t) k n runs now =
    let e : suc k + length bs ≡ k + suc (length bs) = omega arith in
    rw e at (bases-more bs t (suc k) (n * 4 + b) _ (base_more k n runs now b h))

-- the first of them, behind the first site
first-base : (b : ℕ) → b < 4 → Behind 1 (1 * 4 + b) (with_base (base_run 1 1 false ∷ earlier_runs) (of_strand b))
unfolding with_base longest_of zero_pairs end_row longest_row
first-base b h =
    let base : (1 * 4 + b) % 4 ≡ b = omega arith in
    elim (either (eqb b 1)) [
      | inl e ↦ record {
        earlier = earlier_runs;
        last = rw (base, match-last 0 1 b h, e) (rw (eqb-true b 1 e));
        longest = rw (match-last 0 1 b h, e, none-counts);
      }
      | inr e ↦ record {
        earlier = base_run 1 1 false ∷ earlier_runs;
        last = rw (base, match-last 0 1 b h, e);
        longest = rw (match-last 0 1 b h, e, none-counts);
      }
    ]

-- the longest run of the order, for a strand that is not empty
strand-run : (b : ℕ) (bs : List ℕ) → All (λ x. x < 4) (b ∷ bs)
    → longest_run (b ∷ bs) ≡ suc (longest_row (suc (suc (length bs))) (matches (suc (suc (length bs))) (bases_after 1 (b ∷ bs) * 4 + 3)))
unfolding bases_after
strand-run b bs (h, t) =
    let count : 1 + length bs ≡ suc (length bs) = omega arith in
    order-run (b ∷ bs)
    ∙ rw count at (longest-more _ _ _ (bases-more bs t 1 (1 * 4 + b) _ (first-base b h)) (of_site 3) (lit< tt))

-- and for a word's bytes
pub word-run : (word : List ℕ) → ((i : ℕ) → get_or word i 0 < 256) → 0 < length word
    → longest_run (word_bases word) ≡ suc (longest_row (4 * length word + 1) (matches (4 * length word + 1) (number_after 1 word * 4 + 3)))
unfolding word_bases byte_bases
word-run [] l some = absurd (let z : ⊥ = omega arith in z)
word-run (b ∷ bs) l some =
    let count : 4 * suc (length bs) + 1 ≡ suc (suc (suc (suc (suc (length (word_bases bs)))))) = omega (arith, bases-length bs) in
    rw (count, word-bases 1 (b ∷ bs) l) (strand-run (b / 64 % 4) _ (are-bases (b ∷ bs)))
