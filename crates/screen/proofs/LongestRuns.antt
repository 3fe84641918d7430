-- The longest run of an order is as long as the longest row of equal bases that has one of the strand's. Assumes nothing.
use mathlib.Core.Path.{◌≡◌, refl, sym, ap, ◌∙◌}
use mathlib.Core.Bool.{Bool, true, false, cond, ◌||◌, or-false, or-true, or_assoc}
use mathlib.Core.List.{List, [], ◌∷◌, ◌++◌, map, foldl, foldl-append, append_assoc, append-nil}
use mathlib.Core.Logic.{inl, inr}
use Prim.Native.Nat.{ℕ, suc, max, ◌+◌, ◌<◌, ◌≤◌, zero-le}
use native.Mathlib.Nat.{le_refl, le_trans, le-max_right, max-eq_left}
use native.Mathlib.Omega.{arith}
use borrow.Author.Tests.{eqb-true, eq-eqb, leb-true, leb-false}
use lib.Dec.{eqb, leb}
use lib.ListN.{length, length-append}
use Rattle.field.specs.Bytes.{All}
use Rattle.field.proofs.ByteLists.{all_append}
use Rattle.field.proofs.Tests.{either}
use Rattle.screen.specs.Letters.{letters_bases}
use Rattle.screen.specs.Sites.{site_before, site_after}
use Rattle.screen.specs.Screen.{OrderBase, of_strand, of_site, base_of, is_strands, BaseRun, base_run, with_base, longest_of, order_of, longest_run}
use Rattle.screen.specs.LongestRun.{any_strands, InARow, LongestIs}
use Rattle.screen.proofs.OrderRuns.{last-run}

-- ---- no row is longer

-- a run that becomes longer still counts
grows : (own s : Bool) (n m : ℕ) → max (cond own n 0) m ≤ max (cond (own || s) (suc n) 0) m
grows true s n m = omega arith
grows false true n m = omega arith
grows false false n m = le_refl _

-- no base makes the longest run shorter
keeps-one : (runs : List BaseRun) (x : OrderBase) → longest_of runs ≤ longest_of (with_base runs x)
unfolding with_base longest_of
keeps-one [] x = zero-le
keeps-one (base_run b n own ∷ runs) x =
    elim (either (eqb (base_of x) b)) [ inl e ↦ rw e (grows own (is_strands x) n (longest_of runs)) | inr e ↦ rw e (le-max_right _ _) ]

keeps : (xs : List OrderBase) (runs : List BaseRun) → longest_of runs ≤ longest_of (foldl with_base runs xs)
keeps [] runs = le_refl _
keeps (x ∷ xs) runs = le_trans (keeps-one runs x) (keeps xs (with_base runs x))

-- a run goes on through a row of its base
goes_on : (b n : ℕ) (own : Bool) (runs : List BaseRun) (row : List OrderBase) → All (λ x. base_of x ≡ b) row
    → (own || any_strands row) ≡ true → n + length row ≤ longest_of (foldl with_base (base_run b n own ∷ runs) row)
unfolding with_base longest_of any_strands
goes_on b n own runs [] h e = let own-counts = rw (or-false own) at e in rw own-counts (omega arith)
goes_on b n own runs (x ∷ xs) (h, t) e =
    let more : n + suc (length xs) ≡ suc n + length xs = omega arith in
    rw (eq-eqb (base_of x) b h, more) (goes_on b (suc n) (own || is_strands x) runs xs t (or_assoc own (is_strands x) (any_strands xs) ∙ e))

row-most : (row : List OrderBase) (b : ℕ) (runs : List BaseRun) → All (λ x. base_of x ≡ b) row → any_strands row ≡ true
    → length row ≤ longest_of (foldl with_base runs row)
unfolding any_strands
row-most [] b runs h e = zero-le
row-most (x ∷ xs) b runs (h, t) e =
    let last = last-run runs x in
    let n = last.0 in
    let own = last.1.0 in
    let counts = or_assoc own (is_strands x) (any_strands xs) ∙ ap (λ s. own || s) e ∙ or-true own in
    rw (last.1.1.1, h) (le_trans {m = suc n + length xs} (omega arith) (goes_on b (suc n) (own || is_strands x) last.1.1.0 xs t counts))

none-longer : (order row : List OrderBase) → InARow order row → length row ≤ longest_of (foldl with_base [] order)
none-longer order row r =
    let front = foldl with_base [] r.before in
    rw (r.stands, foldl-append with_base [] r.before (row ++ r.after), foldl-append with_base front row r.after)
    (le_trans (row-most row r.base front r.equal r.counts) (keeps r.after (foldl with_base front row)))

-- ---- one is as long

-- the last bases of an order, behind its front, are a run
record Ends (front order : List OrderBase) (b n : ℕ) (own : Bool) : Type 0 where
  row : List OrderBase
  cut : order ≡ front ++ row
  equal : All (λ x. base_of x ≡ b) row
  long : length row ≡ n
  counts : any_strands row ≡ own

-- the runs of an order, one behind the other
Runs : List OrderBase → List BaseRun → Type 0
Runs order [] = order ≡ []
Runs order (base_run b n own ∷ runs) = (front : List OrderBase) × (Ends front order b n own × Runs front runs)

any_snoc : (row : List OrderBase) (x : OrderBase) → any_strands (row ++ (x ∷ [])) ≡ (any_strands row || is_strands x)
unfolding any_strands
any_snoc [] x = or-false (is_strands x)
any_snoc (y ∷ row) x = ap (λ s. is_strands y || s) (any_snoc row x) ∙ sym (or_assoc (is_strands y) (any_strands row) (is_strands x))

-- a base alone
alone : (order : List OrderBase) (x : OrderBase) → Ends order (order ++ (x ∷ [])) (base_of x) 1 (is_strands x)
unfolding any_strands
alone order x = record { row = x ∷ []; cut = refl; equal = (refl, tt); long = refl; counts = or-false (is_strands x) }

one-more-run : (order : List OrderBase) (runs : List BaseRun) (x : OrderBase) → Runs order runs → Runs (order ++ (x ∷ [])) (with_base runs x)
unfolding Runs with_base
one-more-run order [] x h = (order, (alone order x, h))
one-more-run order (base_run b n own ∷ runs) x h =
    elim (either (eqb (base_of x) b)) [
      | inl e ↦
          let end = h.1.0 in
          rw e (
            h.0,
            (
              record {
                row = end.row ++ (x ∷ []);
                cut = rw end.cut (append_assoc h.0 end.row (x ∷ []));
                equal = all_append _ end.row (x ∷ []) end.equal (eqb-true (base_of x) b e, tt);
                long = rw (length-append end.row (x ∷ []), end.long) (omega arith);
                counts = any_snoc end.row x ∙ ap (λ s. s || is_strands x) end.counts;
              },
              h.1.1,
            ),
          )
      | inr e ↦ rw e (order, (alone order x, h))
    ]

all_runs : (xs order : List OrderBase) (runs : List BaseRun) → Runs order runs → Runs (order ++ xs) (foldl with_base runs xs)
all_runs [] order runs h = rw (append-nil order) h
all_runs (x ∷ xs) order runs h = rw (append_assoc order (x ∷ []) xs) at (all_runs xs (order ++ (x ∷ [])) (with_base runs x) (one-more-run order runs x h))

-- a run that counts is such a row
own_row : (front order after : List OrderBase) (b n : ℕ) (own : Bool) → Ends front order b n own → 0 < cond own n 0
    → (row : List OrderBase) × (InARow (order ++ after) row × (length row ≡ cond own n 0))
own_row front order after b n false end h = absurd (let z : ⊥ = omega arith in z)
own_row front order after b n true end h = (
  end.row,
  (
    record {
      before = front;
      after = after;
      base = b;
      stands = rw end.cut (append_assoc front end.row after);
      equal = end.equal;
      counts = end.counts;
    },
    end.long,
  ),
)

longest-row : (runs : List BaseRun) (order after : List OrderBase) → Runs order runs → 0 < longest_of runs
    → (row : List OrderBase) × (InARow (order ++ after) row × (length row ≡ longest_of runs))
unfolding Runs longest_of
longest-row [] order after h some = absurd (let z : ⊥ = omega arith in z)
longest-row (base_run b n own ∷ runs) order after h some =
    let own-length = cond own n 0 in
    let end = h.1.0 in
    elim (either (leb (longest_of runs) own-length)) [
      | inl e ↦
          let most : max own-length (longest_of runs) ≡ own-length = max-eq_left (leb-true _ _ e) in
          rw most (own_row h.0 order after b n own end (rw most at some))
      | inr e ↦
          let l = leb-false (longest_of runs) own-length e in
          let most : max own-length (longest_of runs) ≡ longest_of runs = omega arith in
          let back : order ++ after ≡ h.0 ++ (end.row ++ after) = rw end.cut (append_assoc h.0 end.row after) in
          rw (most, back) (longest-row runs h.0 (end.row ++ after) h.1.1 (rw most at some))
    ]

-- ---- the order of a strand

-- its first base is a row, so that there is one
first-row : (b : ℕ) (bs : List ℕ) → InARow (order_of (b ∷ bs)) (of_strand b ∷ [])
unfolding order_of any_strands
first-row b bs = record {
  before = map of_site (letters_bases site_before);
  after = map of_strand bs ++ map of_site (letters_bases site_after);
  base = b;
  stands = refl;
  equal = (refl, tt);
  counts = refl;
}

longest-met : (bases : List ℕ) → 0 < length bases
    → (row : List OrderBase) × (InARow (order_of bases) row × (length row ≡ longest_run bases))
unfolding longest_run Runs
longest-met [] h = absurd (let z : ⊥ = omega arith in z)
longest-met (b ∷ bs) h =
    let order = order_of (b ∷ bs) in
    rw (append-nil order) at
    (longest-row (foldl with_base [] order) order [] (all_runs order [] [] refl) (none-longer order (of_strand b ∷ []) (first-row b bs)))

pub longest-is : (bases : List ℕ) → LongestIs bases
unfolding longest_run
longest-is bases = record { most = none-longer (order_of bases); met = longest-met bases }
