-- The runs of an order, a base more at a time, and what the two sites add to those of the strand: of the first one only its last base,
-- of the second one only its first. Assumes nothing.
use mathlib.Core.Path.{◌≡◌, refl, sym, ap, ◌∙◌}
use mathlib.Core.Bool.{Bool, true, false, cond, ◌||◌}
use mathlib.Core.Logic.{inl, inr}
use mathlib.Core.List.{List, [], ◌∷◌, ◌++◌, map, foldl, foldl-append}
use Prim.Native.Nat.{ℕ, suc, max}
use native.Mathlib.Nat.{zero-max}
use native.Mathlib.Omega.{arith}
use borrow.Author.Tests.{eqb-true}
use lib.Dec.{eqb}
use lib.ListN.{drop}
use Rattle.field.proofs.Tests.{either}
use Rattle.screen.specs.Letters.{text_letters, letter_bits, letters_bases}
use Rattle.screen.specs.Sites.{site_before, site_after}
use Rattle.screen.specs.Screen.{OrderBase, of_strand, of_site, base_of, is_strands, BaseRun, base_run, with_base, longest_of, order_of, longest_run}

-- a base makes the last run longer, if it is equal, or is a run of its own
pub one_more : (p own : Bool) (b c n longest : ℕ) (runs : List BaseRun) → longest_of (base_run c (suc n) true ∷ runs) ≡ suc longest
    → longest_of (cond p (base_run c (suc (suc n)) true ∷ runs) (base_run b 1 own ∷ (base_run c (suc n) true ∷ runs)))
    ≡ suc (max longest (cond p (suc n) 0))
unfolding longest_of
one_more true own b c n longest runs e = omega arith
one_more false true b c n longest runs e = omega arith
one_more false false b c n longest runs e = omega arith

-- it is the last base of the last run then
pub last-run : (runs : List BaseRun) (x : OrderBase)
    → (n : ℕ) × ((own : Bool) × ((earlier : List BaseRun) × (with_base runs x ≡ base_run (base_of x) (suc n) (own || is_strands x) ∷ earlier)))
unfolding with_base
last-run [] x = (0, (false, ([], refl)))
last-run (base_run b n own ∷ runs) x =
    elim (either (eqb (base_of x) b)) [
      | inl e ↦ (n, (own, (runs, rw (e, eqb-true (base_of x) b e))))
      | inr e ↦ (0, (false, (base_run b n own ∷ runs, rw e)))
    ]

-- the runs of the first site, and those before the last of them
first_runs : List BaseRun
first_runs = foldl with_base [] (map of_site (letters_bases site_before))

pub earlier_runs : List BaseRun
unfolding first_runs
earlier_runs = drop 1 first_runs

-- the last one is one C
ends-with-c : first_runs ≡ base_run 1 1 false ∷ earlier_runs
unfolding first_runs earlier_runs with_base text_letters letter_bits letters_bases site_before
ends-with-c = refl

-- and none of the others counts
pub none-counts : longest_of earlier_runs ≡ 0
unfolding first_runs earlier_runs with_base longest_of text_letters letter_bits letters_bases site_before
none-counts = refl

-- the second site's first base is T, and the next one differs from it
abbrev after_t : List OrderBase
after_t = drop 1 (map of_site (letters_bases site_after))

starts-with-t : map of_site (letters_bases site_after) ≡ of_site 3 ∷ after_t
unfolding text_letters letter_bits letters_bases site_after
starts-with-t = refl

-- so that no run goes on behind it, and those that begin there do not count
behind-t : (n : ℕ) (own : Bool) (runs : List BaseRun)
    → longest_of (foldl with_base (base_run 3 n own ∷ runs) after_t) ≡ longest_of (base_run 3 n own ∷ runs)
unfolding with_base longest_of text_letters letter_bits letters_bases site_after
behind-t n own runs = simp zero-max refl

second-site : (runs : List BaseRun) → longest_of (foldl with_base runs (map of_site (letters_bases site_after))) ≡ longest_of (with_base runs (of_site 3))
second-site runs =
    let last = last-run runs (of_site 3) in
    let e = last.1.1.1 in
    ap (λ xs. longest_of (foldl with_base runs xs)) starts-with-t ∙ ap (λ rs. longest_of (foldl with_base rs after_t)) e
    ∙ behind-t _ _ last.1.1.0 ∙ ap longest_of (sym e)

-- the longest run, from the first site's last base to the second one's first
pub order-run : (bases : List ℕ)
    → longest_run bases ≡ longest_of (with_base (foldl with_base (base_run 1 1 false ∷ earlier_runs) (map of_strand bases)) (of_site 3))
unfolding longest_run order_of first_runs
order-run bases =
    let strand = map of_strand bases in
    let site = map of_site (letters_bases site_after) in
    rw (foldl-append with_base [] (map of_site (letters_bases site_before)) (strand ++ site), ends-with-c)
    (rw (foldl-append with_base (base_run 1 1 false ∷ earlier_runs) strand site) (second-site _))
