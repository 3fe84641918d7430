-- Document 01, "Check bytes, letters, screen": the screen, its runs as document 02, Item 1, has them, and what it
-- answers as Item 12 does. Assumes nothing.
use Rattle.std.specs.Prelude.{Bool, true, false, cond, ◌&&◌, ◌||◌, ℕ, suc, ◌+◌, ◌*◌, max, eqb, leb, length}
use mathlib.Core.List.{List, [], ◌∷◌, ◌++◌, map, foldl}
use Rattle.droplet.specs.declared.card.Card.{Card}
use Rattle.screen.specs.declared.screen.Measure.{Measure}
use Rattle.screen.specs.declared.limits.Verdict.{Verdict}
use Rattle.screen.specs.declared.limits.Verdict.TheVariants.{Passes, LongRun, GcAlone}
use Rattle.screen.specs.Letters.{byte_bases, word_bases, letters_bases}
use Rattle.screen.specs.Sites.{site_before, site_after}

-- a base of the order that goes to synthesis, the strand's or a site's
pub data OrderBase : Type 0 where
  of_strand : ℕ → OrderBase
  of_site : ℕ → OrderBase

abbrev pub base_of : OrderBase → ℕ
base_of (of_strand b) = b
base_of (of_site b) = b

abbrev pub is_strands : OrderBase → Bool
is_strands (of_strand b) = true
is_strands (of_site b) = false

-- the order for a strand's bases: "annealing sites .. before the strand and .. after it"
unfoldable pub order_of : List ℕ → List OrderBase
order_of bases = map of_site (letters_bases site_before) ++ (map of_strand bases ++ map of_site (letters_bases site_after))

-- a maximal run of the order: its base, its length, and whether "at least one of its bases belongs to the strand"
pub data BaseRun : Type 0 where
  base_run : ℕ → ℕ → Bool → BaseRun

-- the runs with one base more, the last run first: a base goes on with that run if it is equal, and otherwise begins another
unfoldable pub with_base : List BaseRun → OrderBase → List BaseRun
with_base [] x = base_run (base_of x) 1 (is_strands x) ∷ []
with_base (base_run b n own ∷ runs) x =
    cond (eqb (base_of x) b) (base_run b (suc n) (own || is_strands x) ∷ runs) (base_run (base_of x) 1 (is_strands x) ∷ (base_run b n own ∷ runs))

-- the longest of the runs that count
unfoldable pub longest_of : List BaseRun → ℕ
longest_of [] = 0
longest_of (base_run b n own ∷ runs) = max (cond own n 0) (longest_of runs)

-- "a run counts if at least one of its bases belongs to the strand, and it is counted through the sites" (document 02, Item 1)
unfoldable pub longest_run : List ℕ → ℕ
longest_run bases = longest_of (foldl with_base [] (order_of bases))

-- how many bases of a list are C or G
unfoldable pub gc_count : List ℕ → ℕ
gc_count [] = 0
gc_count (b ∷ bs) = cond (eqb b 1) 1 (cond (eqb b 2) 1 0) + gc_count bs

-- "How many of a byte's four bases are C or G"
unfoldable pub byte_gc : ℕ → ℕ
byte_gc b = gc_count (byte_bases b)

-- "The screen now answers with the longest run and the C and G count" (document 02, Item 12)
unfoldable pub measure_of : List ℕ → Measure
measure_of word = let bases = word_bases word in record { longest = longest_run bases; gc = gc_count bases }

-- "its callers compare": "no run of one base is longer than m and lo·n ≤ 1000·g ≤ hi·n", over the measure of n bases, and where that
-- is not so, why the strand is dropped: "for a run", or "for GC alone"
unfoldable pub verdict : Card → Measure → ℕ → Verdict
verdict c measure n =
    let g = measure.gc in
    cond (leb measure.longest c.m) (cond (leb (c.lo * n) (1000 * g) && leb (1000 * g) (c.hi * n)) Passes GcAlone) LongRun

unfoldable pub word_verdict : Card → List ℕ → Verdict
word_verdict c word = verdict c (measure_of word) (length (word_bases word))

-- whether a verdict is this one
abbrev pub is : Verdict → Verdict → Bool
is Passes Passes = true
is LongRun LongRun = true
is GcAlone GcAlone = true
is Passes LongRun = false
is Passes GcAlone = false
is LongRun Passes = false
is LongRun GcAlone = false
is GcAlone Passes = false
is GcAlone LongRun = false

-- "The screen passes"
unfoldable pub screen_passes : Card → List ℕ → Bool
screen_passes c word = is Passes (word_verdict c word)
