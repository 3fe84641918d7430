-- `put_matches`: a turn writes the flags that waited, and the last write puts those of the word's end. Assumes nothing.
use mathlib.Core.Path.{◌≡◌, refl, sym, ap, ◌∙◌}
use mathlib.Core.List.{List}
use Prim.Native.Nat.{ℕ, suc, ◌+◌, ◌*◌, ◌/◌, ◌%◌, ◌^◌, ◌<◌, ◌≤◌, zero-le}
use native.Mathlib.Nat.{le_refl}
use native.Mathlib.Omega.{arith}
use lib.ListN.{length, length-set, set, take, drop, take-append-drop, drop_of_length-le}
use lib.Seq.{take_all, length-take-le}
use Rattle.screen.specs.Loops.{number_after, chunks_number, low_bits, gc_in, matches, MatchesOf}
use Rattle.screen.proofs.PackedBases.{gc-more, matches-more, gc-few, number_append}
use Rattle.screen.proofs.Chunks.{chunks-set}
use borrow.Author.Rules.{rules}
use Rattle.screen.proofs.screen.put_matches.Invariants.{Stands, flags_of}
use Rattle.screen.proofs.screen.put_matches.Goals as goal

-- the first bytes, fewer than eight
started : (word : List ℕ) (before : ℕ) (chunks : List ℕ) (n mask g : ℕ) → length chunks ≡ length word / 8 + 1
    → n ≡ number_after before (take (length word % 8) word) → n < 2 ^ 62 → mask ≡ low_bits (4 * (length word % 8)) → g ≡ gc_in (4 * (length word % 8)) n
    → Stands word before chunks g n (mask * 4 + 1) 0
unfolding chunks_number low_bits
started word before chunks n mask g r e l f h =
    let rest = length word % 8 in
    let none : rest + 0 ≡ rest = omega arith in
    let more : 4 * rest + 1 ≡ suc (4 * rest) = omega arith in
    let whole : n % 2 ^ 62 ≡ n = omega arith in
    record {
      number = n;
      width = suc (4 * rest);
      at_most = zero-le;
      room = r;
      leads =
          rw (none, e) (number_append before (take rest word) (drop rest word) ∙ ap (number_after before) (take-append-drop rest word));
      masks = rw f;
      flags = λ t b. let up : (n * 4 + t) / 4 ≡ n = omega arith in rw (none, more, whole, up) (omega arith);
      counts = rw none h;
    }

module _ (word : List ℕ) (before : ℕ) (chunks : List ℕ) (gc last mask k : ℕ) (now : Stands word before chunks gc last mask k) where
  -- the flags that waited, with the base that comes next
  written : (t v : ℕ) → t < 4 → v ≡ flags_of now.width last t
      → chunks_number (take (k + 1) (set chunks k v)) ≡ matches (4 * (length word % 8 + k * 8) + 1) (now.number * 4 + t)
  written t v b f = chunks-set chunks k v (omega (arith, now.room, now.at_most)) ∙ rw f (now.flags t b)

  turned : (x v g : ℕ) → k < length word / 8 → x < 2 ^ 64
      → ((n : ℕ) → number_after n (drop (length word % 8 + k * 8) word) ≡ number_after (n * 2 ^ 64 + x) (drop (length word % 8 + k * 8 + 8) word))
      → v ≡ flags_of now.width last (x / 2 ^ 62) → g ≡ gc_in 32 x
      → Stands word before (set chunks k v) (gc + g) x (low_bits 32) (k + 1)
  turned x v g h b eight f e =
      let i = length word % 8 + k * 8 in
      let n = now.number in
      let next : length word % 8 + (k + 1) * 8 ≡ i + 8 = omega arith in
      let bases : 4 * (i + 8) ≡ 4 * i + 32 = omega arith in
      let all : 4 * i + 32 + 1 ≡ 4 * i + 1 + 32 = omega arith in
      record {
        number = n * 2 ^ 64 + x;
        width = 32;
        at_most = omega arith;
        room = length-set chunks k v ∙ now.room;
        leads = rw next (sym (eight n) ∙ now.leads);
        masks = refl;
        flags = λ t l. rw (next, bases, all, written (x / 2 ^ 62) v (omega arith) f) (sym (matches-more (4 * i + 1) n x t b l));
        counts = rw (next, bases, gc-more (4 * i) 32 n x b, e, now.counts);
      }

  few : gc ≤ 4 * (length word % 8 + k * 8)
  few = rw now.counts (gc-few _ now.number)

  finished : (after v : ℕ) → length word / 8 ≤ k → after < 4 → v ≡ flags_of now.width last after → MatchesOf before word after gc (set chunks k v)
  unfolding number_after
  finished after v h b f =
      let all : length word % 8 + k * 8 ≡ length word = omega (arith, now.at_most) in
      let whole : take (k + 1) (set chunks k v) ≡ set chunks k v = take_all (k + 1) _ (simp length-set (omega (arith, now.room))) in
      let number : now.number ≡ number_after before word = rw (all, drop_of_length-le word (le_refl (length word))) at now.leads in
      record {
        flags = rw (whole, all, number) at (written after v b f);
        counts = rw (all, number) at now.counts;
      }

pub loop-k-init : goal.loop-k-init
loop-k-init c =
    let w = c.args.word.now in
    let front = c.front_of-front in
    let rest : length (take (length w % 8) w) ≡ length w % 8 = length-take-le _ w (omega arith) in
    let mask = rw rest at front.ensures.number_value.1 in (
      refl,
      refl,
      started w c.args.before c.args.matches.now front.result.number front.result.mask c.gc_of-gc.result
          c.requires.1 front.ensures.number_value.0 front.ensures.number_bound.0 mask (c.gc_of-gc.ensures (4 * (length w % 8)) (omega (arith, mask))),
    )

pub overflow_add-gc : goal.overflow_add-gc
unfolding low_bits
overflow_add-gc c =
    let l = c.loop-k in
    omega (
      arith,
      few _ _ l.matches l.gc l.last l.mask l.k l.invariant.2,
      c.gc_of.ensures 32 refl,
      gc-few 32 c.eight_at-bases.result,
    )

pub loop-k-preserved : goal.loop-k-preserved
unfolding low_bits
loop-k-preserved c =
    let l = c.loop-k in
    let x = c.eight_at-bases in
    let flags = c.matches_of in
    let waited = flags.ensures l.invariant.2.width l.invariant.2.masks in (
      refl,
      refl,
      turned _ _ l.matches l.gc l.last l.mask l.k l.invariant.2 x.result flags.result _ (omega arith) (search rules) x.ensures
          (rw c.followed.ensures at waited) (c.gc_of.ensures 32 refl),
    )

pub returns : goal.returns
returns c =
    let l = c.loop-k in
    let after = c.args.after in
    let end : l.k ≡ length c.args.word.now / 8 = omega arith in
    let next : after * 2 ^ 62 % 2 ^ 64 / 2 ^ 62 ≡ after = omega (arith, c.requires.3) in
    let waited = c.matches_of-2.ensures l.invariant.2.width (omega (arith, l.invariant.2.masks)) in
    finished _ _ l.matches l.gc l.last l.mask _ (rw end at l.invariant.2) after _ (omega arith) c.requires.3
    (rw (c.followed-2.ensures, next) at waited)
