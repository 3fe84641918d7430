-- `check_letters` meets its contract: the word that is checked is the one that the letters spell. Assumes nothing.
use mathlib.Core.Path.{◌≡◌, sym, ◌∙◌}
use mathlib.Core.List.{List}
use Prim.Native.Nat.{ℕ, ◌*◌}
use native.Mathlib.Omega.{arith}
use lib.ListN.{length}
use Rattle.droplet.specs.declared.card.Card.{Card}
use Rattle.droplet.specs.PoolCard.{strand_bytes}
use Rattle.strand.specs.Loops.{IsWord}
use Rattle.strand.proofs.ReadingCases.{case-10, case-word}
use Rattle.strand.proofs.read_check.check_letters.Goals as goal

in-bases : (card : Card) (word read : List ℕ) → IsWord card word → length read ≡ 4 * length word → length read ≡ strand_bytes card * 4
in-bases card word read is same = omega (arith, is.long)

pub returns-then-not-read_letters : goal.returns-then-not-read_letters
returns-then-not-read_letters c =
    let n = in-bases _ _ c.args.read.now c.requires.0 c.requires.1 in
    record { says = rw (case-10 c.args.card c.args.read.now n (sym c.read_letters.ensures.value ∙ c.if-not-read_letters.true)) }

pub returns : goal.returns
returns c =
    let all = c.if-not-read_letters.false in
    let n = in-bases _ _ c.args.read.now c.requires.0 c.requires.1 in
    let spelt = rw (c.read_letters.ensures.word_after all) at c.check_word.ensures in
    rw (case-word c.args.card c.args.read.now n (sym c.read_letters.ensures.value ∙ all)) spelt
