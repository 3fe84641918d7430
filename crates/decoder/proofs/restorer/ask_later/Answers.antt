-- `ask_later` meets its contract: where the count fits, the first records are those of the store. Assumes nothing.
use mathlib.Core.Path.{sym, ◌∙◌}
use borrow.Author.Tests.{leb-true}
use Rattle.decoder.specs.Restorer.{later_refusal}
use Rattle.decoder.proofs.SeedZero.{seed_in-first}
use Rattle.decoder.proofs.restorer.ask_later.Goals as goal

pub first_records-requires : goal.first_records-requires
first_records-requires c = (c.requires.0, leb-true _ _ (sym c.if-not-count_fits.ensures))

pub returns-then-has_seed_zero : goal.returns-then-has_seed_zero
unfolding later_refusal
returns-then-has_seed_zero c =
    let x = c.args in
    let same = seed_in-first x.l 0 x.count x.store.now _ (leb-true _ _ (sym c.if-not-count_fits.ensures)) c.first_records.ensures in
    rw (sym c.if-not-count_fits.ensures, sym (c.has_seed_zero.ensures ∙ same) ∙ c.if-has_seed_zero.true)

pub returns : goal.returns
unfolding later_refusal
returns c =
    let x = c.args in
    let same = seed_in-first x.l 0 x.count x.store.now _ (leb-true _ _ (sym c.if-not-count_fits.ensures)) c.first_records.ensures in
    rw (sym c.if-not-count_fits.ensures, sym (c.has_seed_zero.ensures ∙ same) ∙ c.if-has_seed_zero.false) c.ask_room.ensures
