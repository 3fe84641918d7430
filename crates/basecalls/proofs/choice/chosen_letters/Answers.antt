-- `chosen_letters` meets its contract: the middle of the call that was chosen, or an empty part. Assumes nothing.
use mathlib.Core.Path.{sym, ap, ◌∙◌}
use native.Mathlib.Omega.{arith}
use borrow.Author.Rules.{rules}
use Rattle.std.proofs.Common.{Ok}
use Rattle.basecalls.specs.TwoCallers.{choice_of}
use Rattle.basecalls.proofs.Choices.{first-chosen, second-chosen}
use Rattle.basecalls.proofs.choice.chosen_letters.Goals as goal

pub middle-requires : goal.middle-requires
middle-requires c =
    let chosen = sym c.choose_call.ensures ∙ ap choice_of (c.in-Ok-First.is ∙ ap Ok c.in-Ok-First.field-0-is) in
    omega (arith, (first-chosen _ _ _ _ chosen).passes.long, c.strand_bases.ensures.0)

pub middle-requires-in-Ok-Second : goal.middle-requires-in-Ok-Second
middle-requires-in-Ok-Second c =
    let chosen = sym c.choose_call.ensures ∙ ap choice_of (c.in-Ok-Second.is ∙ ap Ok c.in-Ok-Second.field-0-is) in
    omega (arith, (second-chosen _ _ _ _ chosen).passes.long, c.strand_bases-in-Ok-Second.ensures.0)

pub returns-in-Ok-First : goal.returns-in-Ok-First
returns-in-Ok-First c =
    let chosen = sym c.choose_call.ensures ∙ ap choice_of (c.in-Ok-First.is ∙ ap Ok c.in-Ok-First.field-0-is) in
    rw (chosen, sym c.strand_bases.ensures.0) c.middle.ensures

pub returns-in-Ok-Second : goal.returns-in-Ok-Second
returns-in-Ok-Second c =
    let chosen = sym c.choose_call.ensures ∙ ap choice_of (c.in-Ok-Second.is ∙ ap Ok c.in-Ok-Second.field-0-is) in
    rw (chosen, sym c.strand_bases-in-Ok-Second.ensures.0) c.middle-in-Ok-Second.ensures

pub returns-in-Err : goal.returns-in-Err
returns-in-Err c =
    let chosen = sym c.choose_call.ensures ∙ ap choice_of c.in-Err.is in
    rw chosen (record { block = search rules; place = search rules; letters = search rules })
