-- `check_plan` meets its contract: right sizes give a count of segments, and right weights are few. Assumes nothing.
use Rattle.std.proofs.Common.{◌≡◌, ◌≤◌, sym, ◌∙◌, arith, rules, true}
use Rattle.std.proofs.lemmas.Bool.Decides.{nat_tests}
use Rattle.droplet.specs.PoolCard.{weight_count}
use Rattle.droplet.specs.Questions.{degrees_right}
use Rattle.droplet.proofs.LegalCard.{sizes-true}
use Rattle.droplet.proofs.card.check_plan.Goals as goal

pub segment_count-segments-requires : goal.segment_count-segments-requires
segment_count-segments-requires c =
    let sizes = sizes-true c.args.card (sym c.sizes_right.ensures ∙ c.if-not-sizes_right.false) in
    (sizes.l-least, sizes.f-most)

pub overflow_cast-result : goal.overflow_cast-result
overflow_cast-result c =
    let right : degrees_right c.segment_count-segments.result c.args.weights.now ≡ true = grind arith in
    let few : weight_count c.args.weights.now ≤ 1024 = grind (arith, nat_tests) in
    search rules
