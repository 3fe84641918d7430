-- `draw_set` meets its contract: the front decides, or the set is drawn whole. Assumes nothing.
use Rattle.droplet.proofs.Bitmap.{marked-none}
use Rattle.decoder.proofs.DrawnFront.{whole-front, whole-several, whole_again}
use borrow.Author.Rules.{rules}
use Rattle.decoder.proofs.restorer.draw_set.Goals as goal

pub draw_front-requires : goal.draw_front-requires
draw_front-requires c = (search rules, search rules, search rules, search rules, search rules, marked-none 0)

pub returns-then-d-le16 : goal.returns-then-d-le16
returns-then-d-le16 c =
    let x = c.args in
    whole-front x.k x.d x.state x.list.now x.marks.now _ _ c.draw_front.ensures

pub draw_front-requires-2 : goal.draw_front-requires-2
draw_front-requires-2 c = (search rules, search rules, search rules, search rules, search rules, marked-none 0)

pub returns-then-eq : goal.returns-then-eq
returns-then-eq c =
    let x = c.args in
    whole-several x.k x.d x.state x.list.now x.marks.now _ 16 _ (search rules) c.draw_front-2.ensures

pub draw_front-requires-3 : goal.draw_front-requires-3
draw_front-requires-3 c = (search rules, search rules, search rules, search rules, search rules, marked-none 2048)

pub returns : goal.returns
returns c =
    let x = c.args in
    whole_again x.k x.d x.state x.list.now x.marks.now _ _ _ c.draw_front-2.ensures.rest c.draw_front-3.ensures
