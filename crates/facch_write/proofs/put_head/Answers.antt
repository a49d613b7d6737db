-- `facch_write::put_head` meets its contract. Assumes nothing.
use mathlib.Core.Path.{ap, ◌∙◌}
use mir.Val.{bool_byte}
use Rattle.pen.specs.Words.{whole, whole_after}
use Rattle.pen.proofs.Numbers.{put_whole}
use Rattle.pen.proofs.CallBits.{right-fits, call-written}
use Rattle.facch_write.proofs.Placing.{call_put, paged_put}
use Rattle.facch_write.proofs.Records.{right, call-right, page_right}
use native.Mathlib.Omega.{arith}
use Rattle.facch_write.proofs.put_head.Goals as goal

pub put_page-requires : goal.put_page-requires
put_page-requires c =
    page_right c.args.m (right c.args.m c.requires) c.if-m.true

pub returns-then-m : goal.returns-then-m
returns-then-m c =
    let x = bool_byte c.args.m.paging in
    let e = put_whole c.none.result c.put-w.result 9 x (omega arith) c.put-w.ensures ∙ ap (λ w. whole_after (whole w) 9 x) c.none.ensures in
    paged_put c.args.m (whole c.put-w.result) (whole c.put_page.result) e c.if-m.true c.put_page.ensures

pub returns : goal.returns
returns c =
    let x = bool_byte c.args.m.paging in
    let e = put_whole c.none.result c.put-w.result 9 x (omega arith) c.put-w.ensures ∙ ap (λ w. whole_after (whole w) 9 x) c.none.ensures in
    let f = c.if-m.false in
    call_put c.args.m (whole c.put-w.result) (whole c.put.result) e f
    (call-written c.put-w.result c.put.result c.args.m.call c.put.ensures (right-fits c.args.m.call (call-right c.args.m (right c.args.m c.requires) f)))
