-- `facch_write::head_size` meets its contract. Assumes nothing.
use mathlib.Core.Path.{sym, ◌∙◌}
use borrow.Author.Tests.{not-true, not-false}
use Rattle.call.proofs.Put.{call-short}
use Rattle.facch_write.proofs.Placing.{head-call, head-paged}
use Rattle.facch_write.proofs.Records.{right, call-right, page_nine}
use native.Mathlib.Omega.{arith}
use Rattle.facch_write.proofs.head_size.Goals as goal

pub overflow_add-result : goal.overflow_add-result
overflow_add-result c =
    let t = right c.args.m c.requires in
    omega (arith, c.size.ensures, call-short c.args.m.call (call-right c.args.m t (not-true c.args.m.paging c.if-not-m.true)))

pub returns-then-not-m : goal.returns-then-not-m
returns-then-not-m c =
    let f = not-true c.args.m.paging c.if-not-m.true in
    let s = call-short c.args.m.call (call-right c.args.m (right c.args.m c.requires) f) in
    (omega (arith, c.size.ensures, head-call c.args.m f), omega (arith, c.size.ensures, s))

pub returns-then-m : goal.returns-then-m
returns-then-m c =
    let f = not-false c.args.m.paging c.if-not-m.false in
    let k = page_nine c.args.m (right c.args.m c.requires) f in
    (sym (head-paged c.args.m f k.0 ∙ rw c.if-m.true), omega (arith, k.1))

pub returns : goal.returns
returns c =
    let f = not-false c.args.m.paging c.if-not-m.false in
    let k = page_nine c.args.m (right c.args.m c.requires) f in
    (sym (head-paged c.args.m f k.0 ∙ rw c.if-m.false (omega arith)), omega (arith, k.1))
