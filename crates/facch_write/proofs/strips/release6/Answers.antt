-- `facch_write::strips::release6` meets its contract. Assumes nothing.
use borrow.Author.Tests.{not-true, not-false}
use Rattle.csn1.specs.Grammar.{format}
use Rattle.csn1.proofs.Writing.{byte_lt}
use Rattle.facch.specs.Message.{release6}
use Rattle.facch.specs.Back.{release6_value}
use Rattle.facch_write.proofs.Widths.{says-absent, counts_lt, rand_lt, counts_beside, six-beside, six-said}
use native.Mathlib.Omega.{arith}
use Rattle.facch_write.proofs.strips.release6.Goals as goal

pub returns-then-not-r : goal.returns-then-not-r
returns-then-not-r c =
    let a = c.args in
    rw c.absent.ensures
    (says-absent (format release6) a.at a.end a.r.hasRelease (release6_value a.r) (not-true a.r.hasRelease c.if-not-r.true))

pub overflow_cast-r-2 : goal.overflow_cast-r-2
overflow_cast-r-2 c = omega (arith, byte_lt c.args.r.b22)

pub overflow_add-r : goal.overflow_add-r
overflow_add-r c = omega (arith, byte_lt c.args.r.b22)

pub flagged-count-requires : goal.flagged-count-requires
flagged-count-requires c = (omega arith, counts_lt c.args.r c.requires)

pub flagged-rand-requires : goal.flagged-rand-requires
flagged-rand-requires c = (omega arith, rand_lt c.args.r c.requires)

pub beside-requires : goal.beside-requires
beside-requires c =
    counts_beside c.args.r c.requires c.args.at c.args.end c.flagged-count.result c.flagged-rand.result c.coded.result c.flagged-count.ensures c.flagged-rand.ensures c.coded.ensures

pub beside-requires-2 : goal.beside-requires-2
beside-requires-2 c =
    six-beside c.args.r c.requires c.args.at c.args.end c.flagged-count.result c.flagged-rand.result c.coded.result c.flagged-count.ensures c.flagged-rand.ensures c.coded.ensures
    c.beside.result c.beside.ensures

pub returns : goal.returns
returns c =
    six-said c.args.r c.requires c.args.at c.args.end c.flagged-count.result c.flagged-rand.result c.coded.result c.flagged-count.ensures c.flagged-rand.ensures c.coded.ensures
    c.beside.result c.beside.ensures
    (not-false c.args.r.hasRelease c.if-not-r.false) c.beside-2.result c.beside-2.ensures
