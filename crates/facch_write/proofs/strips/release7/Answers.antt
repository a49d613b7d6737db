-- `facch_write::strips::release7` meets its contract. Assumes nothing.
use borrow.Author.Tests.{not-true, not-false}
use Rattle.csn1.specs.Grammar.{format}
use Rattle.csn1.proofs.Writing.{byte_lt}
use Rattle.facch.specs.Message.{release7}
use Rattle.facch.specs.Back.{release7_value}
use Rattle.facch_write.proofs.Widths.{says-absent, cause_lt, cause_beside, emergency-beside, seven-beside, seven-said}
use native.Mathlib.Omega.{arith}
use Rattle.facch_write.proofs.strips.release7.Goals as goal

pub returns-then-not-r : goal.returns-then-not-r
returns-then-not-r c =
    let a = c.args in
    rw c.absent.ensures
    (says-absent (format release7) a.at a.end a.r.hasRelease (release7_value a.r) (not-true a.r.hasRelease c.if-not-r.true))

pub overflow_cast-r : goal.overflow_cast-r
overflow_cast-r c = omega (arith, byte_lt c.args.r.cause)

pub flagged-cause-requires : goal.flagged-cause-requires
flagged-cause-requires c = let a = c.args in (omega arith, cause_lt a.r a.at a.end)

pub beside-requires : goal.beside-requires
beside-requires c =
    let a = c.args in
    cause_beside a.r a.at a.end c.coded-uplink.result c.coded-emergency.result c.coded.result c.flagged-cause.result c.coded-uplink.ensures c.coded-emergency.ensures c.coded.ensures
    c.flagged-cause.ensures

pub beside-requires-2 : goal.beside-requires-2
beside-requires-2 c =
    let a = c.args in
    emergency-beside a.r a.at a.end c.coded-uplink.result c.coded-emergency.result c.coded.result c.flagged-cause.result c.coded-uplink.ensures c.coded-emergency.ensures c.coded.ensures
    c.flagged-cause.ensures
    c.beside.result c.beside.ensures

pub beside-requires-3 : goal.beside-requires-3
beside-requires-3 c =
    let a = c.args in
    seven-beside a.r a.at a.end c.coded-uplink.result c.coded-emergency.result c.coded.result c.flagged-cause.result c.coded-uplink.ensures c.coded-emergency.ensures c.coded.ensures
    c.flagged-cause.ensures
    c.beside.result c.beside.ensures c.beside-2.result c.beside-2.ensures

pub returns : goal.returns
returns c =
    let a = c.args in
    seven-said a.r a.at a.end c.coded-uplink.result c.coded-emergency.result c.coded.result c.flagged-cause.result c.coded-uplink.ensures c.coded-emergency.ensures c.coded.ensures
    c.flagged-cause.ensures
    c.beside.result c.beside.ensures c.beside-2.result c.beside-2.ensures
    (not-false a.r.hasRelease c.if-not-r.false) c.beside-3.result c.beside-3.ensures
