-- `nch_write::put_amr` meets its contract. Assumes nothing.
use borrow.Author.Tests.{not-true, not-false}
use Rattle.csn1.specs.Format.{num, opt}
use Rattle.csn1.specs.Grammar.{format}
use Rattle.csn1.specs.Told.{there}
use Rattle.csn1.proofs.Holding.{length-num_bits}
use Rattle.nch.specs.Octets.{amr}
use Rattle.nch.specs.Told.{amr_value}
use Rattle.nch_write.proofs.Putting.{inks-both, inks_no, inks_yes}
use native.Mathlib.Omega.{arith}
use Rattle.nch_write.proofs.put_amr.Goals as goal

pub returns-then-not-r : goal.returns-then-not-r
returns-then-not-r c =
    let a = c.args in
    let f = c.put.ensures in
    (inks_no (format amr) a.r.hasAmr (amr_value a.r) (not-true a.r.hasAmr c.if-not-r.true) f, omega (arith, f.next, length-num_bits 1 0))

pub put_flagged-a-requires : goal.put_flagged-a-requires
put_flagged-a-requires c =
    (omega arith, (omega (arith, c.requires.0, c.put-led.ensures.next, length-num_bits 1 1), c.requires.1.0))

pub put_flagged-requires : goal.put_flagged-requires
put_flagged-requires c =
    (omega arith, (omega (arith, c.requires.0, c.put-led.ensures.next, length-num_bits 1 1, c.put_flagged-a.ensures.1), c.requires.1.1))

pub returns : goal.returns
returns c =
    let r = c.args.r in
    let led = c.put-led.ensures in
    let full = c.put_flagged-a.ensures in
    let half = c.put_flagged.ensures in
    let parts = inks-both (opt (num 4)) (opt (num 4)) (there r.hasFullrate r.fullrate) (there r.hasHalfrate r.halfrate) full.0 half.0 in (
      inks_yes (format amr) r.hasAmr (amr_value r) (not-false r.hasAmr c.if-not-r.false) led parts,
      omega (arith, led.next, length-num_bits 1 1, full.1, half.1),
    )
