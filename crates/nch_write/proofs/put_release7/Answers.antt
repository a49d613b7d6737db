-- `nch_write::put_release7` meets its contract. Assumes nothing.
use mathlib.Core.Path.{ap}
use Prim.Native.Nat.{ℕ, ◌≤◌}
use borrow.Author.Tests.{not-true, not-false}
use Rattle.csn1.specs.Format.{num, opt, ◌⨟◌, list}
use Rattle.csn1.specs.Grammar.{format}
use Rattle.csn1.specs.Told.{there}
use Rattle.csn1.proofs.Flags.{flag_limit}
use Rattle.csn1.proofs.Writing.{flag_lt}
use Rattle.nch.specs.Octets.{amr, release7}
use Rattle.nch.specs.Told.{release7_value}
use Rattle.nch.proofs.Releases.{Right7, right7}
use Rattle.nch_write.proofs.Putting.{inks_as, inks-both, inks-high, inks-low}
use native.Mathlib.Omega.{arith}
use Rattle.nch_write.proofs.put_release7.Goals as goal

pub returns-then-not-r : goal.returns-then-not-r
returns-then-not-r c =
    let a = c.args in
    inks-low (format release7) a.r.hasRelease (release7_value a.r) (not-true a.r.hasRelease c.if-not-r.true) c.put_low.ensures.0

pub put_marks-a-requires : goal.put_marks-a-requires
put_marks-a-requires c =
    let right' : Right7 c.args.r = right7 c.args.r c.requires.1 in
    let high-near' : c.put_high-h.result.at ≤ 1537 = omega (arith, c.put_high-h.ensures.next, c.requires.0) in
    (right'.few, omega (arith, high-near'))

pub put_flagged-b-requires : goal.put_flagged-b-requires
put_flagged-b-requires c =
    let high-near' : c.put_high-h.result.at ≤ 1537 = omega (arith, c.put_high-h.ensures.next, c.requires.0) in
    let marks-near' : c.put_marks-a.result.at ≤ 1546 = omega (arith, high-near', c.put_marks-a.ensures.1) in
    (omega arith, (omega (arith, marks-near'), omega (arith, c.bit_of.ensures, flag_lt c.args.r.uplink)))

pub put_amr-c-requires : goal.put_amr-c-requires
put_amr-c-requires c =
    let right' : Right7 c.args.r = right7 c.args.r c.requires.1 in
    let high-near' : c.put_high-h.result.at ≤ 1537 = omega (arith, c.put_high-h.ensures.next, c.requires.0) in
    let marks-near' : c.put_marks-a.result.at ≤ 1546 = omega (arith, high-near', c.put_marks-a.ensures.1) in
    let flagged-near' : c.put_flagged-b.result.at ≤ 1548 = omega (arith, marks-near', c.put_flagged-b.ensures.1) in
    let r = c.args.r in
    let full = flag_limit r.hasFullrate r.fullrate 16 right'.fullrate (omega arith) in
    let half = flag_limit r.hasHalfrate r.halfrate 16 right'.halfrate (omega arith) in
    (omega (arith, flagged-near'), (full, half))

pub put_sms-requires : goal.put_sms-requires
put_sms-requires c =
    let high-near' : c.put_high-h.result.at ≤ 1537 = omega (arith, c.put_high-h.ensures.next, c.requires.0) in
    let marks-near' : c.put_marks-a.result.at ≤ 1546 = omega (arith, high-near', c.put_marks-a.ensures.1) in
    let flagged-near' : c.put_flagged-b.result.at ≤ 1548 = omega (arith, marks-near', c.put_flagged-b.ensures.1) in
    let amr-near' : c.put_amr-c.result.at ≤ 1559 = omega (arith, flagged-near', c.put_amr-c.ensures.1) in
    omega (arith, amr-near')

pub returns : goal.returns
returns c =
    let r = c.args.r in
    let v = release7_value r in
    let place = c.put_marks-a.result.at in
    let uplink = inks_as (ap (λ (k : ℕ). (opt (num 1)).bits 160 place (there r.hasUplink k)) c.bit_of.ensures) c.put_flagged-b.ensures.0 in
    let parts = inks-both (list (num 1)) (opt (num 1) ⨟ opt (format amr) ⨟ opt (num 1 ⨟ num 1)) v.0 v.1 c.put_marks-a.ensures.0
    (inks-both (opt (num 1)) (opt (format amr) ⨟ opt (num 1 ⨟ num 1)) v.1.0 v.1.1 uplink
    (inks-both (opt (format amr)) (opt (num 1 ⨟ num 1)) v.1.1.0 v.1.1.1 c.put_amr-c.ensures.0 c.put_sms.ensures)) in
    inks-high (format release7) r.hasRelease v (not-false r.hasRelease c.if-not-r.false) c.put_high-h.ensures parts
