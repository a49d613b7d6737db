-- `nch_write::put_release6` meets its contract. Assumes nothing.
use Prim.Native.Nat.{◌+◌, ◌≤◌}
use borrow.Author.Tests.{not-true, not-false}
use Rattle.csn1.specs.Format.{num, opt, ◌⨟◌, list}
use Rattle.csn1.specs.Grammar.{format}
use Rattle.csn1.proofs.Flags.{flag_limit}
use Rattle.nch.specs.Octets.{reduced, random, release6}
use Rattle.nch.specs.Told.{release6_value}
use Rattle.nch.specs.Write.{reduced_in_range, reduced_is_zero, random_in_range, random_is_zero}
use Rattle.nch.proofs.InPlaces.{places-good}
use Rattle.nch.proofs.Releases.{Right6, right6}
use Rattle.nch_write.proofs.Putting.{inks-both, inks-high, inks-low}
use native.Mathlib.Omega.{arith}
use Rattle.nch_write.proofs.put_release6.Goals as goal

pub returns-then-not-r : goal.returns-then-not-r
returns-then-not-r c =
    let w = c.put_low.ensures in
    let a = c.args in
    (inks-low (format release6) a.r.hasRelease (release6_value a.r) (not-true a.r.hasRelease c.if-not-r.true) w.0, omega (arith, w.1))

pub put_flagged-a-requires : goal.put_flagged-a-requires
put_flagged-a-requires c =
    let right' : Right6 c.args.r = right6 c.args.r c.requires.1 in
    let high-near' : c.put_high-h.result.at ≤ c.args.p.at + 1 = omega (arith, c.put_high-h.ensures.next) in
    let few = flag_limit c.args.r.hasCount c.args.r.cellcount 4 right'.hasCount (omega arith) in
    (omega arith, (omega (arith, c.requires.0, high-near'), few))

pub put_reduceds-b-requires : goal.put_reduceds-b-requires
put_reduceds-b-requires c =
    let right' : Right6 c.args.r = right6 c.args.r c.requires.1 in
    let high-near' : c.put_high-h.result.at ≤ c.args.p.at + 1 = omega (arith, c.put_high-h.ensures.next) in
    let flagged-near' : c.put_flagged-a.result.at ≤ c.args.p.at + 4 = omega (arith, high-near', c.put_flagged-a.ensures.1) in
    let good = places-good reduced_in_range reduced_is_zero c.args.r.reducedcount c.args.r.reduced right'.places in
    (right'.few, (omega (arith, c.requires.0, flagged-near'), good))

pub put_randoms-requires : goal.put_randoms-requires
put_randoms-requires c =
    let right' : Right6 c.args.r = right6 c.args.r c.requires.1 in
    let high-near' : c.put_high-h.result.at ≤ c.args.p.at + 1 = omega (arith, c.put_high-h.ensures.next) in
    let flagged-near' : c.put_flagged-a.result.at ≤ c.args.p.at + 4 = omega (arith, high-near', c.put_flagged-a.ensures.1) in
    let reduceds_near' : c.put_reduceds-b.result.at ≤ c.args.p.at + 150 = omega (arith, flagged-near', c.put_reduceds-b.ensures.1) in
    let good = places-good random_in_range random_is_zero c.args.r.randomcount c.args.r.randoms right'.randoms in
    (right'.few_randoms, (omega (arith, c.requires.0, reduceds_near'), good))

pub returns : goal.returns
returns c =
    let high-near' : c.put_high-h.result.at ≤ c.args.p.at + 1 = omega (arith, c.put_high-h.ensures.next) in
    let flagged-near' : c.put_flagged-a.result.at ≤ c.args.p.at + 4 = omega (arith, high-near', c.put_flagged-a.ensures.1) in
    let reduceds_near' : c.put_reduceds-b.result.at ≤ c.args.p.at + 150 = omega (arith, flagged-near', c.put_reduceds-b.ensures.1) in
    let w = c.put_randoms.ensures in
    let r = c.args.r in
    let v = release6_value r in
    let parts = inks-both (opt (num 2)) (list (format reduced) ⨟ list (format random)) v.0 v.1 c.put_flagged-a.ensures.0
    (inks-both (list (format reduced)) (list (format random)) v.1.0 v.1.1 c.put_reduceds-b.ensures.0 w.0) in
    (inks-high (format release6) r.hasRelease v (not-false r.hasRelease c.if-not-r.false) c.put_high-h.ensures parts, omega (arith, reduceds_near', w.1))
