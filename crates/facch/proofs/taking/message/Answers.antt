-- `facch::taking::message` meets its contract. Assumes nothing.
use mathlib.Core.Path.{◌≡◌, refl, sym, ◌∙◌}
use Prim.Native.Nat.{◌≤◌}
use lib.ListN.{length}
use Rattle.bits.specs.Field.{fetched}
use Rattle.bits.specs.declared.Got.TheVariants.{Bits}
use Rattle.csn1.proofs.Reading.{found}
use Rattle.words.proofs.Taken.{was_true, done-says}
use Rattle.facch.proofs.Taken.{not_quickly, quickly}
use native.Mathlib.Omega.{arith}
use Rattle.facch.proofs.taking.message.Goals as goal

pub returns-then-octets-gt23 : goal.returns-then-octets-gt23
returns-then-octets-gt23 c =
    not_quickly c.args.octets.now _ c.not_quick.ensures

pub returns-in_default : goal.returns-in_default
returns-in_default c =
    not_quickly c.args.octets.now _ c.not_quick-in_default.ensures

pub returns-then-paging-ne0 : goal.returns-then-paging-ne0
returns-then-paging-ne0 c =
    not_quickly c.args.octets.now _ c.not_quick-then-paging-ne0.ensures

pub returns-then-not-c : goal.returns-then-not-c
returns-then-not-c c =
    not_quickly c.args.octets.now _ c.not_quick-then-not-c.ensures

pub returns-then-end-c : goal.returns-then-end-c
returns-then-end-c c =
    not_quickly c.args.octets.now _ c.not_quick-then-end-c.ensures

pub overflow_add-used : goal.overflow_add-used
overflow_add-used c =
    let short-enough' : length c.args.octets.now ≤ 23 = omega arith in
    let call_ends' : c.take-c.result.at ≤ 184 = omega (arith, short-enough') in
    omega (arith, c.take_release7-seven.ensures.0, call_ends')

pub returns-then-end-used : goal.returns-then-end-used
returns-then-end-used c =
    not_quickly c.args.octets.now _ c.not_quick-then-end-used.ensures

pub returns : goal.returns
returns c =
    let short-enough' : length c.args.octets.now ≤ 23 = omega arith in
    let flag-got' : Bits c.in-Bits.paging ≡ fetched c.args.octets.now 8 1 = sym c.in-Bits.is ∙ c.field.ensures in
    let s = c.args.octets.now in
    let t = done-says s 9 _ c.take-c.ensures (was_true _ c.if-not-c.false) in
    quickly s short-enough' _ (found s 8 1 _ flag-got').is c.if-paging-ne0.false _ t
    _ (c.take_release6-six.ensures.1 s t.next refl) _ (c.take_release7-seven.ensures.1 s t.next refl) (omega arith)
