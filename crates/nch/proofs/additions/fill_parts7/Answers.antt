-- `nch::additions::fill_parts7` meets its contract. Assumes nothing.
use mathlib.Core.Path.{◌≡◌, ◌∙◌}
use Prim.Native.Nat.{◌≤◌}
use native.Mathlib.Omega.{arith}
use lib.ListN.{length, length-set}
use Rattle.nch.specs.Places.{release7_at, all_length}
use Rattle.nch.proofs.Filled7.{linked7, length-linked7, zeros_led7, marks-refused, uplink-refused, zeros-linked, amr-refused, zeros-rated, sms-refused, parts-filled}
use Rattle.nch.proofs.additions.fill_parts7.Goals as goal

pub list_marks-m-requires : goal.list_marks-m-requires
list_marks-m-requires c =
    let l = c.args.numbers.now in
    (c.requires.0, (omega (arith, length-set l release7_at 1, c.requires.1.0), zeros_led7 l c.requires.1.1))

pub shape_of-numbers-then-m-ne0 : goal.shape_of-numbers-then-m-ne0
shape_of-numbers-then-m-ne0 c =
    let marks-length' : length c.list_marks-m.new.numbers ≡ length c.args.numbers.now = c.list_marks-m.auto.numbers ∙ length-set c.args.numbers.now release7_at 1 in
    marks-length'

pub returns-then-m-ne0 : goal.returns-then-m-ne0
returns-then-m-ne0 c =
    let a = c.args in
    marks-refused a.s.now a.at c.requires.0 a.numbers.now c.requires.1.1 c.list_marks-m.result _ c.list_marks-m.ensures
    c.if-m-ne0.true _ c.clipped7.ensures _

pub shape_of-numbers-then-u-ne0 : goal.shape_of-numbers-then-u-ne0
shape_of-numbers-then-u-ne0 c =
    let marks-length' : length c.list_marks-m.new.numbers ≡ length c.args.numbers.now = c.list_marks-m.auto.numbers ∙ length-set c.args.numbers.now release7_at 1 in
    marks-length'

pub returns-then-u-ne0 : goal.returns-then-u-ne0
returns-then-u-ne0 c =
    let a = c.args in
    uplink-refused a.s.now a.at c.requires.0 a.numbers.now c.requires.1.1 c.list_marks-m.result _ c.list_marks-m.ensures
    c.if-m-ne0.false c.read_flagged-u.result c.read_flagged-u.ensures c.if-u-ne0.true _ c.clipped7-then-u-ne0.ensures _

pub bounds-numbers-96 : goal.bounds-numbers-96
bounds-numbers-96 c =
    let marks-length' : length c.list_marks-m.new.numbers ≡ length c.args.numbers.now = c.list_marks-m.auto.numbers ∙ length-set c.args.numbers.now release7_at 1 in
    omega (arith, marks-length', c.requires.1.0)

pub bounds-numbers-97 : goal.bounds-numbers-97
bounds-numbers-97 c =
    let marks-length' : length c.list_marks-m.new.numbers ≡ length c.args.numbers.now = c.list_marks-m.auto.numbers ∙ length-set c.args.numbers.now release7_at 1 in
    simp length-set (omega (
      arith,
      marks-length',
      c.requires.1.0,
    ))

pub fill_amr-a-requires : goal.fill_amr-a-requires
fill_amr-a-requires c =
    let marks-length' : length c.list_marks-m.new.numbers ≡ length c.args.numbers.now = c.list_marks-m.auto.numbers ∙ length-set c.args.numbers.now release7_at 1 in
    let a = c.args in
    let n : all_length ≤ length (linked7 c.list_marks-m.new.numbers c.read_flagged-u.result) = omega
    (arith, length-linked7 c.list_marks-m.new.numbers c.read_flagged-u.result, marks-length', c.requires.1.0) in (
      c.requires.0,
      (
        n,
        zeros-linked a.s.now a.at c.requires.0 a.numbers.now c.requires.1.1 c.list_marks-m.result _ c.list_marks-m.ensures
            c.if-m-ne0.false c.read_flagged-u.result c.read_flagged-u.ensures c.if-u-ne0.false,
      ),
    )

pub shape_of-numbers-then-a-ne0 : goal.shape_of-numbers-then-a-ne0
shape_of-numbers-then-a-ne0 c =
    let marks-length' : length c.list_marks-m.new.numbers ≡ length c.args.numbers.now = c.list_marks-m.auto.numbers ∙ length-set c.args.numbers.now release7_at 1 in
    let amr-length' : length c.fill_amr-a.new.numbers ≡ length c.args.numbers.now = let u = c.read_flagged-u.result in
    c.fill_amr-a.auto.numbers ∙ length-linked7 c.list_marks-m.new.numbers u ∙ marks-length' in
    amr-length'

pub returns-then-a-ne0 : goal.returns-then-a-ne0
returns-then-a-ne0 c =
    let a = c.args in
    amr-refused a.s.now a.at c.requires.0 a.numbers.now c.requires.1.1 c.list_marks-m.result _ c.list_marks-m.ensures
    c.if-m-ne0.false c.read_flagged-u.result c.read_flagged-u.ensures
    c.if-u-ne0.false
    c.fill_amr-a.result _ c.fill_amr-a.ensures c.if-a-ne0.true _ c.clipped7-then-a-ne0.ensures _

pub fill_sms-t-requires : goal.fill_sms-t-requires
fill_sms-t-requires c =
    let marks-length' : length c.list_marks-m.new.numbers ≡ length c.args.numbers.now = c.list_marks-m.auto.numbers ∙ length-set c.args.numbers.now release7_at 1 in
    let amr-length' : length c.fill_amr-a.new.numbers ≡ length c.args.numbers.now = let u = c.read_flagged-u.result in
    c.fill_amr-a.auto.numbers ∙ length-linked7 c.list_marks-m.new.numbers u ∙ marks-length' in
    let a = c.args in
    let n : all_length ≤ length c.fill_amr-a.new.numbers = omega (arith, amr-length', c.requires.1.0) in (
      c.requires.0,
      (
        n,
        zeros-rated a.s.now a.at c.requires.0 a.numbers.now c.requires.1.1 c.list_marks-m.result _ c.list_marks-m.ensures
            c.if-m-ne0.false c.read_flagged-u.result c.read_flagged-u.ensures
            c.if-u-ne0.false
            c.fill_amr-a.result _ c.fill_amr-a.ensures c.if-a-ne0.false,
      ),
    )

pub shape_of-numbers-then-t-ne0 : goal.shape_of-numbers-then-t-ne0
shape_of-numbers-then-t-ne0 c =
    let marks-length' : length c.list_marks-m.new.numbers ≡ length c.args.numbers.now = c.list_marks-m.auto.numbers ∙ length-set c.args.numbers.now release7_at 1 in
    let amr-length' : length c.fill_amr-a.new.numbers ≡ length c.args.numbers.now = let u = c.read_flagged-u.result in
    c.fill_amr-a.auto.numbers ∙ length-linked7 c.list_marks-m.new.numbers u ∙ marks-length' in
    c.fill_sms-t.auto.numbers ∙ amr-length'

pub returns-then-t-ne0 : goal.returns-then-t-ne0
returns-then-t-ne0 c =
    let a = c.args in
    sms-refused a.s.now a.at c.requires.0 a.numbers.now c.requires.1.1 c.list_marks-m.result _ c.list_marks-m.ensures
    c.if-m-ne0.false c.read_flagged-u.result c.read_flagged-u.ensures
    c.if-u-ne0.false
    c.fill_amr-a.result _ c.fill_amr-a.ensures c.if-a-ne0.false c.fill_sms-t.result _ c.fill_sms-t.ensures c.if-t-ne0.true _ c.clipped7-then-t-ne0.ensures _

pub shape_of-numbers : goal.shape_of-numbers
shape_of-numbers c =
    let marks-length' : length c.list_marks-m.new.numbers ≡ length c.args.numbers.now = c.list_marks-m.auto.numbers ∙ length-set c.args.numbers.now release7_at 1 in
    let amr-length' : length c.fill_amr-a.new.numbers ≡ length c.args.numbers.now = let u = c.read_flagged-u.result in
    c.fill_amr-a.auto.numbers ∙ length-linked7 c.list_marks-m.new.numbers u ∙ marks-length' in
    c.fill_sms-t.auto.numbers ∙ amr-length'

pub returns : goal.returns
returns c =
    let a = c.args in
    parts-filled a.s.now a.at c.requires.0 a.numbers.now c.requires.1.1 c.list_marks-m.result _ c.list_marks-m.ensures
    c.if-m-ne0.false c.read_flagged-u.result c.read_flagged-u.ensures
    c.if-u-ne0.false
    c.fill_amr-a.result _ c.fill_amr-a.ensures c.if-a-ne0.false c.fill_sms-t.result _ c.fill_sms-t.ensures c.if-t-ne0.false _ c.no_refusal.ensures
