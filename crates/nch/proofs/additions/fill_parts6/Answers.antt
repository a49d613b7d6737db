-- `nch::additions::fill_parts6` meets its contract. Assumes nothing.
use mathlib.Core.Path.{◌≡◌, ◌∙◌}
use Prim.Native.Nat.{◌≤◌}
use native.Mathlib.Omega.{arith}
use lib.ListN.{length, length-set}
use Rattle.nch.specs.Places.{all_length}
use Rattle.nch.proofs.Filled6.{length-led6, zeros-led6, zeros_reduceds, count-refused, reduceds_refused, randoms-refused, parts-filled}
use Rattle.nch.proofs.additions.fill_parts6.Goals as goal

pub returns-then-c-ne0 : goal.returns-then-c-ne0
returns-then-c-ne0 c =
    let a = c.args in
    count-refused a.s.now a.at c.requires.0 a.numbers.now c.requires.1.1 c.read_flagged-c.result c.read_flagged-c.ensures
    c.if-c-ne0.true _ c.clipped6.ensures _

pub bounds-numbers-49 : goal.bounds-numbers-49
bounds-numbers-49 c = simp length-set (omega arith)

pub bounds-numbers-50 : goal.bounds-numbers-50
bounds-numbers-50 c = simp length-set (omega arith)

pub list_reduceds-d-requires : goal.list_reduceds-d-requires
list_reduceds-d-requires c =
    let a = c.args in (
      c.requires.0,
      (
        omega (arith, length-led6 a.numbers.now c.read_flagged-c.result, c.requires.1.0),
        zeros-led6 a.s.now a.at c.requires.0 a.numbers.now c.requires.1.1
            c.read_flagged-c.result c.read_flagged-c.ensures,
      ),
    )

pub shape_of-numbers-then-d-ne0 : goal.shape_of-numbers-then-d-ne0
shape_of-numbers-then-d-ne0 c =
    let reduceds_length' : length c.list_reduceds-d.new.numbers ≡ length c.args.numbers.now = let n = c.read_flagged-c.result in
    c.list_reduceds-d.auto.numbers ∙ length-led6 c.args.numbers.now n in
    reduceds_length'

pub returns-then-d-ne0 : goal.returns-then-d-ne0
returns-then-d-ne0 c =
    let a = c.args in
    reduceds_refused a.s.now a.at c.requires.0 a.numbers.now c.requires.1.1 c.read_flagged-c.result c.read_flagged-c.ensures
    c.if-c-ne0.false c.list_reduceds-d.result _ c.list_reduceds-d.ensures c.if-d-ne0.true _ c.clipped6-then-d-ne0.ensures _

pub list_randoms-e-requires : goal.list_randoms-e-requires
list_randoms-e-requires c =
    let reduceds_length' : length c.list_reduceds-d.new.numbers ≡ length c.args.numbers.now = let n = c.read_flagged-c.result in
    c.list_reduceds-d.auto.numbers ∙ length-led6 c.args.numbers.now n in
    let a = c.args in
    let m : all_length ≤ length c.list_reduceds-d.new.numbers = omega (arith, reduceds_length', c.requires.1.0) in (
      c.requires.0,
      (
        m,
        zeros_reduceds a.s.now a.at c.requires.0 a.numbers.now c.requires.1.1 c.read_flagged-c.result c.read_flagged-c.ensures
            c.if-c-ne0.false c.list_reduceds-d.result _ c.list_reduceds-d.ensures c.if-d-ne0.false,
      ),
    )

pub shape_of-numbers-then-e-ne0 : goal.shape_of-numbers-then-e-ne0
shape_of-numbers-then-e-ne0 c =
    let reduceds_length' : length c.list_reduceds-d.new.numbers ≡ length c.args.numbers.now = let n = c.read_flagged-c.result in
    c.list_reduceds-d.auto.numbers ∙ length-led6 c.args.numbers.now n in
    c.list_randoms-e.auto.numbers ∙ reduceds_length'

pub returns-then-e-ne0 : goal.returns-then-e-ne0
returns-then-e-ne0 c =
    let a = c.args in
    randoms-refused a.s.now a.at c.requires.0 a.numbers.now c.requires.1.1 c.read_flagged-c.result c.read_flagged-c.ensures
    c.if-c-ne0.false c.list_reduceds-d.result _ c.list_reduceds-d.ensures
    c.if-d-ne0.false c.list_randoms-e.result _ c.list_randoms-e.ensures c.if-e-ne0.true _ c.clipped6-then-e-ne0.ensures _

pub shape_of-numbers : goal.shape_of-numbers
shape_of-numbers c =
    let reduceds_length' : length c.list_reduceds-d.new.numbers ≡ length c.args.numbers.now = let n = c.read_flagged-c.result in
    c.list_reduceds-d.auto.numbers ∙ length-led6 c.args.numbers.now n in
    c.list_randoms-e.auto.numbers ∙ reduceds_length'

pub returns : goal.returns
returns c =
    let a = c.args in
    parts-filled a.s.now a.at c.requires.0 a.numbers.now c.requires.1.1 c.read_flagged-c.result c.read_flagged-c.ensures
    c.if-c-ne0.false c.list_reduceds-d.result _ c.list_reduceds-d.ensures
    c.if-d-ne0.false c.list_randoms-e.result _ c.list_randoms-e.ensures c.if-e-ne0.false _ c.no_refusal.ensures
