-- `nch::reader::fill_all` meets its contract. Assumes nothing.
use mathlib.Core.Path.{◌≡◌, ◌∙◌}
use Prim.Native.Nat.{◌≤◌}
use native.Mathlib.Omega.{arith}
use lib.ListN.{length, length-set}
use Rattle.nch.specs.Places.{all_length}
use Rattle.nch.proofs.FilledAll.{length-led, zeros-led, zeros-calls, zeros-six, not_twenty, calls-refused, six-refused, seven-refused, few, six-due, seven-due, all-filled}
use Rattle.nch.proofs.reader.fill_all.Goals as goal

pub returns-then-s-ne20 : goal.returns-then-s-ne20
returns-then-s-ne20 c =
    let a = c.args in
    not_twenty a.s.now (λ e. omega arith) _ c.ground.ensures _ c.no_part.ensures _ _

pub bounds-numbers-2 : goal.bounds-numbers-2
bounds-numbers-2 c = simp length-set (omega arith)

pub list_calls-c-requires : goal.list_calls-c-requires
list_calls-c-requires c =
    let l = c.args.numbers.now in
    let n = c.read_flagged-nln.result in
    (omega arith, (omega (arith, length-led l n, c.requires.0), zeros-led l n c.requires.1))

pub shape_of-numbers-then-c-ne0 : goal.shape_of-numbers-then-c-ne0
shape_of-numbers-then-c-ne0 c =
    let calls-length' : length c.list_calls-c.new.numbers ≡ length c.args.numbers.now = c.list_calls-c.auto.numbers ∙ length-led c.args.numbers.now c.read_flagged-nln.result in
    calls-length'

pub returns-then-c-ne0 : goal.returns-then-c-ne0
returns-then-c-ne0 c =
    let a = c.args in
    calls-refused a.s.now c.if-s-ne20.false a.numbers.now c.requires.1 c.read_flagged-nln.result c.read_flagged-nln.ensures c.list_calls-c.result _ c.list_calls-c.ensures
    c.if-c-ne0.true _ c.no_part-then-c-ne0.ensures _

pub fill_release6-six-requires : goal.fill_release6-six-requires
fill_release6-six-requires c =
    let calls-length' : length c.list_calls-c.new.numbers ≡ length c.args.numbers.now = c.list_calls-c.auto.numbers ∙ length-led c.args.numbers.now c.read_flagged-nln.result in
    let a = c.args in
    let twenty = c.if-s-ne20.false in
    let m : all_length ≤ length c.list_calls-c.new.numbers = omega (arith, calls-length', c.requires.0) in (
      omega (arith, twenty),
      (
        m,
        zeros-calls a.s.now twenty a.numbers.now c.requires.1 c.read_flagged-nln.result c.read_flagged-nln.ensures
            c.list_calls-c.result _ c.list_calls-c.ensures c.if-c-ne0.false,
      ),
    )

pub shape_of-numbers-then-six-ne0 : goal.shape_of-numbers-then-six-ne0
shape_of-numbers-then-six-ne0 c =
    let calls-length' : length c.list_calls-c.new.numbers ≡ length c.args.numbers.now = c.list_calls-c.auto.numbers ∙ length-led c.args.numbers.now c.read_flagged-nln.result in
    let six-length' : length c.fill_release6-six.new.numbers ≡ length c.args.numbers.now = c.fill_release6-six.auto.numbers ∙ calls-length' in
    six-length'

pub returns-then-six-ne0 : goal.returns-then-six-ne0
returns-then-six-ne0 c =
    let a = c.args in
    six-refused a.s.now c.if-s-ne20.false a.numbers.now c.requires.1 c.read_flagged-nln.result c.read_flagged-nln.ensures c.list_calls-c.result _ c.list_calls-c.ensures
    c.if-c-ne0.false c.fill_release6-six.result _ c.fill_release6-six.ensures c.if-six-ne0.true _ c.no_part-then-six-ne0.ensures _

pub fill_release7-seven-requires : goal.fill_release7-seven-requires
fill_release7-seven-requires c =
    let calls-length' : length c.list_calls-c.new.numbers ≡ length c.args.numbers.now = c.list_calls-c.auto.numbers ∙ length-led c.args.numbers.now c.read_flagged-nln.result in
    let six-length' : length c.fill_release6-six.new.numbers ≡ length c.args.numbers.now = c.fill_release6-six.auto.numbers ∙ calls-length' in
    let a = c.args in
    let m : all_length ≤ length c.fill_release6-six.new.numbers = omega (arith, six-length', c.requires.0) in (
      omega arith,
      (
        m,
        zeros-six a.s.now c.if-s-ne20.false a.numbers.now c.requires.1 c.read_flagged-nln.result c.read_flagged-nln.ensures c.list_calls-c.result _ c.list_calls-c.ensures
            c.if-c-ne0.false c.fill_release6-six.result _ c.fill_release6-six.ensures c.if-six-ne0.false,
      ),
    )

pub shape_of-numbers-then-seven-ne0 : goal.shape_of-numbers-then-seven-ne0
shape_of-numbers-then-seven-ne0 c =
    let calls-length' : length c.list_calls-c.new.numbers ≡ length c.args.numbers.now = c.list_calls-c.auto.numbers ∙ length-led c.args.numbers.now c.read_flagged-nln.result in
    let six-length' : length c.fill_release6-six.new.numbers ≡ length c.args.numbers.now = c.fill_release6-six.auto.numbers ∙ calls-length' in
    let seven-length' : length c.fill_release7-seven.new.numbers ≡ length c.args.numbers.now = c.fill_release7-seven.auto.numbers ∙ six-length' in
    seven-length'

pub returns-then-seven-ne0 : goal.returns-then-seven-ne0
returns-then-seven-ne0 c =
    let a = c.args in
    seven-refused a.s.now c.if-s-ne20.false a.numbers.now c.requires.1 c.read_flagged-nln.result c.read_flagged-nln.ensures c.list_calls-c.result _ c.list_calls-c.ensures
    c.if-c-ne0.false c.fill_release6-six.result _ c.fill_release6-six.ensures
    c.if-six-ne0.false c.fill_release7-seven.result _ c.fill_release7-seven.ensures c.if-seven-ne0.true _ c.no_part-then-seven-ne0.ensures _

pub overflow_add-c : goal.overflow_add-c
overflow_add-c c =
    let a = c.args in
    omega (
      arith,
      few a.s.now c.if-s-ne20.false a.numbers.now c.requires.1 c.read_flagged-nln.result c.read_flagged-nln.ensures c.list_calls-c.result _ c.list_calls-c.ensures
          c.if-c-ne0.false c.fill_release6-six.result _ c.fill_release6-six.ensures
          c.if-six-ne0.false c.fill_release7-seven.result _ c.fill_release7-seven.ensures c.if-seven-ne0.false,
    )

pub shape_of-numbers-then-c-six : goal.shape_of-numbers-then-c-six
shape_of-numbers-then-c-six c =
    let calls-length' : length c.list_calls-c.new.numbers ≡ length c.args.numbers.now = c.list_calls-c.auto.numbers ∙ length-led c.args.numbers.now c.read_flagged-nln.result in
    let six-length' : length c.fill_release6-six.new.numbers ≡ length c.args.numbers.now = c.fill_release6-six.auto.numbers ∙ calls-length' in
    let seven-length' : length c.fill_release7-seven.new.numbers ≡ length c.args.numbers.now = c.fill_release7-seven.auto.numbers ∙ six-length' in
    seven-length'

pub returns-then-c-six : goal.returns-then-c-six
returns-then-c-six c =
    let a = c.args in
    six-due a.s.now c.if-s-ne20.false a.numbers.now c.requires.1
    c.read_flagged-nln.result c.read_flagged-nln.ensures c.list_calls-c.result _ c.list_calls-c.ensures
    c.if-c-ne0.false c.fill_release6-six.result _ c.fill_release6-six.ensures
    c.if-six-ne0.false c.fill_release7-seven.result _ c.fill_release7-seven.ensures
    c.if-seven-ne0.false c.if-c-six.true _ c.ground-then-c-six.ensures _ c.no_part-then-c-six.ensures _

pub shape_of-numbers-then-c-seven : goal.shape_of-numbers-then-c-seven
shape_of-numbers-then-c-seven c =
    let calls-length' : length c.list_calls-c.new.numbers ≡ length c.args.numbers.now = c.list_calls-c.auto.numbers ∙ length-led c.args.numbers.now c.read_flagged-nln.result in
    let six-length' : length c.fill_release6-six.new.numbers ≡ length c.args.numbers.now = c.fill_release6-six.auto.numbers ∙ calls-length' in
    let seven-length' : length c.fill_release7-seven.new.numbers ≡ length c.args.numbers.now = c.fill_release7-seven.auto.numbers ∙ six-length' in
    seven-length'

pub returns-then-c-seven : goal.returns-then-c-seven
returns-then-c-seven c =
    let a = c.args in
    seven-due a.s.now c.if-s-ne20.false a.numbers.now c.requires.1 c.read_flagged-nln.result c.read_flagged-nln.ensures c.list_calls-c.result _ c.list_calls-c.ensures
    c.if-c-ne0.false c.fill_release6-six.result _ c.fill_release6-six.ensures c.if-six-ne0.false c.fill_release7-seven.result _ c.fill_release7-seven.ensures
    c.if-seven-ne0.false c.if-c-six.false
    c.if-c-seven.true _ c.ground-then-c-seven.ensures _ c.no_part-then-c-seven.ensures _

pub shape_of-numbers : goal.shape_of-numbers
shape_of-numbers c =
    let calls-length' : length c.list_calls-c.new.numbers ≡ length c.args.numbers.now = c.list_calls-c.auto.numbers ∙ length-led c.args.numbers.now c.read_flagged-nln.result in
    let six-length' : length c.fill_release6-six.new.numbers ≡ length c.args.numbers.now = c.fill_release6-six.auto.numbers ∙ calls-length' in
    let seven-length' : length c.fill_release7-seven.new.numbers ≡ length c.args.numbers.now = c.fill_release7-seven.auto.numbers ∙ six-length' in
    seven-length'

pub returns : goal.returns
returns c =
    let a = c.args in
    all-filled a.s.now c.if-s-ne20.false a.numbers.now c.requires.1 c.read_flagged-nln.result c.read_flagged-nln.ensures c.list_calls-c.result _ c.list_calls-c.ensures
    c.if-c-ne0.false c.fill_release6-six.result _ c.fill_release6-six.ensures
    c.if-six-ne0.false c.fill_release7-seven.result _ c.fill_release7-seven.ensures
    c.if-seven-ne0.false c.if-c-six.false
    c.if-c-seven.false _ c.no_refusal.ensures
