-- `nch::lists::list_marks` meets its contract. Assumes nothing.
use mathlib.Core.Path.{◌≡◌, sym, ap, ◌∙◌}
use Prim.Native.Nat.{◌+◌, ◌*◌, ◌≤◌}
use lib.ListN.{length, length-set}
use Rattle.bits.specs.Field.{fetched}
use Rattle.bits.specs.declared.Got.TheVariants.{Bits, Short}
use Rattle.csn1.specs.Format.{ok, num}
use Rattle.csn1.proofs.Reading.{found, found_lt, num-got, num-short}
use Rattle.csn1.proofs.Lists.{entries-short, entries-bad}
use Rattle.arrays.proofs.Zeroed.{kept-long, kept_more}
use Rattle.nch.proofs.MarksKept.{marks_begin, marks-refused, marks-one, marks-end}
use native.Mathlib.Omega.{arith}
use Rattle.nch.proofs.lists.list_marks.Goals as goal
use Rattle.nch.proofs.lists.list_marks.Goals.{then-count-lt-MOST_MARKS, else-count-lt-MOST_MARKS}

pub entries-init : goal.entries-init
entries-init c = marks_begin _ _ _ c.requires.1.1

pub bounds-numbers-91 : goal.bounds-numbers-91
bounds-numbers-91 c = omega (arith, kept-long c.entries.invariant)

pub overflow_add-result : goal.overflow_add-result
overflow_add-result c =
    let flag-got' : Bits c.in-Bits.flag ≡ fetched c.args.s.now c.entries.at 1 = sym c.in-Bits.is ∙ c.field.ensures in
    let flag-within' : c.entries.at + 1 ≤ length c.args.s.now * 8 = (found c.args.s.now c.entries.at 1 _ flag-got').within in
    omega (arith, flag-within')

pub overflow_add-at : goal.overflow_add-at
overflow_add-at c =
    let flag-got' : Bits c.in-Bits.flag ≡ fetched c.args.s.now c.entries.at 1 = sym c.in-Bits.is ∙ c.field.ensures in
    let flag-within' : c.entries.at + 1 ≤ length c.args.s.now * 8 = (found c.args.s.now c.entries.at 1 _ flag-got').within in
    omega (arith, flag-within')

pub overflow_add-at-in_default-field : goal.overflow_add-at-in_default-field
overflow_add-at-in_default-field c =
    let flag-got' : Bits c.in-Bits.flag ≡ fetched c.args.s.now c.entries.at 1 = sym c.in-Bits.is ∙ c.field.ensures in
    let flag-within' : c.entries.at + 1 ≤ length c.args.s.now * 8 = (found c.args.s.now c.entries.at 1 _ flag-got').within in
    omega (arith, flag-within')

pub bounds-numbers-count : goal.bounds-numbers-count
bounds-numbers-count c = omega (arith, kept-long c.entries.invariant)

pub overflow_add-count : goal.overflow_add-count
overflow_add-count c =
    let flag-got' : Bits c.in-Bits.flag ≡ fetched c.args.s.now c.entries.at 1 = sym c.in-Bits.is ∙ c.field.ensures in
    let flag-within' : c.entries.at + 1 ≤ length c.args.s.now * 8 = (found c.args.s.now c.entries.at 1 _ flag-got').within in
    omega (arith, flag-within', c.entries.invariant.entries.bound)

pub overflow_add-at-in-entries : goal.overflow_add-at-in-entries
overflow_add-at-in-entries c =
    let mark_got' : Bits c.in-Bits-field.mark ≡ fetched c.args.s.now (c.entries.at + 1) 1 = sym c.in-Bits-field.is ∙ c.field-in-entries.ensures in
    let mark_within' : c.entries.at + 1 + 1 ≤ length c.args.s.now * 8 = (found c.args.s.now (c.entries.at + 1) 1 _ mark_got').within in
    omega (arith, mark_within')

pub entries-smaller : goal.entries-smaller
entries-smaller c =
    let mark_got' : Bits c.in-Bits-field.mark ≡ fetched c.args.s.now (c.entries.at + 1) 1 = sym c.in-Bits-field.is ∙ c.field-in-entries.ensures in
    let mark_within' : c.entries.at + 1 + 1 ≤ length c.args.s.now * 8 = (found c.args.s.now (c.entries.at + 1) 1 _ mark_got').within in
    omega (arith, mark_within')

pub entries-preserved : goal.entries-preserved
entries-preserved c =
    let flag-got' : Bits c.in-Bits.flag ≡ fetched c.args.s.now c.entries.at 1 = sym c.in-Bits.is ∙ c.field.ensures in
    let mark_got' : Bits c.in-Bits-field.mark ≡ fetched c.args.s.now (c.entries.at + 1) 1 = sym c.in-Bits-field.is ∙ c.field-in-entries.ensures in
    let mark_read' : (num 1).read c.args.s.now (c.entries.at + 1) ≡ ok c.in-Bits-field.mark (c.entries.at + 2) = num-got c.args.s.now (c.entries.at + 1) 1 _ mark_got'
    ∙ ap (ok c.in-Bits-field.mark) (omega arith) in
    let l = c.entries in
    let f = flag-got' in
    let n = c.if-flag-eq0.false in
    let x = mark_read' in
    let two = found_lt _ _ 1 _ mark_got' in
    elim c.if-count-lt-MOST_MARKS.branch [
      | then-count-lt-MOST_MARKS w ↦ rw w.numbers-is (marks-one _ _ _ _ _ _ l.invariant _ _ _ f n x (omega arith) two w.if-count-lt-MOST_MARKS.true)
      | else-count-lt-MOST_MARKS w ↦ rw w.numbers-is (kept_more l.invariant _ _ _ f n x (omega arith) (omega arith))
    ]

pub shape_of-numbers-in_default : goal.shape_of-numbers-in_default
shape_of-numbers-in_default c = kept-long c.entries.invariant

pub returns-in_default : goal.returns-in_default
returns-in_default c =
    let a = c.args in
    let l = c.entries in
    let e : Short ≡ fetched a.s.now l.at 1 = sym c.in_default.is ∙ c.field.ensures in
    marks-refused a.s.now a.from _ _ _ _ _ c.no_list.ensures c.ran_out.ensures
    (entries-short _ _ _ _ _ _ _ _ _ l.invariant.entries e)

pub shape_of-numbers-then-flag-eq0 : goal.shape_of-numbers-then-flag-eq0
shape_of-numbers-then-flag-eq0 c = simp length-set (kept-long c.entries.invariant)

pub returns-then-flag-eq0 : goal.returns-then-flag-eq0
returns-then-flag-eq0 c =
    let flag-got' : Bits c.in-Bits.flag ≡ fetched c.args.s.now c.entries.at 1 = sym c.in-Bits.is ∙ c.field.ensures in
    marks-end _ _ _ _ _ _ c.entries.invariant _ flag-got' c.if-flag-eq0.true _ c.no_refusal.ensures

pub shape_of-numbers-in_default-field : goal.shape_of-numbers-in_default-field
shape_of-numbers-in_default-field c = kept-long c.entries.invariant

pub returns-in_default-field : goal.returns-in_default-field
returns-in_default-field c =
    let flag-got' : Bits c.in-Bits.flag ≡ fetched c.args.s.now c.entries.at 1 = sym c.in-Bits.is ∙ c.field.ensures in
    let a = c.args in
    let s = a.s.now in
    let l = c.entries in
    let e : Short ≡ fetched s (l.at + 1) 1 = sym c.in_default-field.is ∙ c.field-in-entries.ensures in
    marks-refused s a.from _ _ _ _ _ c.no_list-in_default-field.ensures c.ran_out-in_default-field.ensures
    (entries-bad _ _ _ _ _ _ _ _ _ l.invariant.entries _ _ flag-got' c.if-flag-eq0.false
    (num-short s (l.at + 1) 1 (omega arith) e))
