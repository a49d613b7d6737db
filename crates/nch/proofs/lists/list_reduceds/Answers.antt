-- `nch::lists::list_reduceds` meets its contract. Assumes nothing.
use Rattle.nch.proofs.Reading6.{row_reached, widths, widths-small, reduced-short, reduced-high}
use Rattle.arrays.proofs.Zeroed.{kept-long}
use Rattle.nch.proofs.ReducedsKept.{reduceds_begin, reduceds_refused, reduceds-one, reduceds_more, reduceds_end}
use mathlib.Core.Path.{◌≡◌, refl, sym, ◌∙◌}
use Prim.Native.Nat.{◌+◌, ◌*◌, ◌≤◌}
use lib.ListN.{length, get_or, length-set}
use Rattle.bits.specs.Field.{fetched}
use Rattle.bits.specs.declared.Got.TheVariants.{Bits, Short}
use Rattle.csn1.specs.Format.{ok, row}
use Rattle.csn1.proofs.Reading.{found}
use Rattle.csn1.proofs.Lists.{entries-short, entries-bad, fields_begin, fields_next, fields_short, fields_end}
use native.Mathlib.Omega.{arith}
use Rattle.nch.proofs.lists.list_reduceds.Goals as goal
use Rattle.nch.proofs.lists.list_reduceds.Goals.{then-count-lt-MOST_REDUCEDS, else-count-lt-MOST_REDUCEDS}

pub entries-init : goal.entries-init
entries-init c = reduceds_begin _ _ _ c.requires.1.1

pub bounds-numbers-51 : goal.bounds-numbers-51
bounds-numbers-51 c = omega (arith, kept-long c.entries.invariant)

pub overflow_add-result : goal.overflow_add-result
overflow_add-result c =
    let flag-got' : Bits c.in-Bits.flag ≡ fetched c.args.s.now c.entries.at 1 = sym c.in-Bits.is ∙ c.field.ensures in
    let flag-within' : c.entries.at + 1 ≤ length c.args.s.now * 8 = (found c.args.s.now c.entries.at 1 _ flag-got').within in
    omega (arith, flag-within')

pub overflow_add-next : goal.overflow_add-next
overflow_add-next c =
    let flag-got' : Bits c.in-Bits.flag ≡ fetched c.args.s.now c.entries.at 1 = sym c.in-Bits.is ∙ c.field.ensures in
    let flag-within' : c.entries.at + 1 ≤ length c.args.s.now * 8 = (found c.args.s.now c.entries.at 1 _ flag-got').within in
    omega (arith, flag-within')

pub fields-init : goal.fields-init
fields-init c =
    let flag-got' : Bits c.in-Bits.flag ≡ fetched c.args.s.now c.entries.at 1 = sym c.in-Bits.is ∙ c.field.ensures in
    let flag-within' : c.entries.at + 1 ≤ length c.args.s.now * 8 = (found c.args.s.now c.entries.at 1 _ flag-got').within in
    fields_begin _ _ _ _ refl flag-within'

pub overflow_add-at : goal.overflow_add-at
overflow_add-at c =
    let flag-got' : Bits c.in-Bits.flag ≡ fetched c.args.s.now c.entries.at 1 = sym c.in-Bits.is ∙ c.field.ensures in
    let flag-within' : c.entries.at + 1 ≤ length c.args.s.now * 8 = (found c.args.s.now c.entries.at 1 _ flag-got').within in
    omega (arith, flag-within')

pub overflow_add-next-in-fields : goal.overflow_add-next-in-fields
overflow_add-next-in-fields c =
    let part-got' : Bits c.in-Bits-field.v ≡ fetched c.args.s.now c.fields.next (get_or widths c.fields.k 0) = sym c.in-Bits-field.is ∙ c.field-in-fields.ensures in
    let part-within' : c.fields.next + get_or widths c.fields.k 0 ≤ length c.args.s.now * 8 = (found c.args.s.now c.fields.next (get_or widths c.fields.k 0) _ part-got').within in
    omega (arith, part-within')

pub fields-preserved : goal.fields-preserved
fields-preserved c =
    let part-got' : Bits c.in-Bits-field.v ≡ fetched c.args.s.now c.fields.next (get_or widths c.fields.k 0) = sym c.in-Bits-field.is ∙ c.field-in-fields.ensures in
    fields_next _ _ _ _ _ _ c.fields.invariant _ (omega arith) part-got'

pub bounds-numbers-place : goal.bounds-numbers-place
bounds-numbers-place c = omega (arith, kept-long c.entries.invariant)

pub bounds-numbers-place-then-count-lt-MOST_REDUCEDS : goal.bounds-numbers-place-then-count-lt-MOST_REDUCEDS
bounds-numbers-place-then-count-lt-MOST_REDUCEDS c = simp length-set (omega (arith, kept-long c.entries.invariant))

pub overflow_add-count : goal.overflow_add-count
overflow_add-count c =
    let flag-got' : Bits c.in-Bits.flag ≡ fetched c.args.s.now c.entries.at 1 = sym c.in-Bits.is ∙ c.field.ensures in
    let flag-within' : c.entries.at + 1 ≤ length c.args.s.now * 8 = (found c.args.s.now c.entries.at 1 _ flag-got').within in
    omega (arith, flag-within', c.entries.invariant.entries.bound)

pub entries-smaller : goal.entries-smaller
entries-smaller c =
    let flag-got' : Bits c.in-Bits.flag ≡ fetched c.args.s.now c.entries.at 1 = sym c.in-Bits.is ∙ c.field.ensures in
    let flag-within' : c.entries.at + 1 ≤ length c.args.s.now * 8 = (found c.args.s.now c.entries.at 1 _ flag-got').within in
    let fields_got' : (row widths).read c.args.s.now (c.entries.at + 1) ≡ ok c.fields.parts c.fields.next = let f = c.fields in
    fields_end widths c.args.s.now (c.entries.at + 1) f.parts f.k f.next f.invariant (omega arith) in
    let fields_reached' : c.entries.at + 1 + 28 ≡ c.fields.next = row_reached widths c.args.s.now (c.entries.at + 1) c.fields.parts c.fields.next fields_got' in
    omega (arith, flag-within', fields_reached')

pub entries-preserved : goal.entries-preserved
entries-preserved c =
    let flag-got' : Bits c.in-Bits.flag ≡ fetched c.args.s.now c.entries.at 1 = sym c.in-Bits.is ∙ c.field.ensures in
    let fields_got' : (row widths).read c.args.s.now (c.entries.at + 1) ≡ ok c.fields.parts c.fields.next = let f = c.fields in
    fields_end widths c.args.s.now (c.entries.at + 1) f.parts f.k f.next f.invariant (omega arith) in
    let i = c.entries.invariant in
    let f = flag-got' in
    let x = fields_got' in
    elim c.if-count-lt-MOST_REDUCEDS.branch [
      | then-count-lt-MOST_REDUCEDS w ↦ rw w.numbers-is
          (reduceds-one _ _ _ _ _ _ i _ f c.if-flag-eq0.false _ _ x (omega arith) _ refl w.if-count-lt-MOST_REDUCEDS.true)
      | else-count-lt-MOST_REDUCEDS w ↦ rw w.numbers-is
          (reduceds_more _ _ _ _ _ _ i _ f c.if-flag-eq0.false _ _ x (omega arith) (omega arith))
    ]

pub shape_of-numbers-in_default : goal.shape_of-numbers-in_default
shape_of-numbers-in_default c = kept-long c.entries.invariant

pub returns-in_default : goal.returns-in_default
returns-in_default c =
    let a = c.args in
    let l = c.entries in
    let e : Short ≡ fetched a.s.now l.at 1 = sym c.in_default.is ∙ c.field.ensures in
    reduceds_refused a.s.now a.from _ _ _ _ _ c.no_list.ensures c.ran_out.ensures
    (entries-short _ _ _ _ _ _ _ _ _ l.invariant.entries e)

pub shape_of-numbers-then-flag-eq0 : goal.shape_of-numbers-then-flag-eq0
shape_of-numbers-then-flag-eq0 c = simp length-set (kept-long c.entries.invariant)

pub returns-then-flag-eq0 : goal.returns-then-flag-eq0
returns-then-flag-eq0 c =
    let flag-got' : Bits c.in-Bits.flag ≡ fetched c.args.s.now c.entries.at 1 = sym c.in-Bits.is ∙ c.field.ensures in
    reduceds_end _ _ _ _ _ _ c.entries.invariant _ flag-got' c.if-flag-eq0.true _ c.no_refusal.ensures

pub shape_of-numbers-in_default-field : goal.shape_of-numbers-in_default-field
shape_of-numbers-in_default-field c = kept-long c.entries.invariant

pub returns-in_default-field : goal.returns-in_default-field
returns-in_default-field c =
    let flag-got' : Bits c.in-Bits.flag ≡ fetched c.args.s.now c.entries.at 1 = sym c.in-Bits.is ∙ c.field.ensures in
    let a = c.args in
    let l = c.entries in
    let g = c.fields in
    let e : Short ≡ fetched a.s.now g.next (get_or widths g.k 0) = sym c.in_default-field.is ∙ c.field-in-fields.ensures in
    let x = reduced-short a.s.now (l.at + 1) _ (fields_short _ _ _ _ _ _ g.invariant (omega arith) (widths-small g.k) e) in
    reduceds_refused a.s.now a.from _ _ _ _ _ c.no_list-in_default-field.ensures c.ran_out-in_default-field.ensures
    (entries-bad _ _ _ _ _ _ _ _ _ l.invariant.entries _ _ flag-got'
    c.if-flag-eq0.false x)

pub shape_of-numbers-then-parts-gt99999999 : goal.shape_of-numbers-then-parts-gt99999999
shape_of-numbers-then-parts-gt99999999 c = kept-long c.entries.invariant

pub returns-then-parts-gt99999999 : goal.returns-then-parts-gt99999999
returns-then-parts-gt99999999 c =
    let flag-got' : Bits c.in-Bits.flag ≡ fetched c.args.s.now c.entries.at 1 = sym c.in-Bits.is ∙ c.field.ensures in
    let fields_got' : (row widths).read c.args.s.now (c.entries.at + 1) ≡ ok c.fields.parts c.fields.next = let f = c.fields in
    fields_end widths c.args.s.now (c.entries.at + 1) f.parts f.k f.next f.invariant (omega arith) in
    let a = c.args in
    let l = c.entries in
    let x = reduced-high a.s.now (l.at + 1) _ _ fields_got' c.if-parts-gt99999999.true in
    reduceds_refused a.s.now a.from _ _ _ _ _ c.no_list-then-parts-gt99999999.ensures c.ground.ensures
    (entries-bad _ _ _ _ _ _ _ _ _ l.invariant.entries _ _ flag-got' c.if-flag-eq0.false x)
