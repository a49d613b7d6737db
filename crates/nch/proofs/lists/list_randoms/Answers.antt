-- `nch::lists::list_randoms` meets its contract. Assumes nothing.
use mathlib.Core.Path.{◌≡◌, refl, sym, ◌∙◌}
use Prim.Native.Nat.{◌+◌, ◌*◌, ◌≤◌, ◌<◌}
use lib.ListN.{length, length-set}
use Rattle.bits.specs.Field.{fetched}
use Rattle.bits.specs.declared.Got.TheVariants.{Bits, Short}
use Rattle.csn1.specs.Format.{num, opt}
use Rattle.csn1.proofs.Reading.{found, found_lt}
use Rattle.csn1.proofs.Lists.{entries-short, entries-bad}
use Rattle.csn1.proofs.Callees.{Flag, flagged-read, flagged-refused, Reached, flagged_reached}
use Rattle.nch.proofs.Reading6.{random-short, random-bad, random-ok}
use Rattle.arrays.proofs.Zeroed.{kept-long, kept_more}
use Rattle.nch.proofs.RandomsKept.{randoms_begin, randoms-refused, randoms-one, randoms-end}
use native.Mathlib.Omega.{arith}
use Rattle.nch.proofs.lists.list_randoms.Goals as goal
use Rattle.nch.proofs.lists.list_randoms.Goals.{then-count-lt-MOST_RANDOMS, else-count-lt-MOST_RANDOMS}

pub entries-init : goal.entries-init
entries-init c = randoms_begin _ _ _ c.requires.1.1

pub bounds-numbers-62 : goal.bounds-numbers-62
bounds-numbers-62 c = omega (arith, kept-long c.entries.invariant)

pub overflow_add-result : goal.overflow_add-result
overflow_add-result c =
    let flag-got' : Bits c.in-Bits.flag ≡ fetched c.args.s.now c.entries.at 1 = sym c.in-Bits.is ∙ c.field.ensures in
    let flag-within' : c.entries.at + 1 ≤ length c.args.s.now * 8 = (found c.args.s.now c.entries.at 1 _ flag-got').within in
    omega (arith, flag-within')

pub overflow_add-at : goal.overflow_add-at
overflow_add-at c =
    let flag-got' : Bits c.in-Bits.flag ≡ fetched c.args.s.now c.entries.at 1 = sym c.in-Bits.is ∙ c.field.ensures in
    let flag-within' : c.entries.at + 1 ≤ length c.args.s.now * 8 = (found c.args.s.now c.entries.at 1 _ flag-got').within in
    omega (arith, flag-within')

pub overflow_add-at-in_default-field : goal.overflow_add-at-in_default-field
overflow_add-at-in_default-field c =
    let flag-got' : Bits c.in-Bits.flag ≡ fetched c.args.s.now c.entries.at 1 = sym c.in-Bits.is ∙ c.field.ensures in
    let flag-within' : c.entries.at + 1 ≤ length c.args.s.now * 8 = (found c.args.s.now c.entries.at 1 _ flag-got').within in
    omega (arith, flag-within')

pub overflow_add-at-in-entries : goal.overflow_add-at-in-entries
overflow_add-at-in-entries c =
    let segment-got' : Bits c.in-Bits-field.segment ≡ fetched c.args.s.now (c.entries.at + 1) 1 = sym c.in-Bits-field.is ∙ c.field-in-entries.ensures in
    let segment-within' : c.entries.at + 1 + 1 ≤ length c.args.s.now * 8 = (found c.args.s.now (c.entries.at + 1) 1 _ segment-got').within in
    omega (arith, segment-within')

pub bounds-numbers-place : goal.bounds-numbers-place
bounds-numbers-place c = omega (arith, kept-long c.entries.invariant)

pub bounds-numbers-place-then-count-lt-MOST_RANDOMS : goal.bounds-numbers-place-then-count-lt-MOST_RANDOMS
bounds-numbers-place-then-count-lt-MOST_RANDOMS c = simp length-set (omega (arith, kept-long c.entries.invariant))

pub bounds-numbers-place-then-count-lt-MOST_RANDOMS-2 : goal.bounds-numbers-place-then-count-lt-MOST_RANDOMS-2
bounds-numbers-place-then-count-lt-MOST_RANDOMS-2 c = simp length-set (omega (arith, kept-long c.entries.invariant))

pub overflow_add-count : goal.overflow_add-count
overflow_add-count c =
    let flag-got' : Bits c.in-Bits.flag ≡ fetched c.args.s.now c.entries.at 1 = sym c.in-Bits.is ∙ c.field.ensures in
    let flag-within' : c.entries.at + 1 ≤ length c.args.s.now * 8 = (found c.args.s.now c.entries.at 1 _ flag-got').within in
    omega (arith, flag-within', c.entries.invariant.entries.bound)

pub entries-smaller : goal.entries-smaller
entries-smaller c =
    let flag-got' : Bits c.in-Bits.flag ≡ fetched c.args.s.now c.entries.at 1 = sym c.in-Bits.is ∙ c.field.ensures in
    let flag-within' : c.entries.at + 1 ≤ length c.args.s.now * 8 = (found c.args.s.now c.entries.at 1 _ flag-got').within in
    let rand-got' : Flag c.read_flagged-rand.result ((opt (num 36)).read c.args.s.now (c.entries.at + 2)) =
    flagged-read c.args.s.now (c.entries.at + 2) 36 (omega arith) c.requires.0 c.read_flagged-rand.result c.read_flagged-rand.ensures c.if-rand-ne0.false in
    let rand_reached' : Reached c.args.s.now (c.entries.at + 2) 36 rand-got'.number c.read_flagged-rand.result.at =
    flagged_reached c.args.s.now (c.entries.at + 2) 36 rand-got'.number c.read_flagged-rand.result.at rand-got'.is in
    omega (arith, flag-within', rand_reached'.past)

pub entries-preserved : goal.entries-preserved
entries-preserved c =
    let flag-got' : Bits c.in-Bits.flag ≡ fetched c.args.s.now c.entries.at 1 = sym c.in-Bits.is ∙ c.field.ensures in
    let segment-got' : Bits c.in-Bits-field.segment ≡ fetched c.args.s.now (c.entries.at + 1) 1 = sym c.in-Bits-field.is ∙ c.field-in-entries.ensures in
    let segment_lt' : c.in-Bits-field.segment < 2 = found_lt c.args.s.now (c.entries.at + 1) 1 _ segment-got' in
    let rand-got' : Flag c.read_flagged-rand.result ((opt (num 36)).read c.args.s.now (c.entries.at + 2)) =
    flagged-read c.args.s.now (c.entries.at + 2) 36 (omega arith) c.requires.0 c.read_flagged-rand.result c.read_flagged-rand.ensures c.if-rand-ne0.false in
    let rand_reached' : Reached c.args.s.now (c.entries.at + 2) 36 rand-got'.number c.read_flagged-rand.result.at =
    flagged_reached c.args.s.now (c.entries.at + 2) 36 rand-got'.number c.read_flagged-rand.result.at rand-got'.is in
    let e = c.entries in
    let f = flag-got' in
    let n = c.if-flag-eq0.false in
    let r = rand-got' in
    let u = rand_reached' in
    let x = random-ok c.args.s.now (e.at + 1) _ (e.at + 2) segment-got' (omega arith) _ _ r.is in
    elim c.if-count-lt-MOST_RANDOMS.branch [
      | then-count-lt-MOST_RANDOMS w ↦ randoms-one _ _ _ _ _ _ e.invariant _ _ c.read_flagged-rand.result _ _ f n segment_lt' x (omega arith) r.there
          r.value w.if-count-lt-MOST_RANDOMS.true w.numbers-is
      | else-count-lt-MOST_RANDOMS w ↦ rw w.numbers-is (kept_more e.invariant _ _ _ f n x (omega arith) (omega arith))
    ]

pub shape_of-numbers-in_default : goal.shape_of-numbers-in_default
shape_of-numbers-in_default c = kept-long c.entries.invariant

pub returns-in_default : goal.returns-in_default
returns-in_default c =
    let a = c.args in
    let s = a.s.now in
    let l = c.entries in
    let e : Short ≡ fetched s l.at 1 = sym c.in_default.is ∙ c.field.ensures in
    randoms-refused s a.from _ _ _ _ _ c.no_list.ensures c.ran_out.ensures
    (entries-short _ _ _ _ _ _ _ _ _ l.invariant.entries e)

pub shape_of-numbers-then-flag-eq0 : goal.shape_of-numbers-then-flag-eq0
shape_of-numbers-then-flag-eq0 c = simp length-set (kept-long c.entries.invariant)

pub returns-then-flag-eq0 : goal.returns-then-flag-eq0
returns-then-flag-eq0 c =
    let flag-got' : Bits c.in-Bits.flag ≡ fetched c.args.s.now c.entries.at 1 = sym c.in-Bits.is ∙ c.field.ensures in
    randoms-end _ _ _ _ _ _ c.entries.invariant _ flag-got' c.if-flag-eq0.true _ c.no_refusal.ensures

pub shape_of-numbers-in_default-field : goal.shape_of-numbers-in_default-field
shape_of-numbers-in_default-field c = kept-long c.entries.invariant

pub returns-in_default-field : goal.returns-in_default-field
returns-in_default-field c =
    let flag-got' : Bits c.in-Bits.flag ≡ fetched c.args.s.now c.entries.at 1 = sym c.in-Bits.is ∙ c.field.ensures in
    let a = c.args in
    let s = a.s.now in
    let l = c.entries in
    let e : Short ≡ fetched s (l.at + 1) 1 = sym c.in_default-field.is ∙ c.field-in-entries.ensures in
    randoms-refused s a.from _ _ _ _ _ c.no_list-in_default-field.ensures c.ran_out-in_default-field.ensures
    (entries-bad _ _ _ _ _ _ _ _ _ l.invariant.entries _ _ flag-got' c.if-flag-eq0.false
    (random-short s (l.at + 1) e))

pub shape_of-numbers-then-rand-ne0 : goal.shape_of-numbers-then-rand-ne0
shape_of-numbers-then-rand-ne0 c = kept-long c.entries.invariant

pub returns-then-rand-ne0 : goal.returns-then-rand-ne0
returns-then-rand-ne0 c =
    let flag-got' : Bits c.in-Bits.flag ≡ fetched c.args.s.now c.entries.at 1 = sym c.in-Bits.is ∙ c.field.ensures in
    let segment-got' : Bits c.in-Bits-field.segment ≡ fetched c.args.s.now (c.entries.at + 1) 1 = sym c.in-Bits-field.is ∙ c.field-in-entries.ensures in
    let a = c.args in
    let s = a.s.now in
    let l = c.entries in
    let x =
    random-bad s (l.at + 1) _ (l.at + 2) segment-got' (omega arith) _
    (flagged-refused s (l.at + 2) 36 (omega arith)
    c.requires.0 c.read_flagged-rand.result c.read_flagged-rand.ensures c.if-rand-ne0.true) in
    randoms-refused s a.from _ _ _ _ _ c.no_list-then-rand-ne0.ensures refl
    (entries-bad _ _ _ _ _ _ _ _ _ l.invariant.entries _ _ flag-got' c.if-flag-eq0.false x)
