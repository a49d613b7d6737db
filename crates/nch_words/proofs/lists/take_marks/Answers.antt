-- `nch_words::lists::take_marks` meets its contract. Assumes nothing.
use mathlib.Core.Path.{◌≡◌, refl}
use Prim.Native.Nat.{◌+◌}
use lib.ListN.{length-set}
use Rattle.bits.specs.Field.{field}
use Rattle.csn1.specs.Format.{no_refusal}
use Rattle.arrays.proofs.Zeroed.{kept-long}
use Rattle.words.proofs.Windows.{part-first, seen}
use Rattle.bits.proofs.Laws.{field_lt}
use Rattle.nch.proofs.MarksKept.{marks_begin, marks-one, marks-end}
use Rattle.nch_words.proofs.Listing.{list_untaken, bit-here, mark_here}
use native.Mathlib.Omega.{arith}
use Rattle.nch_words.proofs.lists.take_marks.Goals as goal

pub returns-then-from-gt159 : goal.returns-then-from-gt159
returns-then-from-gt159 c = list_untaken _ c.no_list.ensures

pub entries-init : goal.entries-init
entries-init c = (omega arith, marks_begin _ _ _ c.requires.1.1)

pub bounds-numbers-91 : goal.bounds-numbers-91
bounds-numbers-91 c = omega (arith, kept-long c.entries.invariant.1, c.requires.1.0)

pub bounds-numbers-count : goal.bounds-numbers-count
bounds-numbers-count c =
    omega (arith, kept-long c.entries.invariant.1, c.requires.1.0)

pub entries-preserved : goal.entries-preserved
entries-preserved c =
    let window' : c.at-x.result ≡ field c.args.s.now c.entries.at 64 = seen c.at-x.ensures (omega (arith, c.entries.invariant.0)) c.args.s.now c.requires.0 in
    let flag-got' : c.part.result ≡ field c.args.s.now c.entries.at 1 = part-first _ 1 _ c.part.ensures c.args.s.now c.entries.at window' in
    let l = c.entries in
    let s = c.args.s.now in
    let v = c.part-in-entries.ensures s l.at window' in
    let e = bit-here s c.requires.0.long l.at l.invariant.0 _ flag-got' in
    let x = mark_here s c.requires.0.long l.at (omega arith) _ v in
    let a = c.args in
    (omega arith, marks-one s a.from _ _ _ _ l.invariant.1 _ _ _ e c.if-part-eq0.false x (omega arith) (omega (arith, v, field_lt s (l.at + 1) 1)) (omega arith))

pub shape_of-numbers-then-part-eq0 : goal.shape_of-numbers-then-part-eq0
shape_of-numbers-then-part-eq0 c = simp length-set (kept-long c.entries.invariant.1)

pub returns-then-part-eq0 : goal.returns-then-part-eq0
returns-then-part-eq0 c =
    let window' : c.at-x.result ≡ field c.args.s.now c.entries.at 64 = seen c.at-x.ensures (omega (arith, c.entries.invariant.0)) c.args.s.now c.requires.0 in
    let flag-got' : c.part.result ≡ field c.args.s.now c.entries.at 1 = part-first _ 1 _ c.part.ensures c.args.s.now c.entries.at window' in
    let l = c.entries in
    let e = bit-here c.args.s.now c.requires.0.long l.at l.invariant.0 _ flag-got' in
    (omega (arith, l.invariant.0), λ d. marks-end c.args.s.now c.args.from _ _ _ _ l.invariant.1 _ e c.if-part-eq0.true no_refusal refl)

pub shape_of-numbers-then-at-gt157 : goal.shape_of-numbers-then-at-gt157
shape_of-numbers-then-at-gt157 c = kept-long c.entries.invariant.1

pub returns-then-at-gt157 : goal.returns-then-at-gt157
returns-then-at-gt157 c = list_untaken _ c.no_list-then-at-gt157.ensures

pub shape_of-numbers-then-count-ge-MOST_MARKS : goal.shape_of-numbers-then-count-ge-MOST_MARKS
shape_of-numbers-then-count-ge-MOST_MARKS c = kept-long c.entries.invariant.1

pub returns-then-count-ge-MOST_MARKS : goal.returns-then-count-ge-MOST_MARKS
returns-then-count-ge-MOST_MARKS c = list_untaken _ c.no_list-then-count-ge-MOST_MARKS.ensures
