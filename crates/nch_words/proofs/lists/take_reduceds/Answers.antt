-- `nch_words::lists::take_reduceds` meets its contract. Assumes nothing.
use mathlib.Core.Path.{◌≡◌, refl}
use lib.ListN.{length-set}
use Rattle.bits.specs.Field.{field}
use Rattle.csn1.specs.Format.{no_refusal}
use Rattle.arrays.proofs.Zeroed.{kept-long}
use Rattle.words.proofs.Windows.{part-first, seen}
use Rattle.nch.proofs.ReducedsKept.{reduceds_begin, reduceds-one, reduceds_end}
use Rattle.nch_words.proofs.Listing.{list_untaken, bit-here, reduced-here}
use native.Mathlib.Omega.{arith}
use Rattle.nch_words.proofs.lists.take_reduceds.Goals as goal

pub returns-then-from-gt159 : goal.returns-then-from-gt159
returns-then-from-gt159 c = list_untaken _ c.no_list.ensures

pub entries-init : goal.entries-init
entries-init c = (omega arith, reduceds_begin _ _ _ c.requires.1.1)

pub bounds-numbers-51 : goal.bounds-numbers-51
bounds-numbers-51 c = omega (arith, kept-long c.entries.invariant.1, c.requires.1.0)

pub bounds-numbers-place : goal.bounds-numbers-place
bounds-numbers-place c =
    omega (arith, kept-long c.entries.invariant.1, c.requires.1.0)

pub bounds-numbers-place-in-entries : goal.bounds-numbers-place-in-entries
bounds-numbers-place-in-entries c =
    simp length-set (omega (arith, kept-long c.entries.invariant.1, c.requires.1.0))

pub entries-preserved : goal.entries-preserved
entries-preserved c =
    let window' : c.at-x.result ≡ field c.args.s.now c.entries.at 64 = seen c.at-x.ensures (omega (arith, c.entries.invariant.0)) c.args.s.now c.requires.0 in
    let flag-got' : c.part.result ≡ field c.args.s.now c.entries.at 1 = part-first _ 1 _ c.part.ensures c.args.s.now c.entries.at window' in
    let l = c.entries in
    let s = c.args.s.now in
    let e = bit-here s c.requires.0.long l.at l.invariant.0 _ flag-got' in
    let x = reduced-here s c.requires.0.long l.at (omega arith) _ _ (c.part-reference.ensures s l.at window') (c.part-in-entries.ensures s l.at window') in
    let a = c.args in
    (omega arith, reduceds-one s a.from _ _ _ _ l.invariant.1 _ e c.if-part-eq0.false _ _ x (omega arith) _ refl (omega arith))

pub shape_of-numbers-then-part-eq0 : goal.shape_of-numbers-then-part-eq0
shape_of-numbers-then-part-eq0 c = simp length-set (kept-long c.entries.invariant.1)

pub returns-then-part-eq0 : goal.returns-then-part-eq0
returns-then-part-eq0 c =
    let window' : c.at-x.result ≡ field c.args.s.now c.entries.at 64 = seen c.at-x.ensures (omega (arith, c.entries.invariant.0)) c.args.s.now c.requires.0 in
    let flag-got' : c.part.result ≡ field c.args.s.now c.entries.at 1 = part-first _ 1 _ c.part.ensures c.args.s.now c.entries.at window' in
    let l = c.entries in
    let e = bit-here c.args.s.now c.requires.0.long l.at l.invariant.0 _ flag-got' in
    (omega (arith, l.invariant.0), λ d. reduceds_end c.args.s.now c.args.from _ _ _ _ l.invariant.1 _ e c.if-part-eq0.true no_refusal refl)

pub shape_of-numbers-then-at-gt130 : goal.shape_of-numbers-then-at-gt130
shape_of-numbers-then-at-gt130 c = kept-long c.entries.invariant.1

pub returns-then-at-gt130 : goal.returns-then-at-gt130
returns-then-at-gt130 c = list_untaken _ c.no_list-then-at-gt130.ensures

pub shape_of-numbers-then-count-ge-MOST_REDUCEDS : goal.shape_of-numbers-then-count-ge-MOST_REDUCEDS
shape_of-numbers-then-count-ge-MOST_REDUCEDS c = kept-long c.entries.invariant.1

pub returns-then-count-ge-MOST_REDUCEDS : goal.returns-then-count-ge-MOST_REDUCEDS
returns-then-count-ge-MOST_REDUCEDS c = list_untaken _ c.no_list-then-count-ge-MOST_REDUCEDS.ensures

pub shape_of-numbers-then-reference-gt99999999 : goal.shape_of-numbers-then-reference-gt99999999
shape_of-numbers-then-reference-gt99999999 c = kept-long c.entries.invariant.1

pub returns-then-reference-gt99999999 : goal.returns-then-reference-gt99999999
returns-then-reference-gt99999999 c = list_untaken _ c.no_list-then-reference-gt99999999.ensures
