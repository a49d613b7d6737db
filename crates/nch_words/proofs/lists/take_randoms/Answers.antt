-- `nch_words::lists::take_randoms` meets its contract. Assumes nothing.
use mathlib.Core.Path.{◌≡◌, refl, ◌∙◌}
use lib.ListN.{length-set}
use Rattle.bits.specs.Field.{field}
use Rattle.csn1.specs.Format.{no_refusal}
use Rattle.arrays.proofs.Zeroed.{kept-long}
use Rattle.words.proofs.Windows.{part-first, seen}
use Rattle.arrays.proofs.Zeroed.{zeros-later}
use Rattle.nch.specs.Places.{randoms_at, first_random}
use Rattle.nch.proofs.RandomsKept.{randoms_begin, randoms-end}
use Rattle.nch_words.proofs.Listing.{list_untaken, bit-here, randoms-next}
use native.Mathlib.Omega.{arith}
use Rattle.nch_words.proofs.lists.take_randoms.Goals as goal

pub returns-then-from-gt159 : goal.returns-then-from-gt159
returns-then-from-gt159 c = list_untaken _ c.no_list.ensures

pub entries-init : goal.entries-init
entries-init c =
    let z = c.requires.1.1 in
    record { inside = omega arith; kept = randoms_begin _ _ _ z; zeros = zeros-later c.args.numbers.now randoms_at first_random (omega arith) z }

pub bounds-numbers-62 : goal.bounds-numbers-62
bounds-numbers-62 c = omega (arith, kept-long c.entries.invariant.kept, c.requires.1.0)

pub put_random-requires : goal.put_random-requires
put_random-requires c =
    (omega (arith, kept-long c.entries.invariant.kept, c.requires.1.0), c.entries.invariant.zeros)

pub overflow_add-next : goal.overflow_add-next
overflow_add-next c = omega (arith, c.put_random.ensures.1.0, c.entries.invariant.inside)

pub entries-smaller : goal.entries-smaller
entries-smaller c = omega (arith, c.put_random.ensures.0)

pub entries-preserved : goal.entries-preserved
entries-preserved c =
    let window' : c.at-x.result ≡ field c.args.s.now c.entries.at 64 = seen c.at-x.ensures (omega (arith, c.entries.invariant.inside)) c.args.s.now c.requires.0 in
    let flag-got' : c.part.result ≡ field c.args.s.now c.entries.at 1 = part-first _ 1 _ c.part.ensures c.args.s.now c.entries.at window' in
    let l = c.entries in
    let s = c.args.s.now in
    let o = c.put_random.ensures in
    let a = c.args in
    randoms-next s a.from _ _ _ _ l.invariant c.requires.0.long _ flag-got' c.if-part-eq0.false (omega arith) _ _ (o.1.1 s l.at window') o.0 (omega arith)

pub shape_of-numbers-then-part-eq0 : goal.shape_of-numbers-then-part-eq0
shape_of-numbers-then-part-eq0 c = simp length-set (kept-long c.entries.invariant.kept)

pub returns-then-part-eq0 : goal.returns-then-part-eq0
returns-then-part-eq0 c =
    let window' : c.at-x.result ≡ field c.args.s.now c.entries.at 64 = seen c.at-x.ensures (omega (arith, c.entries.invariant.inside)) c.args.s.now c.requires.0 in
    let flag-got' : c.part.result ≡ field c.args.s.now c.entries.at 1 = part-first _ 1 _ c.part.ensures c.args.s.now c.entries.at window' in
    let l = c.entries in
    let e = bit-here c.args.s.now c.requires.0.long l.at l.invariant.inside _ flag-got' in
    (omega (arith, l.invariant.inside), λ d. randoms-end c.args.s.now c.args.from _ _ _ _ l.invariant.kept _ e c.if-part-eq0.true no_refusal refl)

pub shape_of-numbers-then-count-ge-MOST_RANDOMS : goal.shape_of-numbers-then-count-ge-MOST_RANDOMS
shape_of-numbers-then-count-ge-MOST_RANDOMS c = kept-long c.entries.invariant.kept

pub returns-then-count-ge-MOST_RANDOMS : goal.returns-then-count-ge-MOST_RANDOMS
returns-then-count-ge-MOST_RANDOMS c = list_untaken _ c.no_list-then-count-ge-MOST_RANDOMS.ensures

pub shape_of-numbers-then-next-gt159 : goal.shape_of-numbers-then-next-gt159
shape_of-numbers-then-next-gt159 c = c.put_random.auto.numbers ∙ kept-long c.entries.invariant.kept

pub returns-then-next-gt159 : goal.returns-then-next-gt159
returns-then-next-gt159 c = list_untaken _ c.no_list-then-next-gt159.ensures
