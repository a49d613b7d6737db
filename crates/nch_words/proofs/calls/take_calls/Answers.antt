-- `nch_words::calls::take_calls` meets its contract. Assumes nothing.
use mathlib.Core.Path.{◌≡◌, refl, ◌∙◌}
use Prim.Native.Nat.{◌+◌}
use lib.ListN.{length-set}
use Rattle.bits.specs.Field.{field}
use Rattle.csn1.specs.Format.{no_refusal}
use Rattle.arrays.proofs.Zeroed.{kept-long}
use Rattle.words.proofs.Windows.{part-first, seen}
use Rattle.csn1.proofs.Writing.{byte_lt}
use Rattle.arrays.proofs.Zeroed.{zeros-later}
use Rattle.nch.specs.Places.{calls_at, first_call}
use Rattle.nch.proofs.CallsKept.{calls_begin, few-ciphered, few-described, calls-end}
use Rattle.words.proofs.Taken.{was_true}
use Rattle.nch_words.proofs.Listing.{calls_untaken, bit-here, call-done, call_grows, calls-next}
use native.Mathlib.Omega.{arith}
use Rattle.nch_words.proofs.calls.take_calls.Goals as goal

pub returns-then-from-gt159 : goal.returns-then-from-gt159
returns-then-from-gt159 c = calls_untaken _ c.no_calls.ensures

pub entries-init : goal.entries-init
entries-init c =
    let z = c.requires.1.1 in
    record { inside = omega arith; few = omega arith; kept = calls_begin _ _ _ z; zeros = zeros-later c.args.numbers.now calls_at first_call (omega arith) z }

pub bounds-numbers-3 : goal.bounds-numbers-3
bounds-numbers-3 c = omega (arith, kept-long c.entries.invariant.kept.kept, c.requires.1.0)

pub take_call-c-requires : goal.take_call-c-requires
take_call-c-requires c =
    let window' : c.at-x.result ≡ field c.args.s.now c.entries.at 64 = seen c.at-x.ensures (omega (arith, c.entries.invariant.inside)) c.args.s.now c.requires.0 in
    let l = c.entries in
    (((c.requires.0, omega (arith, l.invariant.inside)), window'), (omega (arith, kept-long l.invariant.kept.kept, c.requires.1.0), l.invariant.zeros))

pub overflow_add-ciphered : goal.overflow_add-ciphered
overflow_add-ciphered c =
    let l = c.entries in
    omega (arith, few-ciphered _ _ _ _ _ _ _ _ l.invariant.kept, l.invariant.inside, byte_lt c.take_call-c.result.ciphered)

pub overflow_add-described : goal.overflow_add-described
overflow_add-described c =
    let l = c.entries in
    omega (arith, few-described _ _ _ _ _ _ _ _ l.invariant.kept, l.invariant.inside, byte_lt c.take_call-c.result.described)

pub entries-smaller : goal.entries-smaller
entries-smaller c =
    let l = c.entries in
    let s = c.args.s.now in
    let d = call-done s (l.at + 1) _ c.take_call-c.result _ _ c.take_call-c.ensures (was_true _ c.if-not-c.false) in
    omega (arith, call_grows s (l.at + 1) _ c.take_call-c.result _ _ d c.requires.0.long (omega (arith, l.invariant.inside)) (omega arith))

pub entries-preserved : goal.entries-preserved
entries-preserved c =
    let window' : c.at-x.result ≡ field c.args.s.now c.entries.at 64 = seen c.at-x.ensures (omega (arith, c.entries.invariant.inside)) c.args.s.now c.requires.0 in
    let flag-got' : c.part.result ≡ field c.args.s.now c.entries.at 1 = part-first _ 1 _ c.part.ensures c.args.s.now c.entries.at window' in
    let l = c.entries in
    let s = c.args.s.now in
    let d = call-done s (l.at + 1) _ c.take_call-c.result _ _ c.take_call-c.ensures (was_true _ c.if-not-c.false) in
    calls-next s c.args.from _ _ _ _ _ _ l.invariant c.requires.0.long _ flag-got' c.if-part-eq0.false
    (omega (arith, c.if-count-ge-MOST_CALLS.false)) c.take_call-c.result _ d (omega arith)

pub shape_of-numbers-then-part-eq0 : goal.shape_of-numbers-then-part-eq0
shape_of-numbers-then-part-eq0 c = simp length-set (kept-long c.entries.invariant.kept.kept)

pub returns-then-part-eq0 : goal.returns-then-part-eq0
returns-then-part-eq0 c =
    let window' : c.at-x.result ≡ field c.args.s.now c.entries.at 64 = seen c.at-x.ensures (omega (arith, c.entries.invariant.inside)) c.args.s.now c.requires.0 in
    let flag-got' : c.part.result ≡ field c.args.s.now c.entries.at 1 = part-first _ 1 _ c.part.ensures c.args.s.now c.entries.at window' in
    let l = c.entries in
    let e = bit-here c.args.s.now c.requires.0.long l.at l.invariant.inside _ flag-got' in
    (omega (arith, l.invariant.inside), λ d. calls-end c.args.s.now c.args.from _ _ _ _ _ _ l.invariant.kept _ e c.if-part-eq0.true no_refusal refl)

pub shape_of-numbers-then-count-ge-MOST_CALLS : goal.shape_of-numbers-then-count-ge-MOST_CALLS
shape_of-numbers-then-count-ge-MOST_CALLS c = kept-long c.entries.invariant.kept.kept

pub returns-then-count-ge-MOST_CALLS : goal.returns-then-count-ge-MOST_CALLS
returns-then-count-ge-MOST_CALLS c = calls_untaken _ c.no_calls-then-count-ge-MOST_CALLS.ensures

pub shape_of-numbers-then-not-c : goal.shape_of-numbers-then-not-c
shape_of-numbers-then-not-c c =
    c.take_call-c.auto.numbers ∙ kept-long c.entries.invariant.kept.kept

pub returns-then-not-c : goal.returns-then-not-c
returns-then-not-c c = calls_untaken _ c.no_calls-then-not-c.ensures

pub shape_of-numbers-then-c-gt159 : goal.shape_of-numbers-then-c-gt159
shape_of-numbers-then-c-gt159 c =
    c.take_call-c.auto.numbers ∙ kept-long c.entries.invariant.kept.kept

pub returns-then-c-gt159 : goal.returns-then-c-gt159
returns-then-c-gt159 c = calls_untaken _ c.no_calls-then-c-gt159.ensures
