-- `nch_words::calls::take_description` meets its contract. Assumes nothing.
use mathlib.Core.Path.{◌∙◌}
use Prim.Native.Nat.{◌+◌, ◌/◌}
use lib.ListN.{length-set}
use Rattle.nch_words.proofs.Puts.{zeros-three, length_three}
use Rattle.nch_words.proofs.OneCall.{hopping-differs, fixed-put, hops-put}
use native.Mathlib.Omega.{arith}
use Rattle.nch_words.proofs.calls.take_description.Goals as goal

pub returns-then-channel-flag : goal.returns-then-channel-flag
returns-then-channel-flag c =
    let a = c.args in
    hopping-differs a.s.now a.at a.d c.requires.0.1 a.place a.numbers.now c.requires.1.1 c.if-channel-flag.true _ c.no_part.ensures _

pub bounds-numbers-place-2 : goal.bounds-numbers-place-2
bounds-numbers-place-2 c = simp length-set (omega (arith, c.requires.1.0))

pub returns-then-flag-eq0 : goal.returns-then-flag-eq0
returns-then-flag-eq0 c =
    let a = c.args in
    fixed-put a.s.now a.at a.d c.requires.0.1 a.place a.numbers.now c.requires.1.1 (omega arith) c.if-flag-eq0.true

pub bounds-numbers-place-3 : goal.bounds-numbers-place-3
bounds-numbers-place-3 c = simp length-set (omega (arith, c.requires.1.0))

pub take_frequencies-requires : goal.take_frequencies-requires
take_frequencies-requires c =
    let a = c.args in
    ((c.requires.0.0.0, omega (arith, c.requires.0.0.1)), (simp length-set (omega (arith, c.requires.1.0)), zeros-three a.numbers.now a.place 1 (a.d / 2) 1 c.requires.1.1))

pub shape_of-numbers : goal.shape_of-numbers
shape_of-numbers c =
    let a = c.args in
    c.take_frequencies.auto.numbers ∙ length_three a.numbers.now a.place (a.place + 1) (a.place + 2) 1 (a.d / 2) 1

pub returns : goal.returns
returns c =
    let a = c.args in
    hops-put a.s.now a.at a.d c.requires.0.1 a.place a.numbers.now c.requires.1.1 (omega arith) c.if-flag-eq0.false
    _ _ c.take_frequencies.ensures
