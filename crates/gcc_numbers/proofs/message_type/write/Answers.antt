-- `gcc_numbers::message_type::write` meets its contract. Assumes nothing.
use mathlib.Core.Path.{◌≡◌, refl, ap, ◌∙◌}
use mathlib.Core.Bool.{true}
use lib.ListN.{get_or}
use native.Mathlib.Omega.{arith}
use Rattle.gcc.specs.MessageType.{written_of, kind_of}
use Rattle.gcc_numbers.specs.ElementNumbers.{fits, is_flag, type_most}
use Rattle.gcc_numbers.proofs.Refusals.{code_13, code_12, fits-own, fits-at, own-refused, own-written}
use Rattle.gcc_numbers.proofs.message_type.write.Goals as goal

pub returns-then-numbers-ne2 : goal.returns-then-numbers-ne2
returns-then-numbers-ne2 c = (code_13 2 type_most c.args.numbers.now _ c.if-numbers-ne2.true, refl)

pub returns-then-not-holds : goal.returns-then-not-holds
returns-then-not-holds c =
    (code_12 2 type_most c.args.numbers.now _ _ c.if-numbers-ne2.false c.holds.ensures c.if-not-holds.true-raw, refl)

pub overflow_cast-numbers : goal.overflow_cast-numbers
overflow_cast-numbers c =
    let fitting' : fits 2 type_most c.args.numbers.now ≡ true = fits-own 2 type_most c.args.numbers.now _ c.if-numbers-ne2.false c.holds.ensures c.if-not-holds.false-raw in
    omega (arith, fits-at 2 type_most c.args.numbers.now fitting' 1 (omega arith))

pub returns-then-w-ne0 : goal.returns-then-w-ne0
returns-then-w-ne0 c =
    let fitting' : fits 2 type_most c.args.numbers.now ≡ true = fits-own 2 type_most c.args.numbers.now _ c.if-numbers-ne2.false c.holds.ensures c.if-not-holds.false-raw in
    let own' : c.write-w.result ≡ written_of (is_flag c.args.numbers.now 0) (kind_of (get_or c.args.numbers.now 1 0)) = c.write-w.ensures
    ∙ ap (written_of (is_flag c.args.numbers.now 0)) c.kind_of.ensures in
    own-refused 2 type_most c.args.numbers.now (λ w. w.refusal) (λ w. w.octet) _ _ own' fitting' c.if-w-ne0.true _

pub returns : goal.returns
returns c =
    let fitting' : fits 2 type_most c.args.numbers.now ≡ true = fits-own 2 type_most c.args.numbers.now _ c.if-numbers-ne2.false c.holds.ensures c.if-not-holds.false-raw in
    let own' : c.write-w.result ≡ written_of (is_flag c.args.numbers.now 0) (kind_of (get_or c.args.numbers.now 1 0)) = c.write-w.ensures
    ∙ ap (written_of (is_flag c.args.numbers.now 0)) c.kind_of.ensures in
    own-written 2 type_most c.args.numbers.now (λ w. w.refusal) (λ w. w.octet) _ _ own' fitting' c.if-w-ne0.false
