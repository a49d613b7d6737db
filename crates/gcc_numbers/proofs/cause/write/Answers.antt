-- `gcc_numbers::cause::write` meets its contract. Assumes nothing.
use Rattle.gcc_numbers.proofs.CauseNumbers.{cause_13, cause-wrong_length, cause_12, cause-octets, cause-own}
use Rattle.gcc_numbers.proofs.cause.write.Goals as goal

pub returns-then-numbers-ne-LENGTH : goal.returns-then-numbers-ne-LENGTH
returns-then-numbers-ne-LENGTH c =
    let a = c.args in
    cause_13 a.numbers.now a.octets.now c.if-numbers-ne-LENGTH.true

pub returns-then-is_wrong_length : goal.returns-then-is_wrong_length
returns-then-is_wrong_length c =
    let a = c.args in
    cause-wrong_length a.numbers.now a.octets.now _ c.if-numbers-ne-LENGTH.false c.are_octets.ensures c.if-not-are_octets.true-raw c.is_wrong_length.result c.is_wrong_length.ensures
    c.if-is_wrong_length.true

pub returns-then-not-are_octets : goal.returns-then-not-are_octets
returns-then-not-are_octets c =
    let a = c.args in
    cause_12 a.numbers.now a.octets.now _ c.if-numbers-ne-LENGTH.false c.are_octets.ensures c.if-not-are_octets.true-raw c.is_wrong_length.result c.is_wrong_length.ensures c.if-is_wrong_length.false

pub cause_from-requires : goal.cause_from-requires
cause_from-requires c =
    let a = c.args in
    (c.if-numbers-ne-LENGTH.false, cause-octets a.numbers.now a.octets.now _ c.if-numbers-ne-LENGTH.false c.are_octets.ensures c.if-not-are_octets.false-raw)

pub returns : goal.returns
returns c =
    let a = c.args in
    cause-own a.numbers.now a.octets.now _ c.if-numbers-ne-LENGTH.false c.are_octets.ensures c.if-not-are_octets.false-raw _ c.cause_from.ensures c.write.result _
    c.write.ensures.0 c.write.ensures.1
