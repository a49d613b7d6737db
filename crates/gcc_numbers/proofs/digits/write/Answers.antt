-- `gcc_numbers::digits::write` meets its contract. Assumes nothing.
use mathlib.Core.Path.{refl, sym, ◌∙◌}
use Rattle.gcc_numbers.specs.ElementNumbers.{digits_most}
use Rattle.gcc_numbers.proofs.Refusals.{fits-own, octets_13, octets_12, octets-own}
use Rattle.gcc_numbers.proofs.Octets.{octets-all, most-of}
use borrow.Author.Rules.{rules}
use Rattle.gcc_numbers.proofs.digits.write.Goals as goal

pub returns-then-numbers-ne12 : goal.returns-then-numbers-ne12
returns-then-numbers-ne12 c =
    let a = c.args in
    octets_13 12 digits_most a.numbers.now _ _ a.octets.now c.if-numbers-ne12.true

pub returns-then-not-are_octets : goal.returns-then-not-are_octets
returns-then-not-are_octets c =
    let a = c.args in
    let n = c.if-numbers-ne12.false in
    octets_12 12 digits_most a.numbers.now _ _ a.octets.now _ n (most-of a.numbers.now 12 _ n c.are_octets.ensures) c.if-not-are_octets.true-raw

pub narrow-requires : goal.narrow-requires
narrow-requires c =
    (search rules, octets-all c.args.numbers.now _ refl (sym c.are_octets.ensures ∙ c.if-not-are_octets.false))

pub returns : goal.returns
returns c =
    let ns = c.args.numbers.now in
    let n = c.if-numbers-ne12.false in
    let f = fits-own 12 digits_most ns _ n (most-of ns 12 _ n c.are_octets.ensures) c.if-not-are_octets.false-raw in
    let e = c.narrow.ensures in
    octets-own 12 digits_most ns _ _ _ c.write.result _ f (rw e at c.write.ensures.0) (rw e at c.write.ensures.1)
