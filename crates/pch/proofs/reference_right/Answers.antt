-- `pch::reference_right` meets its contract. Assumes nothing.
use mathlib.Core.Path.{◌≡◌, sym, ◌∙◌}
use mathlib.Core.Bool.{true}
use Prim.Native.Nat.{◌/◌, ◌%◌}
use lib.Dec.{leb, eqb}
use borrow.Author.Tests.{eq-eqb, ne_eqb}
use Rattle.pch.specs.Entry.{full_at, is_set, reference_right}
use Rattle.pch.proofs.Laws.{as_marked, as_unmarked}
use Rattle.pch.proofs.reference_right.Goals as goal

pub returns-then-reference-number_at : goal.returns-then-reference-number_at
unfolding reference_right
returns-then-reference-number_at c =
    let full' : is_set c.args.numbers.now full_at ≡ true = sym c.is_set.ensures ∙ c.if-is_set.true in
    rw (
      full',
      sym c.number_at-reference.ensures,
      sym c.number_at.ensures,
      ne_eqb (c.number_at-reference.result / 256) c.number_at.result c.if-reference-number_at.true,
    )

pub returns-then-is_set-2 : goal.returns-then-is_set-2
unfolding reference_right
returns-then-is_set-2 c =
    let full' : is_set c.args.numbers.now full_at ≡ true = sym c.is_set.ensures ∙ c.if-is_set.true in
    let same' : eqb (c.number_at-reference.result / 256) c.number_at.result ≡ true = eq-eqb (c.number_at-reference.result / 256) c.number_at.result c.if-reference-number_at.false in
    rw (
      full',
      sym c.number_at-reference.ensures,
      sym c.number_at.ensures,
      same',
      sym c.is_set-then-is_set.ensures ∙ c.if-is_set-2.true,
    )
    (as_marked (leb 1 (c.number_at-reference.result % 16)))

pub returns-then-is_set : goal.returns-then-is_set
unfolding reference_right
returns-then-is_set c =
    let full' : is_set c.args.numbers.now full_at ≡ true = sym c.is_set.ensures ∙ c.if-is_set.true in
    let same' : eqb (c.number_at-reference.result / 256) c.number_at.result ≡ true = eq-eqb (c.number_at-reference.result / 256) c.number_at.result c.if-reference-number_at.false in
    rw (
      full',
      sym c.number_at-reference.ensures,
      sym c.number_at.ensures,
      same',
      sym c.is_set-then-is_set.ensures ∙ c.if-is_set-2.false,
    )
    (as_unmarked (leb 1 (c.number_at-reference.result % 16)))

pub returns : goal.returns
unfolding reference_right
returns c = rw (sym c.is_set.ensures ∙ c.if-is_set.false, c.is_set-2.ensures)
