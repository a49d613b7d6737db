-- `gcc::message_type::write` meets its contract. Assumes nothing.
use mathlib.Core.Path.{sym, ◌∙◌}
use native.Mathlib.Omega.{arith}
use borrow.Author.Tests.{eq-eqb, ne_eqb}
use Rattle.gcc.specs.MessageType.{written_of}
use Rattle.gcc.proofs.Tables.{number_small}
use Rattle.gcc.proofs.message_type.write.Goals as goal

pub returns-then-number-eq0 : goal.returns-then-number-eq0
unfolding written_of
returns-then-number-eq0 c = rw (eq-eqb _ _ (sym c.number_of-number.ensures ∙ c.if-number-eq0.true))

pub overflow_add-result : goal.overflow_add-result
overflow_add-result c = omega (arith, c.number_of-number.ensures, number_small c.args.kind)

pub returns : goal.returns
unfolding written_of
returns c = rw (ne_eqb _ _ (rw c.number_of-number.ensures at c.if-number-eq0.false), c.one_if.ensures.0, c.number_of-number.ensures)
