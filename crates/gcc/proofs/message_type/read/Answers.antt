-- `gcc::message_type::read` meets its contract. Assumes nothing.
use mathlib.Core.Path.{sym, ◌∙◌}
use borrow.Author.Tests.{eq-eqb, ne_eqb}
use Rattle.gcc.specs.MessageType.{read_of}
use Rattle.gcc.proofs.message_type.read.Goals as goal

pub returns-then-number_of-eq0 : goal.returns-then-number_of-eq0
unfolding read_of
returns-then-number_of-eq0 c =
    rw (← c.kind_of-kind.ensures, eq-eqb _ _ (sym c.number_of.ensures ∙ c.if-number_of-eq0.true))

pub returns : goal.returns
unfolding read_of
returns c =
    rw (← c.kind_of-kind.ensures, ne_eqb _ _ (rw c.number_of.ensures at c.if-number_of-eq0.false), c.is_set.ensures)
