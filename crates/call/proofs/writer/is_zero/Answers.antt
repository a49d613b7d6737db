-- `call::writer::is_zero` meets its contract. Assumes nothing.
use borrow.Author.Tests.{eq-eqb, ne_eqb}
use Rattle.call.specs.Write.{call_is_zero}
use Rattle.call.proofs.writer.is_zero.Goals as goal

pub returns-then-c-ne0 : goal.returns-then-c-ne0
unfolding call_is_zero
returns-then-c-ne0 c = let a = c.args.c in rw (ne_eqb a.reference 0 c.if-c-ne0.true)

pub returns-then-c : goal.returns-then-c
unfolding call_is_zero
returns-then-c c = let a = c.args.c in rw (eq-eqb a.reference 0 c.if-c-ne0.false, c.if-c.true)

pub returns-then-c-2 : goal.returns-then-c-2
unfolding call_is_zero
returns-then-c-2 c = let a = c.args.c in rw (eq-eqb a.reference 0 c.if-c-ne0.false, c.if-c.false, c.if-c-2.true)

pub returns-then-c-ne0-2 : goal.returns-then-c-ne0-2
unfolding call_is_zero
returns-then-c-ne0-2 c = let a = c.args.c in rw (eq-eqb a.reference 0 c.if-c-ne0.false, c.if-c.false, c.if-c-2.false, ne_eqb a.priority 0 c.if-c-ne0-2.true)

pub returns-then-c-ne0-3 : goal.returns-then-c-ne0-3
unfolding call_is_zero
returns-then-c-ne0-3 c = let a = c.args.c in rw (eq-eqb a.reference 0 c.if-c-ne0.false, c.if-c.false, c.if-c-2.false, eq-eqb a.priority 0 c.if-c-ne0-2.false, ne_eqb a.cipher 0 c.if-c-ne0-3.true)

pub returns-then-c-3 : goal.returns-then-c-3
unfolding call_is_zero
returns-then-c-3 c = let a = c.args.c in rw
    (eq-eqb a.reference 0 c.if-c-ne0.false, c.if-c.false, c.if-c-2.false, eq-eqb a.priority 0 c.if-c-ne0-2.false, eq-eqb a.cipher 0 c.if-c-ne0-3.false, c.if-c-3.true)

pub returns : goal.returns
unfolding call_is_zero
returns c = let a = c.args.c in rw
    (eq-eqb a.reference 0 c.if-c-ne0.false, c.if-c.false, c.if-c-2.false, eq-eqb a.priority 0 c.if-c-ne0-2.false, eq-eqb a.cipher 0 c.if-c-ne0-3.false, c.if-c-3.false) c.description_is_zero.ensures
