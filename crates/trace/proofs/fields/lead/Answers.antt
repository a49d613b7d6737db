-- `trace::fields::lead` meets its contract. Assumes nothing.
use mathlib.Core.Path.{sym, ◌∙◌}
use borrow.Author.Tests.{not-true, not-false}
use Rattle.trace.proofs.Leading.{leading_used, leading_stopped, leading_low, leading_high}
use Rattle.trace.proofs.fields.lead.Goals as goal

pub returns-then-at-s : goal.returns-then-at-s
returns-then-at-s c = leading_used c.requires c.if-at-s.true

pub returns-then-not-u : goal.returns-then-not-u
returns-then-not-u c =
    leading_stopped c.note-b.ensures c.if-at-s.false (not-true _ c.if-not-u.true)

pub returns-then-b-padding_bit : goal.returns-then-b-padding_bit
returns-then-b-padding_bit c =
    leading_low c.note-b.ensures c.if-at-s.false (not-false _ c.if-not-u.false) (c.if-b-padding_bit.true ∙ c.padding_bit.ensures)

pub returns : goal.returns
returns c =
    leading_high c.note-b.ensures c.if-at-s.false (not-false _ c.if-not-u.false) (λ e. c.if-b-padding_bit.false (e ∙ sym c.padding_bit.ensures))
