-- `steps::sweep::fate_of` meets its contract. Assumes nothing.
use mathlib.Core.Path.{sym, ◌∙◌}
use Rattle.steps.specs.Inner.{fate_of}
use Rattle.steps.proofs.sweep.fate_of.Goals as goal

pub returns-then-ran_out : goal.returns-then-ran_out
unfolding fate_of
returns-then-ran_out c = rw (sym c.ran_out.ensures ∙ c.if-ran_out.true)
