-- `yard::settling::leave` meets its contract. Assumes nothing.
use mathlib.Core.Path.{sym, ◌∙◌}
use borrow.Author.Tests.{not-true, not-false}
use Rattle.yard.proofs.Leaving.{left-stays, left-goes}
use Rattle.yard.proofs.settling.leave.Goals as goal

pub leaves-requires : goal.leaves-requires
leaves-requires c = c.requires

pub returns-then-not-leaves : goal.returns-then-not-leaves
returns-then-not-leaves c =
    left-stays c.args.all c.args.time c.args.b.now c.args.i (sym c.leaves.ensures ∙ not-true _ c.if-not-leaves.true-raw)

pub returns : goal.returns
returns c =
    left-goes c.args.all c.args.time c.args.b.now c.args.i (sym c.leaves.ensures ∙ not-false _ c.if-not-leaves.false-raw) _ c.zero.ensures
