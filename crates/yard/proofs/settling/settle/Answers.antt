-- `yard::settling::settle` meets its contract. Assumes nothing.
use mathlib.Core.Path.{ap, ◌∙◌}
use lib.ListN.{length}
use Rattle.receiver.specs.Step.{most_entries}
use Rattle.yard.specs.Yard.{call_count}
use Rattle.yard.specs.Octets.{brought_run, settled}
use Rattle.yard.proofs.Values.{length-left_run}
use Rattle.yard.proofs.settling.settle.Goals as goal

pub leave_all-requires : goal.leave_all-requires
leave_all-requires c = c.requires

pub bring_all-requires : goal.bring_all-requires
bring_all-requires c =
    ap length c.leave_all.ensures ∙ length-left_run c.args.all c.args.time call_count c.args.b.now ∙ c.requires

pub returns : goal.returns
unfolding settled
returns c = c.bring_all.ensures ∙ ap (brought_run most_entries) c.leave_all.ensures
