-- What the loop of `steps::entries::nch_entries` keeps.
use mathlib.Core.Path.{◌≡◌}
use Rattle.csn1.specs.Told.{padded}
use Rattle.receiver.specs.Model.{no_record}
use Rattle.receiver.specs.Step.{most_entries}
use Rattle.steps.proofs.EntriesMade.{entries_to}
use Rattle.steps.proofs.entries.nch_entries.Given as goal

abbrev pub invariant-loop-j : goal.invariant-loop-j
invariant-loop-j l = l.items ≡ padded no_record most_entries (entries_to l.fn.m l.j)
