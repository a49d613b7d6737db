-- What the loops of `trace::rest::reduceds` keep, and why they end.
use Prim.Native.Nat.{◌*◌, ◌-◌}
use lib.ListN.{length}
use Rattle.nch.specs.Octets.{reduced}
use Rattle.trace.specs.Names.{reduced_given}
use Rattle.trace.specs.NchKinds.{reduced_kinds}
use Rattle.trace.proofs.Entries.{Going}
use Rattle.trace.proofs.rest.reduceds.Given as goal

abbrev pub invariant-entries : goal.invariant-entries
invariant-entries l = Going reduced reduced_kinds reduced_given l.s l.initial.u l.initial.fields l.u l.fields

abbrev pub decreases-entries : goal.decreases-entries
decreases-entries l = length l.s * 8 - l.u.at
