-- What the loops of `trace::rest::randoms` keep, and why they end.
use Prim.Native.Nat.{◌*◌, ◌-◌}
use lib.ListN.{length}
use Rattle.nch.specs.Octets.{random}
use Rattle.trace.specs.Names.{random_given}
use Rattle.trace.specs.NchKinds.{random_kinds}
use Rattle.trace.proofs.Entries.{Going}
use Rattle.trace.proofs.rest.randoms.Given as goal

abbrev pub invariant-entries : goal.invariant-entries
invariant-entries l = Going random random_kinds random_given l.s l.initial.u l.initial.fields l.u l.fields

abbrev pub decreases-entries : goal.decreases-entries
decreases-entries l = length l.s * 8 - l.u.at
