-- `yard::settling::is_quiet` meets its contract. Assumes nothing.
use mathlib.Core.Path.{sym}
use native.Mathlib.Omega.{arith}
use Rattle.yard.proofs.Inside.{whole-inside}
use Rattle.yard.proofs.settling.is_quiet.Goals as goal

pub slice_bounds-entries-end : goal.slice_bounds-entries-end
slice_bounds-entries-end c = sym (whole-inside c.args.b.now c.requires)

pub entries-requires : goal.entries-requires
entries-requires c = whole-inside c.args.b.now c.requires

pub returns-then-entries-eq0 : goal.returns-then-entries-eq0
returns-then-entries-eq0 c = λ t. (λ j h k. c.entries.ensures.1 j (omega (arith, h, c.if-entries-eq0.true)) k, c.none_shown.ensures t)
