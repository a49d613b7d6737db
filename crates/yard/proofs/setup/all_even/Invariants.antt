-- What the loop of `yard::setup::all_even` keeps.
use mathlib.Core.Path.{◌≡◌}
use lib.ListN.{drop}
use Rattle.yard.specs.Yard.{all_even}
use Rattle.yard.proofs.setup.all_even.Given as goal

abbrev pub invariant-loop-key : goal.invariant-loop-key
invariant-loop-key l = all_even l.keys ≡ all_even (drop l.key-index l.keys)
