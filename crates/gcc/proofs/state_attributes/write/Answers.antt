-- `gcc::state_attributes::write` meets its contract. Assumes nothing.
use Rattle.gcc.specs.StateAttributes.{written_of}
use Rattle.gcc.proofs.state_attributes.write.Goals as goal

pub returns : goal.returns
unfolding written_of
returns c = rw (c.one_if.ensures.0, c.one_if-2.ensures.0, c.one_if-3.ensures.0, c.one_if-4.ensures.0)
