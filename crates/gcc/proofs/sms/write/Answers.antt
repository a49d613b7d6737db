-- `gcc::sms::write` meets its contract. Assumes nothing.
use Rattle.gcc.specs.Sms.{written_of}
use Rattle.gcc.proofs.sms.write.Goals as goal

pub returns : goal.returns
unfolding written_of
returns c = rw (c.one_if.ensures.0, c.one_if-2.ensures.0)
