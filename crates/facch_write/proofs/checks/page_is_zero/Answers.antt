-- `facch_write::checks::page_is_zero` meets its contract. Assumes nothing.
use Rattle.facch_write.specs.Write.{page_is_zero}
use Rattle.facch_write.proofs.checks.page_is_zero.Goals as goal

pub returns : goal.returns
unfolding page_is_zero
returns c =
    rw (c.both_hold-3.ensures, c.both_hold-2.ensures, c.both_hold-octets.ensures, c.both_hold-rest.ensures, c.both_hold.ensures)
