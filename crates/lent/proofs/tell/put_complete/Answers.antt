-- `lent::tell::put_complete` meets its contract. Assumes nothing.
use Rattle.lent.proofs.tell.put_complete.Goals as goal

pub put_told-requires : goal.put_told-requires
put_told-requires c = tt

pub returns : goal.returns
returns c =
    rw (← c.follow-follow.ensures, ← c.beside.ensures) c.put_told.ensures
