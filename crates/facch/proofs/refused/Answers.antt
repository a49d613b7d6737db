-- `facch::refused` meets its contract. Assumes nothing.
use Rattle.facch.proofs.refused.Goals as goal

pub returns : goal.returns
returns c = rw (c.no_call.ensures, c.no_page.ensures, c.no_release6.ensures, c.no_release7.ensures)
