-- `facch::refused_notified` meets its contract. Assumes nothing.
use Rattle.facch.proofs.refused_notified.Goals as goal

pub returns : goal.returns
returns c = rw (c.no_call.ensures, c.no_page.ensures)
