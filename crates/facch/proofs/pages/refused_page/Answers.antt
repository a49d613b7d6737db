-- `facch::pages::refused_page` meets its contract. Assumes nothing.
use Rattle.facch.proofs.pages.refused_page.Goals as goal

pub returns : goal.returns
returns c = rw c.no_page.ensures
