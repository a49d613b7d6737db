-- `nch::reader::read_into` meets its contract. Assumes nothing.
use mathlib.Core.Path.{◌∙◌}
use lib.ListN.{length}
use Rattle.nch.proofs.FilledAll.{as_many}
use Rattle.nch.proofs.reader.read_into.Goals as goal

pub returns-then-numbers-ge-LENGTH : goal.returns-then-numbers-ge-LENGTH
returns-then-numbers-ge-LENGTH c = c.read_wide.ensures

pub returns : goal.returns
returns c =
    let a = c.args in
    (c.read_wide-r.ensures.0, c.store.ensures ∙ as_many a.octets.now (length a.numbers.now) _ c.read_wide-r.ensures.1)
