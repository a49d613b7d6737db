-- `text::put` meets its contract. Assumes nothing.
use Rattle.std.proofs.Common.{arith, ◌+◌, ◌-◌, ◌<◌, length}
use Rattle.text.proofs.Lines.{octets_kept, octets_put}
use Rattle.text.proofs.put.Goals as goal
use Rattle.text.proofs.put.Goals.{then-octets-at-via-then-octets-at, then-octets-at-via-else-octets-at+then-octets-at-2}

pub returns-then-octets-at-clause-octets : goal.returns-then-octets-at-clause-octets
returns-then-octets-at-clause-octets c =
    let a = c.args in
    let room : length a.octets.now < a.at + length a.word.now =
    elim c.then-octets-at.branch [ then-octets-at-via-then-octets-at w ↦ omega arith | then-octets-at-via-else-octets-at+then-octets-at-2 w ↦ omega arith ] in
    octets_kept a.octets.now a.word.now a.at room

pub returns-clause-octets : goal.returns-clause-octets
returns-clause-octets c =
    let a = c.args in
    octets_put a.octets.now a.word.now c.copy.new.place a.at (a.at + length a.word.now - a.at) c.copy.ensures (omega arith) (omega arith)
