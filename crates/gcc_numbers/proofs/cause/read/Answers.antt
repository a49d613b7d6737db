-- `gcc_numbers::cause::read` meets its contract. Assumes nothing.
use mathlib.Core.Path.{refl}
use lib.ListN.{length}
use Rattle.gcc_numbers.proofs.CauseNumbers.{cause-told}
use Rattle.gcc_numbers.proofs.cause.read.Goals as goal

pub returns : goal.returns
returns c =
    let ns = c.args.numbers.now in
    rw (← c.read-m.ensures)
    (refl, cause-told (length ns) ns _ _ _ _ c.read-m.result.meaning c.clear.ensures c.put_meaning.ensures c.put_cause.ensures)
