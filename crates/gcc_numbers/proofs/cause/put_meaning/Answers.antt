-- `gcc_numbers::cause::put_meaning` meets its contract. Assumes nothing.
use Rattle.gcc_numbers.proofs.CauseNumbers.{meaning_put}
use Rattle.gcc_numbers.proofs.cause.put_meaning.Goals as goal

pub returns : goal.returns
returns c =
    let a = c.args in
    meaning_put a.numbers.now _ _ a.meaning _ _ c.kind_of.ensures c.value_of.ensures c.put.ensures c.put-2.ensures
