-- `arrays::fill::store` meets its contract. Assumes nothing.
use Rattle.arrays.proofs.Filling.{stored-all}
use Rattle.arrays.proofs.fill.store.Goals as goal

pub returns : goal.returns
returns c =
    let a = c.args in
    stored-all a.values.now a.numbers.now _ _ c.copy.ensures c.copy.auto.numbers c.clear.ensures
