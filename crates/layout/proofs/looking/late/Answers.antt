-- `layout::looking::late` meets its contract. Assumes nothing.
use Rattle.layout.proofs.NoneOut.{late-said}
use Rattle.layout.proofs.looking.late.Goals as goal

pub elapsed-requires : goal.elapsed-requires
elapsed-requires c = tt

pub returns : goal.returns
returns c =
    let a = c.args in
    late-said a.tick a.b.now a.i _ _ _ c.requires.1.1 c.u32_at.ensures c.elapsed.ensures
