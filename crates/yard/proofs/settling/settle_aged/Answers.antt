-- `yard::settling::settle_aged` meets its contract. Assumes nothing.
use Rattle.yard.proofs.Quiet.{settled_quietly}
use Rattle.yard.proofs.settling.settle_aged.Goals as goal

pub is_quiet-requires : goal.is_quiet-requires
is_quiet-requires c = c.requires

pub returns-then-is_quiet : goal.returns-then-is_quiet
returns-then-is_quiet c =
    let q = c.is_quiet.ensures c.if-is_quiet.true in
    settled_quietly c.args.time c.args.b.now q.0 q.1

pub settle-requires : goal.settle-requires
settle-requires c = c.requires

pub returns : goal.returns
returns c = c.settle.ensures
