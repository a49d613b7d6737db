-- `capture::fields::copy` meets its contract. Assumes nothing.
use Rattle.std.proofs.Common.{arith, ◌+◌, ◌-◌}
use Rattle.capture.proofs.Copied.{none-copied, part-copied}
use Rattle.capture.proofs.fields.copy.Goals as goal

pub returns-then-got-lt-KEPT : goal.returns-then-got-lt-KEPT
returns-then-got-lt-KEPT c =
    let a = c.args in
    let n = c.min-n.result in
    part-copied a.kept.now a.got a.piece.now n (a.got + n - a.got) c.copy_from_slice.new.self (omega arith) (omega arith) (rw c.requires c.min-n.ensures) c.copy_from_slice.ensures.after

pub returns-else-got-lt-KEPT : goal.returns-else-got-lt-KEPT
returns-else-got-lt-KEPT c =
    let a = c.args in
    none-copied a.kept.now a.got a.piece.now (omega arith)
