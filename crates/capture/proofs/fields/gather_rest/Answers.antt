-- `capture::fields::gather_rest` meets its contract. Assumes nothing.
use Rattle.std.proofs.Common.{arith}
use Rattle.capture.proofs.Copied.{rest_part, rest_all}
use Rattle.capture.proofs.fields.gather_rest.Goals as goal

pub returns-then-piece-n : goal.returns-then-piece-n
returns-then-piece-n c =
    let a = c.args in
    let w = rw c.length_in.ensures.0 at c.octets_to-n.ensures in
    rw c.copy.ensures (rest_part a.piece.now a.kept.now a.got c.requires.1 (omega (arith, w, c.if-piece-n.true)))

pub returns : goal.returns
returns c =
    let a = c.args in
    let w = rw c.length_in.ensures.0 at c.octets_to-n.ensures in
    rw c.copy-2.ensures (rest_all a.piece.now a.kept.now a.got c.octets_to-n.result c.requires.1 w c.if-piece-n.false)
