-- `capture::lines::put_field` meets its contract. Assumes nothing.
use Rattle.std.proofs.Common.{arith}
use Rattle.capture.proofs.Telling.{room_next, four-added}
use Rattle.capture.proofs.lines.put_field.Goals as goal

pub put_number-at-requires-2 : goal.put_number-at-requires-2
put_number-at-requires-2 c =
    let r = room_next 63 _ _ _ _ _ _ (omega (arith, c.requires)) c.put_number-at.ensures in
    omega arith

pub put_number-at-requires-3 : goal.put_number-at-requires-3
put_number-at-requires-3 c =
    let r = room_next 63 _ _ _ _ _ _ (omega (arith, c.requires)) c.put_number-at.ensures in
    let s = room_next 42 _ _ _ _ _ _ (omega arith) c.put_number-at-2.ensures in
    omega arith

pub put_number-requires : goal.put_number-requires
put_number-requires c =
    let r = room_next 63 _ _ _ _ _ _ (omega (arith, c.requires)) c.put_number-at.ensures in
    let s = room_next 42 _ _ _ _ _ _ (omega arith) c.put_number-at-2.ensures in
    room_next 21 _ _ _ _ _ _ (omega arith) c.put_number-at-3.ensures

pub returns : goal.returns
returns c =
    let a = c.args in
    four-added a.out.now a.at (omega (arith, c.requires)) a.number a.tag a.refusal a.dropped _ _ _ _
    c.put_number-at.ensures c.put_number-at-2.ensures c.put_number-at-3.ensures c.put_number.ensures
