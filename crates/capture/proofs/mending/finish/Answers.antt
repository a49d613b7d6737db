-- `capture::mending::finish` meets its contract. Assumes nothing.
use Rattle.std.proofs.Common.{[], sym, ◌∙◌}
use Rattle.capture.specs.Mending.{mending_of}
use Rattle.capture.proofs.Stepping.{not_begun, over_none, begun-torn}
use Rattle.capture.proofs.Mendings.{mend_ended-none, mend_ended-torn, mend_ended_place}
use Rattle.capture.proofs.mending.finish.Goals as goal
use Rattle.capture.proofs.mending.finish.Goals.{then-is_over-via-then-is_over, then-is_over-via-else-is_over+then-r-eq0}

pub returns-then-is_over-clause-place : goal.returns-then-is_over-clause-place
returns-then-is_over-clause-place c =
    let a = c.args in
    let room = sym c.has_room.ensures ∙ c.if-not-has_room.false in
    elim c.then-is_over.branch [
      | then-is_over-via-then-is_over w ↦
          mend_ended_place (mending_of a.m [] []) a.list.now a.listed a.listed room (mend_ended-none (mending_of a.m [] []) a.list.now a.listed room
          (over_none a.m.replay.got _ (sym c.is_over.ensures ∙ w.if-is_over.true))).0
      | then-is_over-via-else-is_over+then-r-eq0 w ↦
          mend_ended_place (mending_of a.m [] []) a.list.now a.listed a.listed room (mend_ended-none (mending_of a.m [] []) a.list.now a.listed room
          (not_begun _ a.m.replay.got w.if-r-eq0.true)).0
    ]

pub returns-then-is_over-clause-octets : goal.returns-then-is_over-clause-octets
returns-then-is_over-clause-octets c =
    let a = c.args in
    let room = sym c.has_room.ensures ∙ c.if-not-has_room.false in
    elim c.then-is_over.branch [
      | then-is_over-via-then-is_over w ↦
          (mend_ended-none (mending_of a.m [] []) a.list.now a.listed room
          (over_none a.m.replay.got _ (sym c.is_over.ensures ∙ w.if-is_over.true))).1
      | then-is_over-via-else-is_over+then-r-eq0 w ↦
          (mend_ended-none (mending_of a.m [] []) a.list.now a.listed room
          (not_begun _ a.m.replay.got w.if-r-eq0.true)).1
    ]

pub returns-clause-place : goal.returns-clause-place
returns-clause-place c =
    let a = c.args in
    let room = sym c.has_room.ensures ∙ c.if-not-has_room.false in
    let e = mend_ended-torn (mending_of a.m [] []) a.list.now a.listed room
    (begun-torn a.m.replay.got _ c.if-r-eq0.false (sym c.is_over.ensures ∙ c.if-is_over.false)) _ _ c.put_left.ensures in
    mend_ended_place (mending_of a.m [] []) a.list.now a.listed c.put_left.result room e.0

pub returns-clause-octets : goal.returns-clause-octets
returns-clause-octets c =
    let a = c.args in
    let room = sym c.has_room.ensures ∙ c.if-not-has_room.false in
    let e = mend_ended-torn (mending_of a.m [] []) a.list.now a.listed room
    (begun-torn a.m.replay.got _ c.if-r-eq0.false (sym c.is_over.ensures ∙ c.if-is_over.false)) _ _ c.put_left.ensures in
    e.1
