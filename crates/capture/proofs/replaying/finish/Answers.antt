-- `capture::replaying::finish` meets its contract. Assumes nothing.
use Rattle.std.proofs.Common.{[], sym, ◌∙◌}
use Rattle.capture.specs.Machine.{machine_of}
use Rattle.capture.proofs.Stepping.{ended_none, ended_torn, ended_place, not_begun, over_none, begun-torn}
use Rattle.capture.proofs.replaying.finish.Goals as goal
use Rattle.capture.proofs.replaying.finish.Goals.{then-is_over-via-then-is_over, then-is_over-via-else-is_over+then-r-eq0}

pub returns-then-is_over-clause-place : goal.returns-then-is_over-clause-place
returns-then-is_over-clause-place c =
    let a = c.args in
    let room = sym c.has_room.ensures ∙ c.if-not-has_room.false in
    elim c.then-is_over.branch [
      | then-is_over-via-then-is_over w ↦
          ended_place (machine_of a.r a.kept.now []) a.out.now a.at a.at room (ended_none (machine_of a.r a.kept.now []) a.out.now a.at room
          (over_none a.r.got _ (sym c.is_over.ensures ∙ w.if-is_over.true))).0
      | then-is_over-via-else-is_over+then-r-eq0 w ↦
          ended_place (machine_of a.r a.kept.now []) a.out.now a.at a.at room (ended_none (machine_of a.r a.kept.now []) a.out.now a.at room
          (not_begun _ a.r.got w.if-r-eq0.true)).0
    ]

pub returns-then-is_over-clause-octets : goal.returns-then-is_over-clause-octets
returns-then-is_over-clause-octets c =
    let a = c.args in
    let room = sym c.has_room.ensures ∙ c.if-not-has_room.false in
    elim c.then-is_over.branch [
      | then-is_over-via-then-is_over w ↦
          (ended_none (machine_of a.r a.kept.now []) a.out.now a.at room
          (over_none a.r.got _ (sym c.is_over.ensures ∙ w.if-is_over.true))).1
      | then-is_over-via-else-is_over+then-r-eq0 w ↦
          (ended_none (machine_of a.r a.kept.now []) a.out.now a.at room
          (not_begun _ a.r.got w.if-r-eq0.true)).1
    ]

pub returns-clause-place : goal.returns-clause-place
returns-clause-place c =
    let a = c.args in
    let room = sym c.has_room.ensures ∙ c.if-not-has_room.false in
    let e = ended_torn (machine_of a.r a.kept.now []) a.out.now a.at room
    (begun-torn a.r.got _ c.if-r-eq0.false (sym c.is_over.ensures ∙ c.if-is_over.false)) _ _ _ c.tag_of.ensures c.put_field.ensures in
    ended_place (machine_of a.r a.kept.now []) a.out.now a.at c.put_field.result room e.0

pub returns-clause-octets : goal.returns-clause-octets
returns-clause-octets c =
    let a = c.args in
    let room = sym c.has_room.ensures ∙ c.if-not-has_room.false in
    let e = ended_torn (machine_of a.r a.kept.now []) a.out.now a.at room
    (begun-torn a.r.got _ c.if-r-eq0.false (sym c.is_over.ensures ∙ c.if-is_over.false)) _ _ _ c.tag_of.ensures c.put_field.ensures in
    e.1
