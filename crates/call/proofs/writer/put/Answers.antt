-- `call::writer::put` meets its contract. Assumes nothing.
use mathlib.Core.Path.{◌≡◌, ap, ◌∙◌}
use mathlib.Core.List.{List}
use mathlib.Core.Bool.{true}
use Prim.Native.Nat.{ℕ}
use Rattle.bits.specs.Field.{after_put}
use Rattle.csn1.specs.Format.{put_bits}
use Rattle.call.specs.Call.{group_call, call_value}
use Rattle.call.specs.Write.{can_put_call, after_put_call}
use Rattle.call.specs.Inner.{Room, head_number}
use Rattle.call.proofs.Put.{put_wrong, put_full, put_room, put_done, plain_put, described_put, description-room}
use native.Mathlib.Omega.{arith}
use Rattle.call.proofs.writer.put.Goals as goal

pub returns-then-not-is_right : goal.returns-then-not-is_right
returns-then-not-is_right c = let a = c.args in put_wrong a.buf.now a.at a.c c.is_right.result c.is_right.ensures c.if-not-is_right.true-raw

pub returns-then-not-has_room : goal.returns-then-not-has_room
returns-then-not-has_room c =
    let a = c.args in
    put_full a.buf.now a.at a.c _ _ _ c.is_right.ensures c.has_room.ensures c.size.ensures c.if-not-is_right.false-raw c.if-not-has_room.true-raw

pub overflow_add-at : goal.overflow_add-at
overflow_add-at c =
    let room' : Room group_call (call_value c.args.c) c.args.buf.now c.args.at =
    put_room c.args.buf.now c.args.at c.args.c _ _ _ c.is_right.ensures c.has_room.ensures c.size.ensures c.if-not-is_right.false-raw c.if-not-has_room.false-raw in
    let r = room' in omega (arith, r.enough, r.few)

pub put_description-requires : goal.put_description-requires
put_description-requires c =
    let room' : Room group_call (call_value c.args.c) c.args.buf.now c.args.at =
    put_room c.args.buf.now c.args.at c.args.c _ _ _ c.is_right.ensures c.has_room.ensures c.size.ensures c.if-not-is_right.false-raw c.if-not-has_room.false-raw in
    let headed' : c.put.new.buf ≡ after_put c.args.buf.now c.args.at 37 (head_number c.args.c) = c.put.ensures.1 ∙ ap (after_put c.args.buf.now c.args.at 37) c.head.ensures in
    description-room c.args.buf.now c.put.new.buf c.args.at c.args.c room' headed' c.if-c.true

pub returns-then-c : goal.returns-then-c
returns-then-c c =
    let room' : Room group_call (call_value c.args.c) c.args.buf.now c.args.at =
    put_room c.args.buf.now c.args.at c.args.c _ _ _ c.is_right.ensures c.has_room.ensures c.size.ensures c.if-not-is_right.false-raw c.if-not-has_room.false-raw in
    let done' : (d : List ℕ) → d ≡ put_bits c.args.buf.now c.args.at (group_call.bits 0 0 (call_value c.args.c)) → (true ≡ can_put_call c.args.buf.now c.args.at c.args.c) ×
    (d ≡ after_put_call c.args.buf.now c.args.at c.args.c) =
    put_done c.args.buf.now c.args.at c.args.c _ _ _ c.is_right.ensures c.has_room.ensures c.size.ensures c.if-not-is_right.false-raw c.if-not-has_room.false-raw in
    let headed' : c.put.new.buf ≡ after_put c.args.buf.now c.args.at 37 (head_number c.args.c) = c.put.ensures.1 ∙ ap (after_put c.args.buf.now c.args.at 37) c.head.ensures in
    done' c.put_description.new.buf (c.put_description.ensures ∙ described_put c.args.buf.now c.put.new.buf c.args.at c.args.c room' headed' c.if-c.true)

pub returns-else-c : goal.returns-else-c
returns-else-c c =
    let room' : Room group_call (call_value c.args.c) c.args.buf.now c.args.at =
    put_room c.args.buf.now c.args.at c.args.c _ _ _ c.is_right.ensures c.has_room.ensures c.size.ensures c.if-not-is_right.false-raw c.if-not-has_room.false-raw in
    let done' : (d : List ℕ) → d ≡ put_bits c.args.buf.now c.args.at (group_call.bits 0 0 (call_value c.args.c)) → (true ≡ can_put_call c.args.buf.now c.args.at c.args.c) ×
    (d ≡ after_put_call c.args.buf.now c.args.at c.args.c) =
    put_done c.args.buf.now c.args.at c.args.c _ _ _ c.is_right.ensures c.has_room.ensures c.size.ensures c.if-not-is_right.false-raw c.if-not-has_room.false-raw in
    let headed' : c.put.new.buf ≡ after_put c.args.buf.now c.args.at 37 (head_number c.args.c) = c.put.ensures.1 ∙ ap (after_put c.args.buf.now c.args.at 37) c.head.ensures in
    done' c.put.new.buf (plain_put c.args.buf.now c.put.new.buf c.args.at c.args.c room' headed' c.if-c.false)
