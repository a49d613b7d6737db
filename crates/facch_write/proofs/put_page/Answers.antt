-- `facch_write::put_page` meets its contract. Assumes nothing.
use Prim.Native.Nat.{◌+◌, ◌-◌, ◌*◌, ◌≤◌}
use Rattle.csn1.proofs.Flags.{flag_limit}
use Rattle.pen.specs.Words.{whole}
use Rattle.pen.proofs.Numbers.{put_whole}
use Rattle.facch_write.proofs.Placing.{page_put}
use Rattle.facch_write.proofs.Records.{RightPage, right_page, nine, octets-right}
use native.Mathlib.Omega.{arith}
use Rattle.facch_write.proofs.put_page.Goals as goal

pub overflow_sub-n : goal.overflow_sub-n
overflow_sub-n c =
    let few' : (1 ≤ c.args.p.identityLength) × (c.args.p.identityLength ≤ 9) = nine c.args.p.identityLength c.requires.1 in
    omega (arith, few'.0)

pub overflow_mul-n : goal.overflow_mul-n
overflow_mul-n c =
    let few' : (1 ≤ c.args.p.identityLength) × (c.args.p.identityLength ≤ 9) = nine c.args.p.identityLength c.requires.1 in
    omega (arith, few'.1)

pub channel-s-requires : goal.channel-s-requires
channel-s-requires c =
    let right' : RightPage c.args.p = right_page c.args.p c.requires.0 in
    let p = c.args.p in
    (right'.channel, flag_limit p.hasPriority p.priority 8 right'.priority (omega arith))

pub returns : goal.returns
returns c =
    let few' : (1 ≤ c.args.p.identityLength) × (c.args.p.identityLength ≤ 9) = nine c.args.p.identityLength c.requires.1 in
    let right' : RightPage c.args.p = right_page c.args.p c.requires.0 in
    let p = c.args.p in
    let o = octets-right p.identityLength p.identityFirst p.identityRest right'.identity few'.0 in
    page_put p (whole c.args.w) (whole c.put-first.result) (whole c.put-rest.result) (whole c.put.result) few'.0 few'.1 o.0 o.1
    (put_whole c.args.w c.put-first.result 16 (p.identityLength * 256 + p.identityFirst) (omega arith) c.put-first.ensures)
    (put_whole c.put-first.result c.put-rest.result (8 * (p.identityLength - 1)) p.identityRest (omega (arith, few'.1)) c.put-rest.ensures) c.channel-s.result c.channel-s.ensures
    (put_whole c.put-rest.result c.put.result c.channel-s.result.width c.channel-s.result.value (omega (arith, c.channel-s.ensures.few)) c.put.ensures)
