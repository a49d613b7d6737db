-- `facch_write::write` meets its contract. Assumes nothing.
use mathlib.Core.Path.{◌≡◌, refl, sym, ◌∙◌}
use Prim.Native.Nat.{ℕ, ◌+◌, ◌≤◌}
use lib.ListN.{length}
use Rattle.pen.specs.Words.{whole}
use Rattle.pen.proofs.Numbers.{put_whole}
use Rattle.facch_write.specs.Write.{record_refusal, form}
use Rattle.facch_write.proofs.Placing.{used-is, all_put, write_refused, write_small, write_large, write_long, write_done}
use Rattle.facch_write.proofs.Records.{right}
use native.Mathlib.Omega.{arith}
use Rattle.facch_write.proofs.write.Goals as goal

pub returns-then-refusal-ne0 : goal.returns-then-refusal-ne0
returns-then-refusal-ne0 c =
    let a = c.args in
    write_refused a.m a.buffer.now c.refusal-refusal.result c.refusal-refusal.ensures c.if-refusal-ne0.true

pub returns-then-n-lt2 : goal.returns-then-n-lt2
returns-then-n-lt2 c =
    let a = c.args in
    write_small a.m a.buffer.now c.refusal-refusal.result c.refusal-refusal.ensures c.if-refusal-ne0.false (omega arith)

pub returns-then-n-gt23 : goal.returns-then-n-gt23
returns-then-n-gt23 c =
    let a = c.args in
    write_large a.m a.buffer.now c.refusal-refusal.result c.refusal-refusal.ensures c.if-refusal-ne0.false (omega arith)

pub head_size-a-requires : goal.head_size-a-requires
head_size-a-requires c =
    let no_refusal' : record_refusal c.args.m ≡ 0 = sym c.refusal-refusal.ensures ∙ c.if-refusal-ne0.false in
    no_refusal'

pub overflow_mul-n : goal.overflow_mul-n
overflow_mul-n c =
    let most' : length c.args.buffer.now ≤ 23 = omega arith in
    omega (arith, most')

pub release6-six-requires : goal.release6-six-requires
release6-six-requires c =
    let no_refusal' : record_refusal c.args.m ≡ 0 = sym c.refusal-refusal.ensures ∙ c.if-refusal-ne0.false in
    (right c.args.m no_refusal').six

pub overflow_add-b : goal.overflow_add-b
overflow_add-b c = omega (arith, c.head_size-a.ensures.1, c.release6-six.ensures.few)

pub overflow_mul-n-2 : goal.overflow_mul-n-2
overflow_mul-n-2 c =
    let most' : length c.args.buffer.now ≤ 23 = omega arith in
    omega (arith, most')

pub release7-seven-requires : goal.release7-seven-requires
release7-seven-requires c =
    let no_refusal' : record_refusal c.args.m ≡ 0 = sym c.refusal-refusal.ensures ∙ c.if-refusal-ne0.false in
    (omega (arith, c.head_size-a.ensures.1, c.release6-six.ensures.few), (right c.args.m no_refusal').seven)

pub overflow_add-used : goal.overflow_add-used
overflow_add-used c = omega (arith, c.head_size-a.ensures.1, c.release6-six.ensures.few, c.release7-seven.ensures.few)

pub overflow_mul-n-3 : goal.overflow_mul-n-3
overflow_mul-n-3 c =
    let most' : length c.args.buffer.now ≤ 23 = omega arith in
    omega (arith, most')

pub returns-then-n-used : goal.returns-then-n-used
returns-then-n-used c =
    let two-octets' : 2 ≤ length c.args.buffer.now = omega arith in
    let most' : length c.args.buffer.now ≤ 23 = omega arith in
    let end' : ℕ = c.head_size-a.result + c.release6-six.result.width + c.release7-seven.result.width in
    let end_is' : end' ≡ length (form c.args.m (length c.args.buffer.now)) =
    used-is c.args.m (length c.args.buffer.now) c.head_size-a.result c.release6-six.result c.release7-seven.result c.head_size-a.ensures.0 c.release6-six.ensures c.release7-seven.ensures in
    write_long c.args.m c.args.buffer.now c.refusal-refusal.result c.refusal-refusal.ensures c.if-refusal-ne0.false two-octets' most' end' end_is' (omega arith)

pub put_head-head-requires : goal.put_head-head-requires
put_head-head-requires c =
    let no_refusal' : record_refusal c.args.m ≡ 0 = sym c.refusal-refusal.ensures ∙ c.if-refusal-ne0.false in
    no_refusal'

pub returns : goal.returns
returns c =
    let two-octets' : 2 ≤ length c.args.buffer.now = omega arith in
    let most' : length c.args.buffer.now ≤ 23 = omega arith in
    let end' : ℕ = c.head_size-a.result + c.release6-six.result.width + c.release7-seven.result.width in
    let end_is' : end' ≡ length (form c.args.m (length c.args.buffer.now)) =
    used-is c.args.m (length c.args.buffer.now) c.head_size-a.result c.release6-six.result c.release7-seven.result c.head_size-a.ensures.0 c.release6-six.ensures c.release7-seven.ensures in
    let fit = c.if-n-used.false in
    let all =
    all_put c.args.m (length c.args.buffer.now) c.head_size-a.result c.release6-six.result c.release7-seven.result c.head_size-a.ensures.0 c.release6-six.ensures c.release7-seven.ensures
    c.put-all.result (whole c.put_head-head.result) (whole c.put-later.result) c.args.buffer.now c.store.new.octets refl most' c.put_head-head.ensures
    (put_whole c.put_head-head.result c.put-later.result c.release6-six.result.width c.release6-six.result.value (omega (arith, c.release6-six.ensures.few)) c.put-later.ensures)
    (put_whole c.put-later.result c.put-all.result c.release7-seven.result.width c.release7-seven.result.value (omega (arith, c.release7-seven.ensures.few)) c.put-all.ensures) fit c.store.ensures in
    write_done c.args.m c.args.buffer.now c.refusal-refusal.result c.refusal-refusal.ensures c.if-refusal-ne0.false two-octets' most' end' end_is' fit c.store.new.octets all
