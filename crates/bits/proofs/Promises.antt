-- The promises of specs/Promises, from the laws of fields. Assumes nothing.
use Prim.Native.Nat.{◌+◌, ◌*◌, ◌^◌, ◌≤◌}
use lib.ListN.{length}
use lib.Dec.{leb, ltb}
use borrow.Author.Tests.{leb-true, ltb-true}
use Rattle.bits.specs.Field.{inside, fetched, can_put, after_put}
use Rattle.bits.specs.Promises.{AFieldIsBelowItsWidth, AFieldIsItsTwoParts, WhatWasPutIsReadBack, NothingElseIsTouched, WhatIsPutIsFound}
use Rattle.bits.proofs.Laws.{field_lt, field-split, field-set-same, field-set-other, length-set_field}
use Rattle.bits.proofs.Answers.{both_true}

pub a_field_is_below_its_width : AFieldIsBelowItsWidth
a_field_is_below_its_width = field_lt

pub a_field_is_its_two_parts : AFieldIsItsTwoParts
a_field_is_its_two_parts = field-split

pub what_was_put_is_read_back : WhatWasPutIsReadBack
what_was_put_is_read_back = field-set-same

pub nothing_else_is_touched : NothingElseIsTouched
nothing_else_is_touched s at w v = (length-set_field s at w v, λ p n d. field-set-other s at w v p n d)

pub what_is_put_is_found : WhatIsPutIsFound
unfolding fetched can_put after_put
what_is_put_is_found s at w v e =
    let a = both_true (inside s at w) (ltb v (2 ^ w)) e in
    let b = both_true (leb w 64) (leb (at + w) (length s * 8)) a.0 in
    let h : at + w ≤ length s * 8 = leb-true (at + w) (length s * 8) b.1 in
    rw (e, length-set_field s at w v, a.0, field-set-same s at w v (ltb-true v (2 ^ w) a.1) h)
