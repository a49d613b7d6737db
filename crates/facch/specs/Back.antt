-- The value that a record says, with what it does not keep: the first octet. Assumes nothing.
use Rattle.std.specs.Prelude.{[], ◌∷◌, ◌⊎◌, ℕ}
use Rattle.std.proofs.Math.Option.{Option}
use Rattle.std.proofs.Common.{inl, inr}
use Rattle.bits.specs.Field.{pick}
use Rattle.csn1.specs.Told.{there, as_bit}
use Rattle.call.specs.Call.{CallValue, call_value}
use Rattle.facch.specs.Message.{PagingValue, Release6Value, Release7Value, Value}
use Rattle.facch.specs.declared.Page.{Page}
use Rattle.facch.specs.declared.Release6.{Release6}
use Rattle.facch.specs.declared.Release7.{Release7}
use Rattle.facch.specs.declared.Notification.{Notification}

abbrev pub paging_value : Page → PagingValue
paging_value p = ((p.identityLength, p.identityFirst ∷ p.identityRest ∷ []), (p.channelFirst, there p.hasPriority p.priority))

abbrev pub notified_value : Notification → CallValue ⊎ PagingValue
notified_value m = pick m.paging (inr (paging_value m.page)) (inl (call_value m.call))

abbrev pub release6_value : Release6 → Release6Value
release6_value r =
    let counts : Option (ℕ × ℕ) = there r.hasCount (r.cellcount, as_bit r.b22) in
    let rand = there r.hasRandom r.rand in
    (counts, rand)

abbrev pub release7_value : Release7 → Release7Value
release7_value r =
    let uplink = as_bit r.uplink in
    let emergency = as_bit r.emergency in
    let cause = there r.hasCause (as_bit r.cause) in
    (uplink, (emergency, cause))

abbrev pub value_of : ℕ → Notification → Value
value_of first m =
    let six = there m.release6.hasRelease (release6_value m.release6) in
    let seven = there m.release7.hasRelease (release7_value m.release7) in
    (first, (notified_value m, (six, seven)))
