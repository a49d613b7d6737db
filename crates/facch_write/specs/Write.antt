-- What the writer of NOTIFICATION/FACCH refuses, in document 01's order, and the octets that it leaves. Assumes nothing.
use Rattle.std.specs.Prelude.{List, [], ◌∷◌, ◌++◌, Bool, true, not, ℕ, ◌-◌, ◌*◌, ◌^◌, length, replicate, leb, ltb, eqb}
use Rattle.bits.specs.Field.{both, pick, first_due}
use Rattle.csn1.specs.Format.{put_bits}
use Rattle.csn1.specs.Write.{flagged_right, behind}
use Rattle.call.specs.Write.{call_in_range, call_is_zero, call_is_low, call_length_right, call_hops_right}
use Rattle.facch.specs.declared.Page.{Page}
use Rattle.facch.specs.declared.Release6.{Release6}
use Rattle.facch.specs.declared.Release7.{Release7}
use Rattle.facch.specs.declared.Notification.{Notification}
use Rattle.facch.specs.Message.{one_to_nine, notification}
use Rattle.facch.specs.Back.{value_of}
use Rattle.facch_write.specs.declared.Written.{Written}

-- ## 12: a field out of its range, or anything but zero in an absent part or an unused place

-- a mobile identity of n octets: the first, zero where there is none, and the others; of none or one these have no bits, and only 0 is below 2 ^ 0
abbrev pub identity_in_range : ℕ → ℕ → ℕ → Bool
identity_in_range n first rest = both (pick (eqb n 0) (eqb first 0) (ltb first (2 ^ 8))) (ltb rest (2 ^ (8 * (n - 1))))

unfoldable pub page_in_range : Page → Bool
page_in_range p =
    both (identity_in_range p.identityLength p.identityFirst p.identityRest)
    (both (ltb p.channelFirst 4) (flagged_right p.hasPriority p.priority 8))

-- nobody is paged
unfoldable pub page_is_zero : Page → Bool
page_is_zero p =
    both (eqb p.identityLength 0)
    (both (eqb p.identityFirst 0)
    (both (eqb p.identityRest 0) (both (eqb p.channelFirst 0) (both (not p.hasPriority) (eqb p.priority 0)))))

-- of a call and a page the one that is not notified is zero
unfoldable pub notified_in_range : Notification → Bool
notified_in_range m =
    pick m.paging (both (call_is_zero m.call) (page_in_range m.page)) (both (call_in_range m.call) (page_is_zero m.page))

-- an absent release has no flags, and a flag that is not set has nothing behind it
unfoldable pub release6_in_range : Release6 → Bool
release6_in_range r =
    both (behind r.hasRelease r.hasCount)
    (both (behind r.hasRelease r.hasRandom)
    (both (flagged_right r.hasCount r.cellcount 4) (both (behind r.hasCount r.b22) (flagged_right r.hasRandom r.rand (2 ^ 36)))))

unfoldable pub release7_in_range : Release7 → Bool
release7_in_range r =
    both (behind r.hasRelease r.uplink)
    (both (behind r.hasRelease r.emergency) (both (behind r.hasRelease r.hasCause) (behind r.hasCause r.cause)))

unfoldable pub in_range : Notification → Bool
in_range m = both (notified_in_range m) (both (release6_in_range m.release6) (release7_in_range m.release7))

-- ## 8: a mobile identity's length not 1 to 9

unfoldable pub identity_right : Notification → Bool
identity_right m = pick m.paging (one_to_nine m.page.identityLength) true

-- ## The first of these that is due

-- each test with the number of its refusal, in document 01's order, 8 after 3; a call that is not notified is zero and passes 4, 3 and 5
abbrev pub record_tests : Notification → List (Bool × ℕ)
record_tests m =
    (in_range m, 12)
    ∷ (call_is_low m.call, 4)
    ∷ (call_length_right m.call, 3)
    ∷ (identity_right m, 8)
    ∷ (call_hops_right m.call, 5)
    ∷ []

unfoldable pub record_refusal : Notification → ℕ
record_refusal m = first_due (record_tests m)

-- ## 11: a buffer of another size than 2 to 23 octets, or too small for the written form

-- the bits of a record's written form in n octets, padding left out; the octet that readers skip is zero
unfoldable pub form : Notification → ℕ → List ℕ
form m n = notification.bits (n * 8) 0 (value_of 0 m)

abbrev pub form_fits : Notification → ℕ → Bool
form_fits m n = both (both (leb 2 n) (leb n 23)) (leb (length (form m n)) (n * 8))

-- ## The answer

-- 11 is the last test
abbrev pub write_tests : Notification → ℕ → List (Bool × ℕ)
write_tests m n = record_tests m ++ ((form_fits m n, 11) ∷ [])

-- the number of the refusal, and 0 where the record is written into a buffer of n octets
unfoldable pub write_number : Notification → ℕ → ℕ
write_number m n = first_due (write_tests m n)

-- with the bits used, padding left out, or 0 where the record is refused
unfoldable pub answer_of : Notification → ℕ → Written
answer_of m n = record { refusal = write_number m n; used = pick (eqb (write_number m n) 0) (length (form m n)) 0 }

-- the written form over n octets of padding
unfoldable pub written : Notification → ℕ → List ℕ
written m n = put_bits (replicate n 43) 0 (form m n)

-- what a buffer b then holds: where the record was refused, what it held
unfoldable pub after_write : Notification → List ℕ → List ℕ
after_write m b = pick (eqb (write_number m (length b)) 0) (written m (length b)) b
