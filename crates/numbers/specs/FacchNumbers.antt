-- NOTIFICATION/FACCH as numbers, and back. Assumes nothing.
use Rattle.std.specs.Prelude.{List, [], ◌∷◌, ◌++◌, Bool, ℕ, length, get_or, drop, eqb}
use Rattle.bits.specs.Field.{pick, first_due}
use Rattle.csn1.specs.Told.{is_one, as_bit}
use Rattle.arrays.specs.Limits.{within, flag, octet, long}
use Rattle.facch.specs.declared.Page.{Page}
use Rattle.facch.specs.declared.Release6.{Release6}
use Rattle.facch.specs.declared.Release7.{Release7}
use Rattle.facch.specs.declared.Notification.{Notification}
use Rattle.facch.specs.Told.{read_of}
use Rattle.facch_write.specs.Write as records
use Rattle.nch.specs.CallNumbers.{call_numbers, call_most, call_from_of}
use Rattle.numbers.specs.FacchPlaces.{paging_at, call_at, identity_length_at, identity_first_at, identity_rest_at, channel_first_at, prioritized_at, priority_at, release6_at, counted_at, cellcount_at, b22_at, random_at, rand_at, release7_at, uplink_at, emergency_at, caused_at, cause_at, all_length}

-- ## A record's numbers

-- length of the mobile identity, its first octet, its other octets as one number, channel first, eMLPP priority there, eMLPP priority
abbrev pub page_numbers : Page → List ℕ
page_numbers p = p.identityLength ∷ p.identityFirst ∷ p.identityRest ∷ p.channelFirst ∷ as_bit p.hasPriority ∷ p.priority ∷ []

-- Release 6 there, count there, CELL_GLOBAL_COUNT, B22_COUNT, VSTK_RAND there, VSTK_RAND
abbrev pub release6_numbers : Release6 → List ℕ
release6_numbers r = as_bit r.hasRelease ∷ as_bit r.hasCount ∷ r.cellcount ∷ as_bit r.b22 ∷ as_bit r.hasRandom ∷ r.rand ∷ []

-- Release 7 there, Priority Uplink Access, emergency, Paging Cause there, Paging Cause
abbrev pub release7_numbers : Release7 → List ℕ
release7_numbers r = as_bit r.hasRelease ∷ as_bit r.uplink ∷ as_bit r.emergency ∷ as_bit r.hasCause ∷ as_bit r.cause ∷ []

-- 29 numbers: a call or paging, the call, the page, the releases
unfoldable pub numbers_of : Notification → List ℕ
numbers_of m =
    (as_bit m.paging ∷ []) ++ call_numbers m.call ++ page_numbers m.page ++ release6_numbers m.release6 ++ release7_numbers m.release7

-- what is read of any octets: the number of bits used, and behind it the record's numbers
unfoldable pub read_numbers : List ℕ → List ℕ
read_numbers s = (read_of s).used ∷ numbers_of (read_of s).«record»

-- ## A record from its numbers, each at its place behind the number of bits used

unfoldable pub page_from : List ℕ → Page
page_from ns =
    record {
      identityLength = get_or ns identity_length_at 0;
      identityFirst = get_or ns identity_first_at 0;
      identityRest = get_or ns identity_rest_at 0;
      channelFirst = get_or ns channel_first_at 0;
      hasPriority = is_one (get_or ns prioritized_at 0);
      priority = get_or ns priority_at 0;
    }

unfoldable pub release6_from : List ℕ → Release6
release6_from ns =
    record {
      hasRelease = is_one (get_or ns release6_at 0);
      hasCount = is_one (get_or ns counted_at 0);
      cellcount = get_or ns cellcount_at 0;
      b22 = is_one (get_or ns b22_at 0);
      hasRandom = is_one (get_or ns random_at 0);
      rand = get_or ns rand_at 0;
    }

unfoldable pub release7_from : List ℕ → Release7
release7_from ns =
    record {
      hasRelease = is_one (get_or ns release7_at 0);
      uplink = is_one (get_or ns uplink_at 0);
      emergency = is_one (get_or ns emergency_at 0);
      hasCause = is_one (get_or ns caused_at 0);
      cause = is_one (get_or ns cause_at 0);
    }

unfoldable pub record_from : List ℕ → Notification
record_from ns =
    record {
      paging = is_one (get_or ns paging_at 0);
      call = call_from_of ns call_at;
      page = page_from ns;
      release6 = release6_from ns;
      release7 = release7_from ns;
    }

-- ## Writing

-- the largest number of each field of a record
abbrev pub page_most : List ℕ
page_most = octet ∷ octet ∷ long ∷ octet ∷ flag ∷ octet ∷ []

abbrev pub release6_most : List ℕ
release6_most = flag ∷ flag ∷ octet ∷ flag ∷ flag ∷ long ∷ []

abbrev pub release7_most : List ℕ
release7_most = flag ∷ flag ∷ flag ∷ flag ∷ flag ∷ []

unfoldable pub most : List ℕ
most = (flag ∷ []) ++ call_most ++ page_most ++ release6_most ++ release7_most

-- every field of the record can hold its number; the number of bits used is not looked at
abbrev pub fields_hold : List ℕ → Bool
fields_hold ns = within (drop paging_at ns) most

-- 13 where there are not as many numbers as a reader leaves, 12 where a field cannot hold its number, then what the writer refuses of the record and n octets
unfoldable pub write_code : List ℕ → ℕ → ℕ
write_code ns n = first_due ((eqb (length ns) all_length, 13) ∷ (fields_hold ns, 12) ∷ records.write_tests (record_from ns) n)

-- what the writer leaves of the octets b: where it refuses, b
unfoldable pub after_write : List ℕ → List ℕ → List ℕ
after_write ns b = pick (eqb (length ns) all_length) (pick (fields_hold ns) (records.after_write (record_from ns) b) b) b
