-- NT/N Rest Octets as numbers. Assumes nothing.
use Rattle.std.specs.Prelude.{List, [], ◌∷◌, ◌++◌, Bool, true, ◌≡◌, ℕ, ◌+◌, ◌≤◌, length, get_or, drop, eqb}
use Rattle.bits.specs.Field.{pick, first_due}
use Rattle.csn1.specs.Told.{is_one, as_bit}
use Rattle.arrays.specs.Limits.{within, flag, octet, word, long, times}
use Rattle.arrays.specs.Runs.{each, parts_from}
use Rattle.nch.specs.declared.Reduced.{Reduced}
use Rattle.nch.specs.declared.Random.{Random}
use Rattle.nch.specs.declared.Release6.{Release6}
use Rattle.nch.specs.declared.Release7.{Release7}
use Rattle.nch.specs.declared.Notification.{Notification}
use Rattle.nch.specs.Told.{read_of}
use Rattle.nch.specs.Write as records
use Rattle.nch.specs.CallNumbers.{call_numbers, call_most, Fields, whole, call_by}
use Rattle.nch.specs.Places.{numbered_at, nln_at, calls_at, first_call, call_length, most_calls, release6_at, counted_at, cellcount_at, reduceds_at, first_reduced, reduced_length, most_reduceds, randoms_at, first_random, random_length, most_randoms, release7_at, marks_at, first_mark, most_marks, uplinked_at, uplink_at, amr_at, fullrated_at, fullrate_at, halfrated_at, halfrate_at, sms_at, confidential_at, private_at, all_length}

-- ## A record's numbers

-- reference, service flag
unfoldable pub reduced_numbers : Reduced → List ℕ
reduced_numbers r = r.reference ∷ as_bit r.vgcs ∷ []

-- Segment Id, VSTK_RAND there, VSTK_RAND
unfoldable pub random_numbers : Random → List ℕ
random_numbers r = as_bit r.segment ∷ as_bit r.hasRandom ∷ r.rand ∷ []

-- Emergency_Ind
unfoldable pub mark_numbers : Bool → List ℕ
mark_numbers b = as_bit b ∷ []

-- Release 6 there, count there, CELL_GLOBAL_COUNT, how many reduced references, these; how many random entries, these
unfoldable pub release6_numbers : Release6 → List ℕ
release6_numbers r =
    (as_bit r.hasRelease ∷ as_bit r.hasCount ∷ r.cellcount ∷ r.reducedcount ∷ [])
    ++ each reduced_numbers r.reduced
    ++ (r.randomcount ∷ [])
    ++ each random_numbers r.randoms

-- uplink there, Priority Uplink Access, AMR there, FR AMR there, FR AMR Config, HR AMR there, HR AMR Config, SMS there, the two SMS bits
unfoldable pub parts_numbers : Release7 → List ℕ
parts_numbers r =
    as_bit r.hasUplink
    ∷ as_bit r.uplink
    ∷ as_bit r.hasAmr
    ∷ as_bit r.hasFullrate
    ∷ r.fullrate
    ∷ as_bit r.hasHalfrate
    ∷ r.halfrate
    ∷ as_bit r.hasSms
    ∷ as_bit r.confidential
    ∷ as_bit r.private
    ∷ []

-- Release 7 there, how many emergency marks, these, then the parts led by flags
unfoldable pub release7_numbers : Release7 → List ℕ
release7_numbers r = (as_bit r.hasRelease ∷ r.markcount ∷ []) ++ each mark_numbers r.marks ++ parts_numbers r

-- NLN there, NLN, how many calls, these, then the releases
unfoldable pub numbers_of : Notification → List ℕ
numbers_of m =
    (as_bit m.hasNln ∷ m.nln ∷ m.callcount ∷ [])
    ++ each call_numbers m.calls
    ++ release6_numbers m.release6
    ++ release7_numbers m.release7

-- what is read of any octets: the number of bits used, and behind it the record's numbers
unfoldable pub read_numbers : List ℕ → List ℕ
read_numbers s = (read_of s).used ∷ numbers_of (read_of s).«record»

-- ## A record from its numbers, each at its place behind the number of bits used

unfoldable pub reduced_by : Fields → List ℕ → ℕ → Reduced
reduced_by f ns at = record { reference = f.word (get_or ns at 0); vgcs = is_one (get_or ns (at + 1) 0) }

unfoldable pub random_from : List ℕ → ℕ → Random
random_from ns at = record { segment = is_one (get_or ns at 0); hasRandom = is_one (get_or ns (at + 1) 0); rand = get_or ns (at + 2) 0 }

unfoldable pub release6_by : Fields → List ℕ → Release6
release6_by f ns =
    record {
      hasRelease = is_one (get_or ns release6_at 0);
      hasCount = is_one (get_or ns counted_at 0);
      cellcount = f.octet (get_or ns cellcount_at 0);
      reducedcount = get_or ns reduceds_at 0;
      reduced = parts_from (reduced_by f ns) first_reduced reduced_length most_reduceds;
      randomcount = get_or ns randoms_at 0;
      randoms = parts_from (random_from ns) first_random random_length most_randoms;
    }

unfoldable pub release7_by : Fields → List ℕ → Release7
release7_by f ns =
    record {
      hasRelease = is_one (get_or ns release7_at 0);
      markcount = get_or ns marks_at 0;
      marks = parts_from (λ at. is_one (get_or ns at 0)) first_mark 1 most_marks;
      hasUplink = is_one (get_or ns uplinked_at 0);
      uplink = is_one (get_or ns uplink_at 0);
      hasAmr = is_one (get_or ns amr_at 0);
      hasFullrate = is_one (get_or ns fullrated_at 0);
      fullrate = f.octet (get_or ns fullrate_at 0);
      hasHalfrate = is_one (get_or ns halfrated_at 0);
      halfrate = f.octet (get_or ns halfrate_at 0);
      hasSms = is_one (get_or ns sms_at 0);
      confidential = is_one (get_or ns confidential_at 0);
      private = is_one (get_or ns private_at 0);
    }

unfoldable pub record_by : Fields → List ℕ → Notification
record_by f ns =
    record {
      hasNln = is_one (get_or ns numbered_at 0);
      nln = f.octet (get_or ns nln_at 0);
      callcount = get_or ns calls_at 0;
      calls = parts_from (call_by f ns) first_call call_length most_calls;
      release6 = release6_by f ns;
      release7 = release7_by f ns;
    }

abbrev pub record_from : List ℕ → Notification
record_from ns = record_by whole ns

-- ## Writing

-- the largest number of each field of a record
abbrev pub head_most : List ℕ
head_most = flag ∷ octet ∷ long ∷ []

abbrev pub reduced_most : List ℕ
reduced_most = word ∷ flag ∷ []

abbrev pub random_most : List ℕ
random_most = flag ∷ flag ∷ long ∷ []

abbrev pub release6_most : List ℕ
release6_most = (flag ∷ flag ∷ octet ∷ long ∷ []) ++ times most_reduceds reduced_most ++ (long ∷ []) ++ times most_randoms random_most

abbrev pub parts_most : List ℕ
parts_most = flag ∷ flag ∷ flag ∷ flag ∷ octet ∷ flag ∷ octet ∷ flag ∷ flag ∷ flag ∷ []

abbrev pub release7_most : List ℕ
release7_most = (flag ∷ long ∷ []) ++ times most_marks (flag ∷ []) ++ parts_most

unfoldable pub most : List ℕ
most = head_most ++ times most_calls call_most ++ release6_most ++ release7_most

-- every field of the record can hold its number; the number of bits used is not looked at
abbrev pub fields_hold : List ℕ → Bool
fields_hold ns = within (drop numbered_at ns) most

-- there are as many numbers as a reader leaves, or more, and each fits its field
pub record Fits (ns : List ℕ) : Type 0 where
  pub long : all_length ≤ length ns
  pub held : fields_hold ns ≡ true

-- 13 where there are not as many numbers as a reader leaves, 12 where a field cannot hold its number, then what the writer refuses of the record and n octets
unfoldable pub write_code : List ℕ → ℕ → ℕ
write_code ns n = first_due ((eqb (length ns) all_length, 13) ∷ (fields_hold ns, 12) ∷ records.write_tests (record_from ns) n)

-- what the writer leaves of the octets b: where it refuses, b
unfoldable pub after_write : List ℕ → List ℕ → List ℕ
after_write ns b = pick (eqb (length ns) all_length) (pick (fields_hold ns) (records.after_write (record_from ns) b) b) b
