-- The record of a notification: from the value that was read, and back. Assumes nothing.
use Rattle.std.specs.Prelude.{◌≡◌, List, [], ◌∷◌, map, Bool, true, false, ℕ, length, take}
use Rattle.std.proofs.Math.Option.{Option, none, some}
use Rattle.csn1.specs.Format.{Res, ok, bad, no_refusal}
use Rattle.csn1.specs.Told.{is_there, or_zero, there, is_one, as_bit, or_false, padded}
use Rattle.call.specs.Call.{call_reference, service_flag, call_of, call_value, no_call}
use Rattle.nch.specs.Places.{most_calls, most_reduceds, most_randoms, most_marks}
use Rattle.nch.specs.Octets.{segment_id, vstk_rand, Release6Value, cell_global_count, reduced_references, random_entries}
use Rattle.nch.specs.Octets.{AmrValue, fr_amr_config, hr_amr_config, data_confidentiality, guaranteed_privacy, Release7Value, emergency_marks, uplink_access, amr_part, sms_part}
use Rattle.nch.specs.Octets.{Value, nln_part, call_list, release6_part, release7_part, read_octets}
use Rattle.nch.specs.declared.Reduced.{Reduced}
use Rattle.nch.specs.declared.Random.{Random}
use Rattle.nch.specs.declared.Release6.{Release6}
use Rattle.nch.specs.declared.Release7.{Release7}
use Rattle.nch.specs.declared.Notification.{Notification}
use Rattle.nch.specs.declared.Reading.{Reading}

-- ## Release 6

abbrev pub reduced_of : List ℕ → Reduced
reduced_of c = record { reference = call_reference c; vgcs = is_one (service_flag c) }

abbrev pub no_reduced : Reduced
no_reduced = record { reference = 0; vgcs = false }

abbrev pub random_of : ℕ × Option ℕ → Random
random_of v = record { segment = is_one (segment_id v); hasRandom = is_there (vstk_rand v); rand = or_zero (vstk_rand v) }

abbrev pub no_random : Random
no_random = record { segment = false; hasRandom = false; rand = 0 }

abbrev pub no_release6 : Release6
no_release6 =
    record {
      hasRelease = false;
      hasCount = false;
      cellcount = 0;
      reducedcount = 0;
      reduced = padded no_reduced most_reduceds [];
      randomcount = 0;
      randoms = padded no_random most_randoms [];
    }

abbrev pub release6_of : Option Release6Value → Release6
release6_of none = no_release6
release6_of (some v) =
    record {
      hasRelease = true;
      hasCount = is_there (cell_global_count v);
      cellcount = or_zero (cell_global_count v);
      reducedcount = length (reduced_references v);
      reduced = padded no_reduced most_reduceds (map reduced_of (reduced_references v));
      randomcount = length (random_entries v);
      randoms = padded no_random most_randoms (map random_of (random_entries v));
    }

-- ## Release 7

abbrev pub no_release7 : Release7
no_release7 =
    record {
      hasRelease = false;
      markcount = 0;
      marks = padded false most_marks [];
      hasUplink = false;
      uplink = false;
      hasAmr = false;
      hasFullrate = false;
      fullrate = 0;
      hasHalfrate = false;
      halfrate = 0;
      hasSms = false;
      confidential = false;
      private = false;
    }

-- the two AMR parts behind their flag, and the two SMS bits behind theirs
abbrev pub full_rate : Option AmrValue → Option ℕ
full_rate none = none
full_rate (some a) = fr_amr_config a

abbrev pub half_rate : Option AmrValue → Option ℕ
half_rate none = none
half_rate (some a) = hr_amr_config a

abbrev pub confidentiality : Option (ℕ × ℕ) → Bool
confidentiality none = false
confidentiality (some s) = is_one (data_confidentiality s)

abbrev pub privacy : Option (ℕ × ℕ) → Bool
privacy none = false
privacy (some s) = is_one (guaranteed_privacy s)

abbrev pub release7_of : Option Release7Value → Release7
release7_of none = no_release7
release7_of (some v) =
    record {
      hasRelease = true;
      markcount = length (emergency_marks v);
      marks = padded false most_marks (map is_one (emergency_marks v));
      hasUplink = is_there (uplink_access v);
      uplink = or_false (uplink_access v);
      hasAmr = is_there (amr_part v);
      hasFullrate = is_there (full_rate (amr_part v));
      fullrate = or_zero (full_rate (amr_part v));
      hasHalfrate = is_there (half_rate (amr_part v));
      halfrate = or_zero (half_rate (amr_part v));
      hasSms = is_there (sms_part v);
      confidential = confidentiality (sms_part v);
      private = privacy (sms_part v);
    }

-- ## The whole

abbrev pub record_of : Value → Notification
record_of v =
    record {
      hasNln = is_there (nln_part v);
      nln = or_zero (nln_part v);
      callcount = length (call_list v);
      calls = padded no_call most_calls (map call_of (call_list v));
      release6 = release6_of (release6_part v);
      release7 = release7_of (release7_part v);
    }

abbrev pub no_record : Notification
no_record = record { hasNln = false; nln = 0; callcount = 0; calls = padded no_call most_calls []; release6 = no_release6; release7 = no_release7 }

-- a refusal is its number and its bit alone
abbrev pub reading_of : Res Value → Reading
reading_of (bad r) = record { refusal = r; used = 0; «record» = no_record }
reading_of (ok v q) = record { refusal = no_refusal; used = q; «record» = record_of v }

-- what `nch::read` answers for any octets
abbrev pub read_of : List ℕ → Reading
read_of s = reading_of (read_octets s)

-- the arrays have their places, as every record of the code has by its type
pub record Shaped (m : Notification) : Type 0 where
  pub calls : length m.calls ≡ most_calls
  pub reduced : length m.release6.reduced ≡ most_reduceds
  pub randoms : length m.release6.randoms ≡ most_randoms
  pub marks : length m.release7.marks ≡ most_marks

-- ## And back: the value that a record says, each part in its place of the grammar

abbrev pub reduced_value : Reduced → List ℕ
reduced_value r = r.reference ∷ as_bit r.vgcs ∷ []

abbrev pub random_value : Random → ℕ × Option ℕ
random_value r = (as_bit r.segment, there r.hasRandom r.rand)

abbrev pub release6_value : Release6 → Release6Value
release6_value r =
    let count = there r.hasCount r.cellcount in
    let references = map reduced_value (take r.reducedcount r.reduced) in
    let randoms = map random_value (take r.randomcount r.randoms) in
    (count, (references, randoms))

abbrev pub amr_value : Release7 → AmrValue
amr_value r =
    let full = there r.hasFullrate r.fullrate in
    let half = there r.hasHalfrate r.halfrate in
    (full, half)

abbrev pub sms_value : Release7 → ℕ × ℕ
sms_value r = (as_bit r.confidential, as_bit r.private)

abbrev pub release7_value : Release7 → Release7Value
release7_value r =
    let marks = map as_bit (take r.markcount r.marks) in
    let uplink = there r.hasUplink (as_bit r.uplink) in
    let amr = there r.hasAmr (amr_value r) in
    let sms = there r.hasSms (sms_value r) in
    (marks, (uplink, (amr, sms)))

abbrev pub value_of : Notification → Value
value_of m =
    let nln = there m.hasNln m.nln in
    let calls = map call_value (take m.callcount m.calls) in
    let six = there m.release6.hasRelease (release6_value m.release6) in
    let seven = there m.release7.hasRelease (release7_value m.release7) in
    (nln, (calls, (six, seven)))
