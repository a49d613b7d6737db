-- The record of a notification, from the value that was read. Assumes nothing.
use Rattle.std.specs.Prelude.{List, Bool, true, false, ◌⊎◌, ℕ}
use Rattle.std.proofs.Math.Option.{Option, none, some}
use Rattle.std.proofs.Common.{inl, inr}
use Rattle.csn1.specs.Format.{Res, ok, bad, no_refusal}
use Rattle.csn1.specs.Told.{is_there, or_zero, is_one, or_false}
use Rattle.call.specs.Call.{CallValue, call_of, no_call}
use Rattle.call.specs.declared.Call.{Call}
use Rattle.facch.specs.Message.{length_octet, first_identity_octet, other_identity_octets, PagingValue, mobile_identity, channel_needed, emlpp_priority}
use Rattle.facch.specs.Message.{cell_global_count, b22_count, Release6Value, count_part, vstk_rand, Release7Value, uplink_access, emergency_ind, paging_cause}
use Rattle.facch.specs.Message.{Value, call_or_paging, release6_part, release7_part, read_octets}
use Rattle.facch.specs.declared.Page.{Page}
use Rattle.facch.specs.declared.Release6.{Release6}
use Rattle.facch.specs.declared.Release7.{Release7}
use Rattle.facch.specs.declared.Notification.{Notification}
use Rattle.facch.specs.declared.Reading.{Reading}

-- ## Paging Information

abbrev pub no_page : Page
no_page = record { identityLength = 0; identityFirst = 0; identityRest = 0; channelFirst = 0; hasPriority = false; priority = 0 }

abbrev pub page_of : PagingValue → Page
page_of p =
    record {
      identityLength = length_octet (mobile_identity p);
      identityFirst = first_identity_octet (mobile_identity p);
      identityRest = other_identity_octets (mobile_identity p);
      channelFirst = channel_needed p;
      hasPriority = is_there (emlpp_priority p);
      priority = or_zero (emlpp_priority p);
    }

-- ## Release 6

-- CELL_GLOBAL_COUNT and B22_COUNT, behind their one flag
abbrev pub cell_count_in : Option (ℕ × ℕ) → ℕ
cell_count_in none = 0
cell_count_in (some c) = cell_global_count c

abbrev pub b22_count_in : Option (ℕ × ℕ) → Bool
b22_count_in none = false
b22_count_in (some c) = is_one (b22_count c)

abbrev pub no_release6 : Release6
no_release6 = record { hasRelease = false; hasCount = false; cellcount = 0; b22 = false; hasRandom = false; rand = 0 }

abbrev pub release6_of : Option Release6Value → Release6
release6_of none = no_release6
release6_of (some v) =
    record {
      hasRelease = true;
      hasCount = is_there (count_part v);
      cellcount = cell_count_in (count_part v);
      b22 = b22_count_in (count_part v);
      hasRandom = is_there (vstk_rand v);
      rand = or_zero (vstk_rand v);
    }

-- ## Release 7

abbrev pub no_release7 : Release7
no_release7 = record { hasRelease = false; uplink = false; emergency = false; hasCause = false; cause = false }

abbrev pub release7_of : Option Release7Value → Release7
release7_of none = no_release7
release7_of (some v) =
    record {
      hasRelease = true;
      uplink = is_one (uplink_access v);
      emergency = is_one (emergency_ind v);
      hasCause = is_there (paging_cause v);
      cause = or_false (paging_cause v);
    }

-- ## The whole

-- what is notified, a call or that somebody is paged; the other of the two is absent
abbrev pub is_paging : CallValue ⊎ PagingValue → Bool
is_paging (inl c) = false
is_paging (inr p) = true

abbrev pub call_in : CallValue ⊎ PagingValue → Call
call_in (inl c) = call_of c
call_in (inr p) = no_call

abbrev pub page_in : CallValue ⊎ PagingValue → Page
page_in (inl c) = no_page
page_in (inr p) = page_of p

abbrev pub record_of : Value → Notification
record_of v =
    record {
      paging = is_paging (call_or_paging v);
      call = call_in (call_or_paging v);
      page = page_in (call_or_paging v);
      release6 = release6_of (release6_part v);
      release7 = release7_of (release7_part v);
    }

abbrev pub no_record : Notification
no_record = record { paging = false; call = no_call; page = no_page; release6 = no_release6; release7 = no_release7 }

-- a refusal is its number and its bit alone
abbrev pub reading_of : Res Value → Reading
reading_of (bad r) = record { refusal = r; used = 0; «record» = no_record }
reading_of (ok v q) = record { refusal = no_refusal; used = q; «record» = record_of v }

-- what `facch::read` answers for any octets
abbrev pub read_of : List ℕ → Reading
read_of s = reading_of (read_octets s)
