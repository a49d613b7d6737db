-- The entries of a message, calls then reduced references, each with all that belongs to it. Assumes nothing.
use Rattle.std.specs.Prelude.{List, [], ◌∷◌, ◌++◌, Bool, true, false, ℕ, take}
use Rattle.std.proofs.Math.Option.{Option, none, some}
use Rattle.bits.specs.Field.{both, pick}
use Rattle.csn1.specs.Told.{is_there}
use Rattle.call.specs.declared.Call.{Call}
use Rattle.call.specs.Call.{ciphered, no_description}
use Rattle.nch.specs.declared.Reduced.{Reduced}
use Rattle.nch.specs.declared.Random.{Random}
use Rattle.nch.specs.declared.Notification.{Notification}
use Rattle.nch.specs.Write.{calls_of, is_described}
use Rattle.nch.specs.Owners.{nth, or_not, randoms_of, marks_of, random_of_call, random_of_reduced, emergency_of_call}
use Rattle.facch.specs.declared.Notification.{Notification as Message}
use Rattle.pch.specs.declared.Entry.{Entry}
use Rattle.receiver.specs.declared.Common.{Common}
use Rattle.receiver.specs.declared.Record.{Record}
use Rattle.receiver.specs.declared.Paged.{Paged}
use Rattle.receiver.specs.declared.messages.Owned.{Owned}
use Rattle.receiver.specs.Model.{no_paged, map_at}

-- ## NCH

abbrev pub nch_common : Notification → Common
nch_common m =
    record {
      hasCount = m.release6.hasCount;
      cellcount = m.release6.cellcount;
      b22 = false;
      hasUplink = m.release7.hasUplink;
      uplink = m.release7.uplink;
      hasAmr = m.release7.hasAmr;
      hasFullrate = m.release7.hasFullrate;
      fullrate = m.release7.fullrate;
      hasHalfrate = m.release7.hasHalfrate;
      halfrate = m.release7.halfrate;
      hasSms = m.release7.hasSms;
      confidential = m.release7.confidential;
      private = m.release7.private;
    }

-- an entry without a random entry has no Segment Id and no VSTK_RAND
abbrev pub segment_of : Option Random → Bool
segment_of none = false
segment_of (some r) = r.segment

abbrev pub given_of : Option Random → Bool
given_of none = false
given_of (some r) = r.hasRandom

abbrev pub rand_of : Option Random → ℕ
rand_of none = 0
rand_of (some r) = r.rand

-- all that an entry is told of its random entry
abbrev pub owned_of : Option Random → Owned
owned_of r = record { hasSegment = is_there r; segment = segment_of r; hasRandom = given_of r; rand = rand_of r }

abbrev pub entry_of : Bool → Call → Option Random → Bool → Common → Record
entry_of full c r emergency common =
    record {
      full = full;
      call = c;
      hasSegment = is_there r;
      segment = segment_of r;
      hasRandom = given_of r;
      rand = rand_of r;
      emergency = emergency;
      common = common;
    }

-- what a reduced reference says of its call
abbrev pub reduced_call : Reduced → Call
reduced_call r =
    record {
      reference = r.reference;
      vgcs = r.vgcs;
      acknowledged = false;
      priority = 0;
      cipher = 0;
      hasDescription = false;
      description = no_description;
    }

-- a call, and a reduced reference, with the random entry at place j and the mark at place k, where it owns them
unfoldable pub call_with : Notification → ℕ → ℕ → Call → Record
call_with m j k c =
    entry_of true c (pick (ciphered c) (nth j (randoms_of m)) none) (pick (is_described c) (or_not (nth k (marks_of m))) false) (nch_common m)

unfoldable pub reduced_with : Notification → ℕ → Reduced → Record
reduced_with m j r = entry_of false (reduced_call r) (nth j (randoms_of m)) false (nch_common m)

unfoldable pub call_entry : Notification → ℕ → Call → Record
call_entry m i c = entry_of true c (random_of_call m i) (emergency_of_call m i) (nch_common m)

unfoldable pub reduced_entry : Notification → ℕ → Reduced → Record
reduced_entry m j r = entry_of false (reduced_call r) (random_of_reduced m j) false (nch_common m)

unfoldable pub nch_entries : Notification → List Record
nch_entries m = map_at (call_entry m) 0 (calls_of m) ++ map_at (reduced_entry m) 0 (take m.release6.reducedcount m.release6.reduced)

-- ## FACCH: its call, without Segment Id; its uplink is there exactly if Release 7 is

abbrev pub facch_common : Message → Common
facch_common m =
    record {
      hasCount = m.release6.hasCount;
      cellcount = m.release6.cellcount;
      b22 = m.release6.b22;
      hasUplink = m.release7.hasRelease;
      uplink = m.release7.uplink;
      hasAmr = false;
      hasFullrate = false;
      fullrate = 0;
      hasHalfrate = false;
      halfrate = 0;
      hasSms = false;
      confidential = false;
      private = false;
    }

unfoldable pub facch_entry : Message → Record
facch_entry m =
    record {
      full = true;
      call = m.call;
      hasSegment = false;
      segment = false;
      hasRandom = m.release6.hasRandom;
      rand = m.release6.rand;
      emergency = m.release7.emergency;
      common = facch_common m;
    }

-- a message that pages somebody has no call
unfoldable pub facch_entries : Message → List Record
facch_entries m = pick m.paging [] (facch_entry m ∷ [])

-- who is paged (document 02, §7); without a Paging Cause a mobile terminating call is assumed, which only a display says
unfoldable pub paged_of : Message → Paged
paged_of m = pick m.paging (record { there = true; page = m.page; hasCause = m.release7.hasCause; cause = m.release7.cause }) no_paged

-- ## PCH: its call, without Segment Id, and its count (document 02, §8)

abbrev pub pch_common : Entry → Common
pch_common p =
    record {
      hasCount = p.hasCount;
      cellcount = p.cellcount;
      b22 = false;
      hasUplink = false;
      uplink = false;
      hasAmr = false;
      hasFullrate = false;
      fullrate = 0;
      hasHalfrate = false;
      halfrate = 0;
      hasSms = false;
      confidential = false;
      private = false;
    }

-- an entry without the full reference counts as a reduced one, save that it is ciphered only if marked so: one that is not has no use for a VSTK_RAND, and is no half
abbrev pub half_rand : Entry → Bool
half_rand p = both p.hasRandom (pick p.full true p.ciphered)

unfoldable pub pch_entry : Entry → Record
pch_entry p =
    record {
      full = p.full;
      call = p.call;
      hasSegment = false;
      segment = false;
      hasRandom = half_rand p;
      rand = pick (half_rand p) p.rand 0;
      emergency = false;
      common = pch_common p;
    }

unfoldable pub pch_entries : Entry → List Record
pch_entries p = pch_entry p ∷ []
