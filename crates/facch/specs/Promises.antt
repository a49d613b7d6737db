-- What is promised of reading NOTIFICATION/FACCH (demand 2, and where bits ran out). Assumes nothing.
use Rattle.std.specs.Prelude.{◌≡◌, List, [], ◌∷◌, map, Bool, true, false, ℕ, ◌*◌, ◌≤◌, ◌<◌, length, take}
use Rattle.csn1.specs.Format.{ok, ground, no_refusal, is_clip, Holds}
use Rattle.csn1.specs.Grammar.{number, ◌and◌, one_of}
use Rattle.csn1.specs.Clip.{Clipped, ReleaseOf}
use Rattle.csn1.specs.Promises.{Stands}
use Rattle.call.specs.Call.{no_description, no_call, call_grammar}
use Rattle.facch.specs.declared.Notification.{Notification}
use Rattle.facch.specs.declared.Reading.{Reading}
use Rattle.facch.specs.Message.{release6, release7, paging, Value, message, first_octet, notification}
use Rattle.facch.specs.Told.{no_page, no_release6, no_release7, record_of, reading_of, read_of}
use Rattle.facch.specs.Back.{value_of}

-- 1. A record tells its message: all of it but the first octet comes back.
abbrev pub ARecordTellsItsMessage : Type 0
ARecordTellsItsMessage = (v : Value) → notification.fits v → value_of (first_octet v) (record_of v) ≡ v

-- an accepted message: what its record says, with some first octet, stands in the octets bit for bit, and ends at the bits used
pub record StandsThere (s : List ℕ) : Type 0 where
  pub first : ℕ
  pub stands : Stands notification s 0 (value_of first (read_of s).«record») (read_of s).used
  -- and what is absent is zero in it
  pub told : record_of (value_of first (read_of s).«record») ≡ (read_of s).«record»

-- 2. Every accepted reading stands in the octets bit for bit.
abbrev pub EveryReadingStandsInTheOctets : Type 0
EveryReadingStandsInTheOctets = (s : List ℕ) → (read_of s).refusal.number ≡ 0 → StandsThere s

-- 3. What stands in 2 to 23 octets bit for bit is read, and its length is the bits used: a reader that refuses all is shut out.
abbrev pub WhatStandsInTheOctetsIsRead : Type 0
WhatStandsInTheOctetsIsRead =
    (s : List ℕ) (v : Value)
    → 2 ≤ length s
    → length s ≤ 23
    → notification.fits v
    → length (notification.bits (length s * 8) 0 v) ≤ length s * 8
    → Holds s 0 (notification.bits (length s * 8) 0 v)
    → read_of s ≡ reading_of (ok v (length (notification.bits (length s * 8) 0 v)))

-- 4. Listed inputs: a call of VGCS 12,345,678, no Release 6, and Release 7 with one of its two bits set.
abbrev pub with_release7 : Bool → Bool → Reading
with_release7 uplink emergency =
    record {
      refusal = no_refusal;
      used = 51;
      «record» =
          record {
            paging = false;
            call =
                record {
                  reference = 12345678;
                  vgcs = true;
                  acknowledged = false;
                  priority = 0;
                  cipher = 5;
                  hasDescription = false;
                  description = no_description;
                };
            page = no_page;
            release6 = no_release6;
            release7 = record { hasRelease = true; uplink = uplink; emergency = emergency; hasCause = false; cause = false };
          };
    }

-- the mobile station with TMSI 12345678 hex is paged for a short message: TCH/F first, eMLPP priority 4
abbrev pub paged_tmsi : Reading
paged_tmsi =
    record {
      refusal = no_refusal;
      used = 69;
      «record» =
          record {
            paging = true;
            call = no_call;
            page =
                record {
                  identityLength = 5;
                  identityFirst = 0xf4;
                  identityRest = 0x12345678;
                  channelFirst = 2;
                  hasPriority = true;
                  priority = 4;
                };
            release6 = no_release6;
            release7 = record { hasRelease = true; uplink = false; emergency = false; hasCause = true; cause = true };
          };
    }

pub record ListedRecords : Type 0 where
  -- Priority Uplink Access H, Emergency_Ind L
  pub uplink : read_of (0x04 ∷ 0x0b ∷ 0xc6 ∷ 0x14 ∷ 0xe8 ∷ 0x2a ∷ 0x8b ∷ []) ≡ with_release7 true false
  -- and the reverse
  pub emergency : read_of (0x04 ∷ 0x0b ∷ 0xc6 ∷ 0x14 ∷ 0xe8 ∷ 0x2a ∷ 0x4b ∷ []) ≡ with_release7 false true
  pub paged : read_of (0x04 ∷ 0x82 ∷ 0xfa ∷ 0x09 ∷ 0x1a ∷ 0x2b ∷ 0x3c ∷ 0x59 ∷ 0xbb ∷ []) ≡ paged_tmsi
  -- a mobile identity of 0 and one of 10 octets, with nothing behind the length octet
  pub no_identity : (read_of (0x04 ∷ 0x80 ∷ 0x5b ∷ [])).refusal ≡ ground 8
  pub long-identity : (read_of (0x04 ∷ 0x85 ∷ 0x2a ∷ [])).refusal ≡ ground 8

-- 5. Refused with 2, 14 or 15: bits ran out in a field that reading came to, which begins at the refusal's bit and ends past the octets; bit numbers count the first
-- octet. Any other refusal has the bit 0.
abbrev pub AClipIsToldWhereItIs : Type 0
AClipIsToldWhereItIs =
    (s : List ℕ)
    → (is_clip (read_of s).refusal.number ≡ true → ((2 ≤ length s) × (length s ≤ 23)) × Clipped message s 0 (read_of s).refusal)
    × (is_clip (read_of s).refusal.number ≡ false → (read_of s).refusal.bit ≡ 0)

-- 6. 2 is before the releases, 14 from the bit behind Release 6's H to its last bit, and 15 the same in Release 7.
abbrev pub TheNumberSaysTheRelease : Type 0
TheNumberSaysTheRelease =
    (s : List ℕ) → is_clip (read_of s).refusal.number ≡ true → ReleaseOf (number 8 and one_of call_grammar paging) release6 release7 s 0 (read_of s).refusal

-- a record without Release 7, and without both
abbrev pub without7 : Notification → Notification
without7 m = record { paging = m.paging; call = m.call; page = m.page; release6 = m.release6; release7 = no_release7 }

abbrev pub without_both : Notification → Notification
without_both m = record { paging = m.paging; call = m.call; page = m.page; release6 = no_release6; release7 = no_release7 }

-- an accepted message s cut to its first n octets: refused as bits that ran out, at most at the cut; or the cut fell where Release 7 begins, or where
-- Release 6 begins, and what is left is read as the same message without it and what follows
pub data ToldAsAClip (s : List ℕ) (n : ℕ) : Type 0 where
  refused : is_clip (read_of (take n s)).refusal.number ≡ true → (read_of (take n s)).refusal.bit ≤ n * 8 → ToldAsAClip s n
  before-release7 : read_of (take n s) ≡ record { refusal = no_refusal; used = n * 8; «record» = without7 (read_of s).«record» } → ToldAsAClip s n
  before-release6 : read_of (take n s) ≡ record { refusal = no_refusal; used = n * 8; «record» = without_both (read_of s).«record» } → ToldAsAClip s n

-- 7. A clip is told as a clip. Where nothing that was used is cut off, the same is read.
abbrev pub AClipIsToldAsAClip : Type 0
AClipIsToldAsAClip =
    (s : List ℕ)
    → (read_of s).refusal.number ≡ 0
    → (n : ℕ)
    → 2 ≤ n
    → (n * 8 < (read_of s).used → ToldAsAClip s n) × ((read_of s).used ≤ n * 8 → read_of (take n s) ≡ read_of s)

-- 8. Listed clips: the number and the bit, worked out from the octets by hand, and what is missing there. Behind a mobile identity there is no row for channel first, for
-- the flag of the priority and for the priority: it ends one bit into an octet, whose other seven bits hold all three.
abbrev pub clips : List ((ℕ × ℕ) × List ℕ)
clips =
    -- 7 of the call's 36 bits
    ((2, 9), 0x04 ∷ 0x2b ∷ [])
    -- 31 of them
    ∷ ((2, 9), 0x04 ∷ 0x00 ∷ 0x00 ∷ 0x00 ∷ 0x58 ∷ [])
    -- 18 of the description's 24 bits
    ∷ ((2, 46), 0x04 ∷ 0x00 ∷ 0x00 ∷ 0x00 ∷ 0x58 ∷ 0x04 ∷ 0xb2 ∷ 0xbf ∷ [])
    -- the length octet
    ∷ ((2, 72), 0x04 ∷ 0x00 ∷ 0x00 ∷ 0x00 ∷ 0x58 ∷ 0x04 ∷ 0x00 ∷ 0x40 ∷ 0x02 ∷ [])
    -- one of the allocation's two octets
    ∷ ((2, 80), 0x04 ∷ 0x00 ∷ 0x00 ∷ 0x00 ∷ 0x58 ∷ 0x04 ∷ 0x00 ∷ 0x40 ∷ 0x02 ∷ 0x02 ∷ 0xff ∷ [])
    -- 56 of the short list's 64 bits
    ∷ ((2, 72), 0x04 ∷ 0x00 ∷ 0x00 ∷ 0x00 ∷ 0x58 ∷ 0x04 ∷ 0x00 ∷ 0x40 ∷ 0x03 ∷ 0x80 ∷ 0x00 ∷ 0x00 ∷ 0x00 ∷ 0x00 ∷ 0x00 ∷ 0x00 ∷ [])
    -- H at 46, flag 1, and no CELL_GLOBAL_COUNT
    ∷ ((14, 48), 0x04 ∷ 0x00 ∷ 0x00 ∷ 0x00 ∷ 0x58 ∷ 0x01 ∷ [])
    -- flag 0, and no flag of VSTK_RAND
    ∷ ((14, 48), 0x04 ∷ 0x00 ∷ 0x00 ∷ 0x00 ∷ 0x58 ∷ 0x00 ∷ [])
    -- 7 of VSTK_RAND's 36 bits
    ∷ ((14, 49), 0x04 ∷ 0x00 ∷ 0x00 ∷ 0x00 ∷ 0x58 ∷ 0x00 ∷ 0xff ∷ [])
    -- L at 46, and H in the last bit with nothing behind it
    ∷ ((15, 48), 0x04 ∷ 0x00 ∷ 0x00 ∷ 0x00 ∷ 0x58 ∷ 0x02 ∷ [])
    -- H in the last bit: Release 6 with nothing behind it
    ∷ ((14, 72), 0x04 ∷ 0x00 ∷ 0x00 ∷ 0x04 ∷ 0xd0 ∷ 0x94 ∷ 0xb2 ∷ 0xbf ∷ 0xf8 ∷ [])
    -- Emergency_Ind
    ∷ ((15, 112), 0x04 ∷ 0x00 ∷ 0x00 ∷ 0x04 ∷ 0xd0 ∷ 0x94 ∷ 0xb2 ∷ 0xbf ∷ 0xf8 ∷ 0x7f ∷ 0xff ∷ 0xff ∷ 0xff ∷ 0xfd ∷ [])
    -- the flag of Paging Cause
    ∷ ((15, 80), 0x04 ∷ 0x00 ∷ 0x00 ∷ 0x04 ∷ 0xd0 ∷ 0x94 ∷ 0xb2 ∷ 0xbf ∷ 0xf8 ∷ 0xd7 ∷ [])
    -- Paging Cause
    ∷ ((15, 56), 0x04 ∷ 0x00 ∷ 0x00 ∷ 0x00 ∷ 0x58 ∷ 0x01 ∷ 0x47 ∷ [])
    -- paging: 7 of the length octet's 8 bits
    ∷ ((2, 9), 0x04 ∷ 0x80 ∷ [])
    -- 7 of the mobile identity's 8 bits
    ∷ ((2, 17), 0x04 ∷ 0x80 ∷ 0x80 ∷ [])
    -- 15 of its 40 bits
    ∷ ((2, 17), 0x04 ∷ 0x82 ∷ 0x80 ∷ 0xf4 ∷ [])
    -- H at 28, flag 1, CELL_GLOBAL_COUNT, and no B22_COUNT
    ∷ ((14, 32), 0x04 ∷ 0x80 ∷ 0x83 ∷ 0x86 ∷ [])
    -- L at 28, H at 29, and no flag of Paging Cause
    ∷ ((15, 32), 0x04 ∷ 0x80 ∷ 0x80 ∷ 0x8e ∷ [])
    ∷ []

-- what a row's octets are refused with, and where
abbrev pub told_of : (ℕ × ℕ) × List ℕ → ℕ × ℕ
told_of row = ((read_of row.1).refusal.number, (read_of row.1).refusal.bit)

abbrev pub row_of : (ℕ × ℕ) × List ℕ → ℕ × ℕ
row_of row = row.0

abbrev pub TheListedClipsAreToldSo : Type 0
TheListedClipsAreToldSo = map told_of clips ≡ map row_of clips
