-- The listed inputs of document 01, those marked *, as one table: each row an input and its whole outcome. Assumes nothing.
use Rattle.std.specs.Prelude.{◌≡◌, List, [], ◌∷◌, map, true, false, ℕ, ◌+◌, length, replicate}
use Prim.Native.String.{String}
use Rattle.csn1.specs.declared.Refusal.{Refusal}
use Rattle.csn1.specs.Format.{no_refusal, ground}
use Rattle.call.specs.Call.{no_description, no_call}
use Rattle.nch.specs.declared.Notification.{Notification}
use Rattle.nch.specs.declared.Reading.{Reading}
use Rattle.nch.specs.Told.{no_reduced, no_random, no_release6, no_release7, no_record, read_of}
use Rattle.receiver.specs.declared.Record.{Record}
use Rattle.receiver.specs.declared.Slot.{Slot}
use Rattle.receiver.specs.declared.Answer.{Answer}
use Rattle.receiver.specs.declared.Started.{Started}
use Rattle.receiver.specs.Model.{no_common, no_record as noTelling, no_paged, empty_slot, no_cell, no_key, wrap_sub, started_of}
use Rattle.receiver.specs.Step.{no_told, nch, tick, refused_with, step_of}
use Rattle.gcc.specs.declared.cause.Meaning.{Meaning}
use Rattle.gcc.specs.declared.cause.Meaning.TheVariants.{Specific, Unspecific}
use Rattle.gcc.specs.declared.cause.Reading.{Reading as CauseReading}
use Rattle.gcc.specs.declared.digits.Reading.{Reading as DigitsReading}
use Rattle.gcc.specs.Cause as cause
use Rattle.gcc.specs.Digits as digits

-- ## A row

pub data ListedRow : Type 0 where
  -- NT/N Rest Octets, and what is read
  nch-octets : List ℕ → Reading → ListedRow
  -- NT/N Rest Octets of any content in so many octets, and the refusal
  nch-length : ℕ → ℕ → ListedRow
  -- last tick, new tick, and the step between them
  ticks : ℕ → ℕ → ℕ → ListedRow
  -- a step, and the refusal
  step : ℕ → ℕ → ListedRow
  -- T3206, when the first half comes and what is answered, when the second and what is answered
  halves : ℕ → ℕ → Answer → ℕ → Answer → ListedRow
  -- the octets of a cause, what is read, and the words of its meaning in 44.068
  cause-octets : List ℕ → CauseReading → String → ListedRow
  -- the five octets of twelve digits, and what is read
  digit-octets : List ℕ → DigitsReading → ListedRow

-- ## Outcomes

-- a record read, and the bits used
abbrev pub reads : Notification → ℕ → Reading
reads m n = record { refusal = no_refusal; used = n; «record» = m }

-- a refusal: its number alone, and all else zero
abbrev pub refusal : ℕ → Reading
refusal n = record { refusal = ground n; used = 0; «record» = no_record }

-- no parts: every field of the record is zero
abbrev pub no_parts : Notification
no_parts = no_record

-- both releases present and empty: their two flags, and zero in every other field
abbrev pub both_empty : Notification
both_empty =
    record {
      hasNln = false;
      nln = 0;
      callcount = 0;
      calls = replicate 4 no_call;
      release6 =
          record {
            hasRelease = true;
            hasCount = false;
            cellcount = 0;
            reducedcount = 0;
            reduced = replicate 5 no_reduced;
            randomcount = 0;
            randoms = replicate 9 no_random;
          };
      release7 =
          record {
            hasRelease = true;
            markcount = 0;
            marks = replicate 4 false;
            hasUplink = false;
            uplink = false;
            hasAmr = false;
            hasFullrate = false;
            fullrate = 0;
            hasHalfrate = false;
            halfrate = 0;
            hasSms = false;
            confidential = false;
            private = false;
          };
    }

-- an NLN and nothing else
abbrev pub only_nln : ℕ → Notification
only_nln n = record { hasNln = true; nln = n; callcount = 0; calls = replicate 4 no_call; release6 = no_release6; release7 = no_release7 }

-- a cause of these septets without diagnostics
abbrev pub means : Meaning → List ℕ → CauseReading
means m l = record { refusal = 0; meaning = m; cause = cause.cause_of l [] }

-- the digits, as the characters that are read
abbrev pub spells : List ℕ → DigitsReading
spells l = record { refusal = 0; digits = map (0x30 +◌) l }

-- ## Outcomes of halves, of a call of reference 1,234,567, VGCS

abbrev pub key : ℕ
key = 2469135

-- with priority 3, cipher key number 5 and channel 120345, and a random entry of Segment Id 0 without VSTK_RAND
abbrev pub first_record : Record
first_record =
    record {
      full = true;
      call =
          record {
            reference = 1234567;
            vgcs = true;
            acknowledged = false;
            priority = 3;
            cipher = 5;
            hasDescription = true;
            description = record { channel = 0x120345; hopping = false; shortlist = false; length = 0; frequencies = 0 };
          };
      hasSegment = true;
      segment = false;
      hasRandom = false;
      rand = 0;
      emergency = false;
      common = no_common;
    }

-- its reduced reference, with a random entry of Segment Id 1 with VSTK_RAND ABCDEF012
abbrev pub second_record : Record
second_record =
    record {
      full = false;
      call = record { reference = 1234567; vgcs = true; acknowledged = false; priority = 0; cipher = 0; hasDescription = false; description = no_description };
      hasSegment = true;
      segment = true;
      hasRandom = true;
      rand = 0xabcdef012;
      emergency = false;
      common = no_common;
    }

-- all of the first half, and VSTK_RAND of the second
abbrev pub both_record : Record
both_record =
    record {
      full = true;
      call = first_record.call;
      hasSegment = true;
      segment = false;
      hasRandom = true;
      rand = 0xabcdef012;
      emergency = false;
      common = no_common;
    }

-- a half that came at a tick, 1 the first and 2 the second
abbrev pub came : ℕ → ℕ → Record → Slot
came half now m = record { half = half; since = now; «record» = m }

-- the answer at a tick: x halves ran out, the call's one entry is told n with a record and whether it can be followed, and its place holds then what is said; all else is
-- as it was set up
abbrev pub answer_at : ℕ → ℕ → ℕ → Record → ℕ → Slot → Answer
answer_at now x n m follow held =
    record {
      refusal = no_refusal;
      expired = x;
      dropped = 0;
      count = 1;
      entries = record { key = key; number = n; «record» = m; follow = follow; kept = 0 } ∷ replicate 8 no_told;
      paged = no_paged;
      receiver =
          record {
            slots = held ∷ replicate 149 empty_slot;
            keys = key ∷ replicate 49 no_key;
            sets = replicate 50 0;
            keycount = 1;
            tick = now;
            t3206 = 5000;
            t3208 = 5000;
            t3210 = 5000;
            cell = no_cell;
          };
    }

-- the first half is told 4, without a record, and held
abbrev pub first_answer : ℕ → Answer
first_answer now = answer_at now 0 4 noTelling 0 (came 1 now first_record)

-- ## The rows, in the document's order

abbrev pub rows : List ListedRow
rows =
    -- twenty 2B: no parts, 4 bits used
    nch-octets (replicate 20 0x2b) (reads no_parts 4)
    -- twenty 00: both releases present and empty, 11 used
    ∷ nch-octets (replicate 20 0x00) (reads both_empty 11)
    -- CB, nineteen 2B: NLN 2, 6 used
    ∷ nch-octets (0xcb ∷ replicate 19 0x2b) (reads (only_nln 2) 6)
    -- twenty FF: refusal 4
    ∷ nch-octets (replicate 20 0xff) (refusal 4)
    -- 19 octets: refusal 1
    ∷ nch-length 19 1
    -- last tick 4,294,967,290, new 10: step 16
    ∷ ticks 4294967290 10 16
    -- step 2,147,483,648: refusal 9
    ∷ step 2147483648 9
    -- T3206 5,000, first half at 1,000, second at 5,999: 3; and no group key is held
    ∷ halves 5000 1000 (first_answer 1000) 5999 (answer_at 5999 0 3 both_record 1 empty_slot)
    -- the same at 6,000: one expiry, then 4
    ∷ halves 5000 1000 (first_answer 1000) 6000 (answer_at 6000 1 4 noTelling 0 (came 2 6000 second_record))
    -- cause 90: 16, normal clearing
    ∷ cause-octets (0x90 ∷ []) (means (Specific 16) (16 ∷ [])) "Normal call clearing"
    -- cause 10 91: unspecific
    ∷ cause-octets (0x10 ∷ 0x91 ∷ []) (means Unspecific (16 ∷ 17 ∷ [])) "unspecific cause"
    -- cause 10: refusal 13
    ∷ cause-octets (0x10 ∷ []) (cause.refused 13) ""
    -- 00 00 00 23 A3: 000000009123
    ∷ digit-octets (0x00 ∷ 0x00 ∷ 0x00 ∷ 0x23 ∷ 0xa3 ∷ []) (spells (0 ∷ 0 ∷ 0 ∷ 0 ∷ 0 ∷ 0 ∷ 0 ∷ 0 ∷ 9 ∷ 1 ∷ 2 ∷ 3 ∷ []))
    -- E8 D4 A5 10 00: refusal 12
    ∷ digit-octets (0xe8 ∷ 0xd4 ∷ 0xa5 ∷ 0x10 ∷ 0x00 ∷ []) (digits.refused 12)
    ∷ []

-- ## Runs of the receiver

-- set up at a tick with T3206 for one call, for which no group key is held
abbrev pub set_up : ℕ → ℕ → Started
set_up now t3206 = started_of (record { tick = now; t3206 = t3206; t3208 = 5000; t3210 = 5000 }) (key ∷ []) (0 ∷ [])

-- the octets of `first_record`, and of `second_record`
abbrev pub first_half : List ℕ
first_half = 0x40 ∷ 0x96 ∷ 0xb4 ∷ 0x3c ∷ 0xd6 ∷ 0x24 ∷ 0x06 ∷ 0x8a ∷ 0x48 ∷ replicate 11 0x2b

abbrev pub second_half : List ℕ
second_half = 0x08 ∷ 0x12 ∷ 0xd6 ∷ 0x87 ∷ 0xbd ∷ 0x5e ∷ 0x6f ∷ 0x78 ∷ 0x09 ∷ replicate 11 0x2b

-- the answers to the first half at a tick, and to the second at a later one
abbrev pub first_at : ℕ → ℕ → Answer
first_at t3206 a = step_of (set_up 0 t3206).receiver (nch a first_half)

abbrev pub second_at : ℕ → ℕ → ℕ → Answer
second_at t3206 a b = step_of (first_at t3206 a).receiver (nch b second_half)

-- the answer to a tick, from the tick of the setup
abbrev pub ticked : ℕ → ℕ → Answer
ticked last now = step_of (set_up last 5000).receiver (tick now)

-- an answer of nothing but a refusal, or none, with the receiver as it is set up at a tick
abbrev pub silent : Refusal → ℕ → Answer
silent w now = refused_with (set_up now 5000).receiver w

-- ## What a row says: the setup was accepted, and the whole answer is the outcome

abbrev pub RowHolds : ListedRow → Type 0
RowHolds (nch-octets s r) = read_of s ≡ r
RowHolds (nch-length n m) = (s : List ℕ) → length s ≡ n → read_of s ≡ refusal m
RowHolds (ticks last now d) = ((set_up last 5000).refusal.number ≡ 0) × (wrap_sub now last ≡ d) × (ticked last now ≡ silent no_refusal now)
RowHolds (step d n) = ((set_up 0 5000).refusal.number ≡ 0) × (ticked 0 d ≡ silent (ground n) 0)
RowHolds (halves t3206 a x b y) = ((set_up 0 t3206).refusal.number ≡ 0) × (first_at t3206 a ≡ x) × (second_at t3206 a b ≡ y)
RowHolds (cause-octets s r w) = (cause.read_of s ≡ r) × (cause.words_of (cause.read_of s).meaning ≡ w)
RowHolds (digit-octets s r) = digits.read_of s ≡ r

abbrev pub AllHold : List ListedRow → Type 0
AllHold [] = Unit {0}
AllHold (r ∷ l) = RowHolds r × AllHold l
