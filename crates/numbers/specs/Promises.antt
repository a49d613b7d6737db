-- What is promised of records as arrays of numbers. Assumes nothing.
use Rattle.std.specs.Prelude.{◌≡◌, List, [], ◌∷◌, ◌++◌, true, ℕ, ◌*◌, ◌/◌, ◌%◌, ◌≤◌, ◌<◌, length, get_or, drop, replicate}
use Rattle.bits.specs.Field.{bit}
use Rattle.csn1.specs.Format.{pad_bit}
use Rattle.csn1.specs.Told.{code_of}
use Rattle.facch.specs.declared.Notification as facch
use Rattle.nch.specs.declared.Notification as nch
use Rattle.facch.specs.Told as facch-told
use Rattle.facch_write.specs.Write as facch-write
use Rattle.nch.specs.Told.{Shaped, read_of}
use Rattle.nch.specs.Write.{form}
use Rattle.nch.specs.Promises.{Padding}
use Rattle.numbers.specs.FacchNumbers as facch-numbers
use Rattle.nch.specs.NotificationNumbers.{Fits, numbers_of, record_from, read_numbers, write_code, after_write}

-- 1. A record of NT/N Rest Octets is its numbers: no number is missing. They stand behind the number of bits used, whatever that is.
abbrev pub ARecordIsItsNumbers : Type 0
ARecordIsItsNumbers = (m : nch.Notification) (used : ℕ) → Shaped m → record_from (used ∷ numbers_of m) ≡ m

-- 2. And numbers that its fields can hold are their record: no number behind the first is left aside.
abbrev pub NumbersAreTheirRecord : Type 0
NumbersAreTheirRecord = (ns : List ℕ) → length ns ≡ 106 → Fits ns → numbers_of (record_from ns) ≡ drop 1 ns

-- 3. The same of NOTIFICATION/FACCH.
abbrev pub AFacchRecordIsItsNumbers : Type 0
AFacchRecordIsItsNumbers =
    (m : facch.Notification) (used : ℕ)
    → facch-numbers.record_from (used ∷ facch-numbers.numbers_of m) ≡ m

-- 4. And back.
abbrev pub NumbersAreTheirFacchRecord : Type 0
NumbersAreTheirFacchRecord =
    (ns : List ℕ) → length ns ≡ 30 → facch-numbers.fields_hold ns ≡ true → facch-numbers.numbers_of (facch-numbers.record_from ns) ≡ drop 1 ns

-- 5. Reading what was written gives the numbers back, and before them the length of the written form.
abbrev pub ReadingGivesTheNumbersBack : Type 0
ReadingGivesTheNumbersBack =
    (ns b : List ℕ)
    → length b ≡ 20
    → write_code ns 20 ≡ 0
    → read_numbers (after_write ns b) ≡ length (form (record_from ns)) ∷ drop 1 ns

-- the array that was read of s is written as it stands into any b of twenty octets: the same bits up to the last bit used, and padding after it
pub record ArrayWrittenAgain (s b : List ℕ) : Type 0 where
  pub accepted : write_code (read_numbers s) 20 ≡ 0
  pub same : (k : ℕ) → k < get_or (read_numbers s) 0 0 → bit (after_write (read_numbers s) b) k ≡ bit s k
  pub rest : Padding (after_write (read_numbers s) b) (get_or (read_numbers s) 0 0)

-- 6. Writing the array that was read gives the octets back up to the last bit used, then padding.
abbrev pub WritingGivesTheOctetsBack : Type 0
WritingGivesTheOctetsBack = (s b : List ℕ) → (read_of s).refusal.number ≡ 0 → length b ≡ 20 → ArrayWrittenAgain s b

-- 7. The first number is not looked at where an array is written.
abbrev pub TheFirstNumberIsNotLookedAt : Type 0
TheFirstNumberIsNotLookedAt =
    (x y n : ℕ) (ns b : List ℕ)
    → (write_code (x ∷ ns) n ≡ write_code (y ∷ ns) n) × (after_write (x ∷ ns) b ≡ after_write (y ∷ ns) b)

-- 8. On the FACCH too: reading what was written into any octets gives the numbers back, and before them the length of the written form for that size.
abbrev pub ReadingGivesTheFacchNumbersBack : Type 0
ReadingGivesTheFacchNumbersBack =
    (ns b : List ℕ)
    → facch-numbers.write_code ns (length b) ≡ 0
    → facch-numbers.read_numbers (facch-numbers.after_write ns b) ≡ length (facch-write.form (facch-numbers.record_from ns) (length b)) ∷ drop 1 ns

-- the array that was read of s is written as it stands into any b of as many octets: zero in the first, the same bits up to the last bit used, and padding after it
pub record FacchArrayWrittenAgain (s b : List ℕ) : Type 0 where
  pub accepted : facch-numbers.write_code (facch-numbers.read_numbers s) (length b) ≡ 0
  pub as_long : length (facch-numbers.after_write (facch-numbers.read_numbers s) b) ≡ length s
  pub first : (k : ℕ) → k < 8 → bit (facch-numbers.after_write (facch-numbers.read_numbers s) b) k ≡ 0
  pub same : (k : ℕ) → 8 ≤ k → k < get_or (facch-numbers.read_numbers s) 0 0 → bit (facch-numbers.after_write (facch-numbers.read_numbers s) b) k ≡ bit s k
  pub rest : (k : ℕ) → get_or (facch-numbers.read_numbers s) 0 0 ≤ k → k < length s * 8 → bit (facch-numbers.after_write (facch-numbers.read_numbers s) b) k ≡ pad_bit k

-- 9. Writing the array that was read of a FACCH message into as many octets gives them back, the first aside, up to the last bit used, then padding.
abbrev pub WritingGivesTheFacchOctetsBack : Type 0
WritingGivesTheFacchOctetsBack =
    (s b : List ℕ) → (facch-told.read_of s).refusal.number ≡ 0 → length b ≡ length s → FacchArrayWrittenAgain s b

-- 10. And the first number is not looked at.
abbrev pub TheFirstFacchNumberIsNotLookedAt : Type 0
TheFirstFacchNumberIsNotLookedAt =
    (x y n : ℕ) (ns b : List ℕ)
    → (facch-numbers.write_code (x ∷ ns) n ≡ facch-numbers.write_code (y ∷ ns) n) × (facch-numbers.after_write (x ∷ ns) b ≡ facch-numbers.after_write (y ∷ ns) b)

-- 11. A record of NT/N Rest Octets has 105 numbers, and one of NOTIFICATION/FACCH 29.
abbrev pub AllHaveTheirPlaces : Type 0
AllHaveTheirPlaces =
    ((m : nch.Notification) → Shaped m → length (numbers_of m) ≡ 105)
    × ((m : facch.Notification) → length (facch-numbers.numbers_of m) ≡ 29)

-- 12. A refused reading is all zeros.
abbrev pub ARefusedReadingIsAllZeros : Type 0
ARefusedReadingIsAllZeros =
    ((s : List ℕ) → ((read_of s).refusal.number ≡ 0 → ⊥) → read_numbers s ≡ replicate 106 0)
    × ((s : List ℕ) → ((facch-told.read_of s).refusal.number ≡ 0 → ⊥) → facch-numbers.read_numbers s ≡ replicate 30 0)

-- 13. Listed inputs, with every kind of part: each field of the record, of a call, a reduced reference, a random entry and a mark has a number that is not zero in one of
-- them, and on both channels each release is there (H), is absent (L) and finds all bits used. First a call with an allocation of two octets, a reduced reference,
-- a random entry without VSTK_RAND, a mark:
abbrev pub first_parts : List ℕ
first_parts =
    0xb1 ∷ 0x78 ∷ 0xc2 ∷ 0x9d ∷ 0x35 ∷ 0xd5 ∷ 0xee ∷ 0xf7 ∷ 0xc0 ∷ 0x42 ∷ 0x46 ∷ 0x86 ∷ 0xdf ∷ 0x5e ∷ 0x0f ∷ 0xf2 ∷ 0x1b ∷ 0x6b ∷ 0x2b ∷ 0x2b ∷ []

abbrev pub first_numbers : List ℕ
first_numbers =
    -- NLN 1, one call
    (1 ∷ 1 ∷ 1 ∷ 12345678 ∷ 1 ∷ 0 ∷ 3 ∷ 5 ∷ 1 ∷ 0xabddef ∷ 1 ∷ 0 ∷ 2 ∷ 0x1234 ∷ [])
    ++ replicate 33 0
    -- Release 6: the count 2, one reduced reference, one random entry without VSTK_RAND
    ++ (1 ∷ 1 ∷ 2 ∷ 1 ∷ 99999999 ∷ [])
    ++ replicate 9 0
    ++ (1 ∷ [])
    ++ replicate 27 0
    -- Release 7: one mark, uplink 1, SMS 1 and 0
    ++ (1 ∷ 1 ∷ 1 ∷ 0 ∷ 0 ∷ 0 ∷ 1 ∷ 1 ∷ 0 ∷ 0 ∷ 0 ∷ 0 ∷ 0 ∷ 1 ∷ 1 ∷ 0 ∷ [])

-- a call with a short list, Release 6 absent, both AMR configurations, SMS 0 and 1
abbrev pub second_parts : List ℕ
second_parts =
    0x69 ∷ 0xcb ∷ 0xfd ∷ 0x8a ∷ 0x83 ∷ 0x57 ∷ 0xbb ∷ 0xdf ∷ 0xc0 ∷ 0x00 ∷ 0x00 ∷ 0x00 ∷ 0x00 ∷ 0x00 ∷ 0x00 ∷ 0x00 ∷ 0xb3 ∷ 0x9b ∷ 0x5b ∷ 0x2b ∷ []

abbrev pub second_numbers : List ℕ
second_numbers =
    (0 ∷ 0 ∷ 1 ∷ 87654321 ∷ 0 ∷ 1 ∷ 2 ∷ 0 ∷ 1 ∷ 0xabddef ∷ 1 ∷ 1 ∷ 0 ∷ 0x8000000000000001 ∷ [])
    ++ replicate 33 0
    ++ replicate 42 0
    ++ (1 ∷ 0 ∷ 0 ∷ 0 ∷ 0 ∷ 0 ∷ 0 ∷ 0 ∷ 1 ∷ 1 ∷ 9 ∷ 1 ∷ 6 ∷ 1 ∷ 0 ∷ 1 ∷ [])

-- a call without a description, a reduced reference of a VGCS, a random entry with VSTK_RAND, Release 7 absent
abbrev pub third_parts : List ℕ
third_parts =
    0x45 ∷ 0xe3 ∷ 0x0a ∷ 0x74 ∷ 0xd4 ∷ 0xb4 ∷ 0xe5 ∷ 0xfe ∷ 0xc6 ∷ 0xf5 ∷ 0x79 ∷ 0xbd ∷ 0xe0 ∷ 0x24 ∷ 0x2b ∷ 0x2b ∷ 0x2b ∷ 0x2b ∷ 0x2b ∷ 0x2b ∷ []

abbrev pub third_numbers : List ℕ
third_numbers =
    (0 ∷ 0 ∷ 1 ∷ 12345678 ∷ 1 ∷ 0 ∷ 3 ∷ 5 ∷ 0 ∷ 0 ∷ 0 ∷ 0 ∷ 0 ∷ 0 ∷ [])
    ++ replicate 33 0
    ++ (1 ∷ 0 ∷ 0 ∷ 1 ∷ 87654321 ∷ 1 ∷ [])
    ++ replicate 8 0
    ++ (1 ∷ 1 ∷ 1 ∷ 0xabcdef012 ∷ [])
    ++ replicate 24 0
    ++ replicate 16 0

-- two calls, the second with an allocation of six octets, which use all 160 bits: no release has any
abbrev pub fourth_parts : List ℕ
fourth_parts =
    0x45 ∷ 0xe3 ∷ 0x0a ∷ 0x74 ∷ 0xd5 ∷ 0x00 ∷ 0x00 ∷ 0x00 ∷ 0xe0 ∷ 0x0d ∷ 0x5e ∷ 0xef ∷ 0x7c ∷ 0x0c ∷ 0x24 ∷ 0x68 ∷ 0xac ∷ 0xf1 ∷ 0x35 ∷ 0x78 ∷ []

abbrev pub fourth_numbers : List ℕ
fourth_numbers =
    (0 ∷ 0 ∷ 2 ∷ 12345678 ∷ 1 ∷ 0 ∷ 3 ∷ 5 ∷ 0 ∷ 0 ∷ 0 ∷ 0 ∷ 0 ∷ 0 ∷ [])
    ++ (7 ∷ 0 ∷ 0 ∷ 0 ∷ 0 ∷ 1 ∷ 0xabddef ∷ 1 ∷ 0 ∷ 6 ∷ 0x123456789abc ∷ [])
    ++ replicate 22 0
    ++ replicate 42 0
    ++ replicate 16 0

-- NOTIFICATION/FACCH, 23 octets: a call with a short list, and every kind of part behind it; emergency and not uplink
abbrev pub every_facch_part : List ℕ
every_facch_part =
    0x04 ∷ 0x0b ∷ 0xc6 ∷ 0x14 ∷ 0xed ∷ 0xae ∷ 0xaf ∷ 0x77 ∷ 0xbf ∷ 0x80 ∷ 0 ∷ 0 ∷ 0 ∷ 0 ∷ 0 ∷ 0 ∷ 0x01 ∷ 0xfe ∷ 0xaf ∷ 0x37 ∷ 0xbc ∷ 0x04 ∷ 0x87 ∷ []

abbrev pub every_facch_number : List ℕ
every_facch_number =
    (0 ∷ 12345678 ∷ 1 ∷ 1 ∷ 3 ∷ 5 ∷ 1 ∷ 0xabddef ∷ 1 ∷ 1 ∷ 0 ∷ 0x8000000000000001 ∷ [])
    ++ replicate 6 0
    ++ (1 ∷ 1 ∷ 3 ∷ 1 ∷ 1 ∷ 0xabcdef012 ∷ [])
    ++ (1 ∷ 0 ∷ 1 ∷ 1 ∷ 1 ∷ [])

-- 16 octets: a call with an allocation of two octets, Release 6 absent, uplink and not emergency
abbrev pub uplink_part : List ℕ
uplink_part = 0x04 ∷ 0x53 ∷ 0x97 ∷ 0xfb ∷ 0x11 ∷ 0x06 ∷ 0xaf ∷ 0x77 ∷ 0xbe ∷ 0x02 ∷ 0x12 ∷ 0x34 ∷ 0x43 ∷ 0x2b ∷ 0x2b ∷ 0x2b ∷ []

abbrev pub uplink_numbers : List ℕ
uplink_numbers = (0 ∷ 87654321 ∷ 0 ∷ 0 ∷ 2 ∷ 0 ∷ 1 ∷ 0xabddef ∷ 1 ∷ 0 ∷ 2 ∷ 0x1234 ∷ []) ++ replicate 12 0 ++ (1 ∷ 1 ∷ 0 ∷ 0 ∷ 0 ∷ [])

-- 6 octets: a call without a description, both releases absent
abbrev pub absent_parts : List ℕ
absent_parts = 0x04 ∷ 0x0b ∷ 0xc6 ∷ 0x14 ∷ 0xe9 ∷ 0xab ∷ []

abbrev pub absent_numbers : List ℕ
absent_numbers = (0 ∷ 12345678 ∷ 1 ∷ 0 ∷ 3 ∷ 5 ∷ []) ++ replicate 23 0

-- 17 octets: a call with a short list, which uses all of their bits
abbrev pub end_parts : List ℕ
end_parts = 0x04 ∷ 0x0b ∷ 0xc6 ∷ 0x14 ∷ 0xe9 ∷ 0xae ∷ 0xaf ∷ 0x77 ∷ 0xbf ∷ 0x80 ∷ 0 ∷ 0 ∷ 0 ∷ 0 ∷ 0 ∷ 0 ∷ 0x01 ∷ []

abbrev pub end_numbers : List ℕ
end_numbers = (0 ∷ 12345678 ∷ 1 ∷ 0 ∷ 3 ∷ 5 ∷ 1 ∷ 0xabddef ∷ 1 ∷ 1 ∷ 0 ∷ 0x8000000000000001 ∷ []) ++ replicate 17 0

-- 9 octets: the mobile station with TMSI 12345678 hex is paged for a short message, as in facch's specs/Promises, and the octets that are written
abbrev pub paged_parts : List ℕ
paged_parts = 0x04 ∷ 0x82 ∷ 0xfa ∷ 0x09 ∷ 0x1a ∷ 0x2b ∷ 0x3c ∷ 0x59 ∷ 0xbb ∷ []

abbrev pub paged_numbers : List ℕ
paged_numbers = (1 ∷ []) ++ replicate 11 0 ++ (5 ∷ 0xf4 ∷ 0x12345678 ∷ 2 ∷ 1 ∷ 4 ∷ []) ++ replicate 6 0 ++ (1 ∷ 0 ∷ 0 ∷ 1 ∷ 1 ∷ [])

abbrev pub paged_written : List ℕ
paged_written = 0x00 ∷ 0x82 ∷ 0xfa ∷ 0x09 ∷ 0x1a ∷ 0x2b ∷ 0x3c ∷ 0x59 ∷ 0xbb ∷ []

pub record EveryListedInputGivesItsNumbers : Type 0 where
  -- twenty 2B: no parts, 4 bits used
  pub nothing : read_numbers (replicate 20 0x2b) ≡ 4 ∷ replicate 105 0
  -- CB and nineteen 2B: NLN 2, 6 used
  pub numbered : read_numbers (0xcb ∷ replicate 19 0x2b) ≡ 6 ∷ 1 ∷ 2 ∷ replicate 103 0
  -- twenty FF are refused: all zeros
  pub refused : read_numbers (replicate 20 0xff) ≡ replicate 106 0
  pub first : read_numbers first_parts ≡ 140 ∷ first_numbers
  pub second : read_numbers second_parts ≡ 148 ∷ second_numbers
  pub third : read_numbers third_parts ≡ 113 ∷ third_numbers
  pub fourth : read_numbers fourth_parts ≡ 160 ∷ fourth_numbers
  pub facch : facch-numbers.read_numbers every_facch_part ≡ 183 ∷ every_facch_number
  pub facch-uplink : facch-numbers.read_numbers uplink_part ≡ 101 ∷ uplink_numbers
  pub facch-absent : facch-numbers.read_numbers absent_parts ≡ 48 ∷ absent_numbers
  pub facch-end : facch-numbers.read_numbers end_parts ≡ 136 ∷ end_numbers
  pub facch-paged : facch-numbers.read_numbers paged_parts ≡ 69 ∷ paged_numbers
  -- and written again, over zeros
  pub accepted : write_code (140 ∷ first_numbers) 20 ≡ 0
  pub written : after_write (140 ∷ first_numbers) (replicate 20 0) ≡ first_parts
  -- a flag of 2, and the 105 numbers without the first
  pub flagged : write_code (0 ∷ 2 ∷ replicate 104 0) 20 ≡ 12
  pub few : write_code first_numbers 20 ≡ 13
  -- the same on the FACCH: zero in the first octet, a flag of 2, and the 29 numbers without the first
  pub facch-accepted : facch-numbers.write_code (69 ∷ paged_numbers) 9 ≡ 0
  pub facch-written : facch-numbers.after_write (69 ∷ paged_numbers) (replicate 9 0xff) ≡ paged_written
  pub facch-flagged : facch-numbers.write_code (0 ∷ 2 ∷ replicate 28 0) 9 ≡ 12
  pub facch-few : facch-numbers.write_code paged_numbers 9 ≡ 13

-- 14. What a reader returns tells the number of the refusal, in the low octet, and its bit, above it: none is cut off.
abbrev pub AResultTellsNumberAndBit : Type 0
AResultTellsNumberAndBit =
    ((s : List ℕ) → (code_of (read_of s).refusal % 256 ≡ (read_of s).refusal.number) × (code_of (read_of s).refusal / 256 ≡ (read_of s).refusal.bit))
    × ((s : List ℕ)
    → (code_of (facch-told.read_of s).refusal % 256 ≡ (facch-told.read_of s).refusal.number)
    × (code_of (facch-told.read_of s).refusal / 256 ≡ (facch-told.read_of s).refusal.bit))
