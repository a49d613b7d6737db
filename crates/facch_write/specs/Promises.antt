-- What is promised of writing NOTIFICATION/FACCH (demand 2): round trips over equal sizes. Assumes nothing.
use Rattle.std.specs.Prelude.{◌≡◌, List, [], ◌∷◌, true, ℕ, ◌*◌, ◌≤◌, ◌<◌, length}
use Rattle.bits.specs.Field.{bit}
use Rattle.csn1.specs.Format.{no_refusal, pad_bit}
use Rattle.call.specs.Write.{call_is_low, call_length_right, call_hops_right}
use Rattle.facch.specs.declared.Notification.{Notification}
use Rattle.facch.specs.Message.{Value, notification}
use Rattle.facch.specs.Told.{record_of, read_of}
use Rattle.facch.specs.Promises.{paged_tmsi}
use Rattle.facch_write.specs.Write.{in_range, identity_right, form, write_number, written}

-- 1. Reading what was written into n octets gives the record back, and the bits used are its written form's, padding left out.
abbrev pub ReadingGivesBackWhatWasWritten : Type 0
ReadingGivesBackWhatWasWritten =
    (m : Notification) (n : ℕ)
    → write_number m n ≡ 0
    → read_of (written m n) ≡ record { refusal = no_refusal; used = length (form m n); «record» = m }

-- what was read of s is written again into as many octets: zero in the first, the same bits up to the last bit used, and padding after it
pub record WrittenAgain (s : List ℕ) : Type 0 where
  pub accepted : write_number (read_of s).«record» (length s) ≡ 0
  pub as_long : length (written (read_of s).«record» (length s)) ≡ length s
  pub first : (k : ℕ) → k < 8 → bit (written (read_of s).«record» (length s)) k ≡ 0
  pub same : (k : ℕ) → 8 ≤ k → k < (read_of s).used → bit (written (read_of s).«record» (length s)) k ≡ bit s k
  pub rest : (k : ℕ) → (read_of s).used ≤ k → k < length s * 8 → bit (written (read_of s).«record» (length s)) k ≡ pad_bit k

-- 2. Writing what was read from n octets into n gives the octets back, the first aside, up to the last bit used, then padding.
abbrev pub WritingGivesBackWhatWasRead : Type 0
WritingGivesBackWhatWasRead = (s : List ℕ) → (read_of s).refusal.number ≡ 0 → WrittenAgain s

-- 3. The number of bits used is the length of the record's written form for that size, for every accepted message.
abbrev pub BitsUsedAreTheWrittenForm : Type 0
BitsUsedAreTheWrittenForm = (s : List ℕ) → (read_of s).refusal.number ≡ 0 → (read_of s).used ≡ length (form (read_of s).«record» (length s))

-- 4. Every record that passes the tests and fits is written: a writer that refuses all is shut out.
abbrev pub EveryRightRecordIsWritten : Type 0
EveryRightRecordIsWritten =
    (m : Notification) (n : ℕ)
    → in_range m ≡ true
    → call_is_low m.call ≡ true
    → call_length_right m.call ≡ true
    → identity_right m ≡ true
    → call_hops_right m.call ≡ true
    → 2 ≤ n
    → n ≤ 23
    → length (form m n) ≤ n * 8
    → write_number m n ≡ 0

-- 5. And whatever the grammar says is the value of such a record: every message that has room in n octets can be written into them.
abbrev pub EveryMessageCanBeWritten : Type 0
EveryMessageCanBeWritten =
    (v : Value) (n : ℕ)
    → notification.fits v
    → 2 ≤ n
    → n ≤ 23
    → length (notification.bits (n * 8) 0 v) ≤ n * 8
    → write_number (record_of v) n ≡ 0

-- 6. Listed: the page of specs/Promises of facch in its own nine octets, and in ten.
pub record ListedForms : Type 0 where
  pub nine : written paged_tmsi.«record» 9 ≡ 0x00 ∷ 0x82 ∷ 0xfa ∷ 0x09 ∷ 0x1a ∷ 0x2b ∷ 0x3c ∷ 0x59 ∷ 0xbb ∷ []
  pub ten : written paged_tmsi.«record» 10 ≡ 0x00 ∷ 0x82 ∷ 0xfa ∷ 0x09 ∷ 0x1a ∷ 0x2b ∷ 0x3c ∷ 0x59 ∷ 0xbb ∷ 0x2b ∷ []
  -- eight octets do not hold it
  pub eight : write_number paged_tmsi.«record» 8 ≡ 11
