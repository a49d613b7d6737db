-- What is promised of NT/N Rest Octets (demand 2, and where bits ran out). Assumes nothing.
use Rattle.std.specs.Prelude.{◌≡◌, List, [], ◌∷◌, map, Bool, true, false, ◌⊎◌, ℕ, ◌+◌, ◌*◌, ◌≤◌, ◌<◌, length, get_or}
use Rattle.std.proofs.Math.Option.{some}
use Rattle.bits.specs.Field.{bit}
use Rattle.csn1.specs.Format.{no_refusal, is_clip, pad_bit}
use Rattle.csn1.specs.Grammar.{number, ◌and◌, flagged, listed}
use Rattle.csn1.specs.Clip.{Clipped, ReleaseOf}
use Rattle.call.specs.declared.Call.{Call}
use Rattle.call.specs.Call.{call_grammar, ciphered, no_call}
use Rattle.nch.specs.declared.Random.{Random}
use Rattle.nch.specs.declared.Notification.{Notification}
use Rattle.nch.specs.Octets.{release6, release7, count, rest_octets}
use Rattle.nch.specs.Told.{read_of, Shaped}
use Rattle.nch.specs.Write.{calls_of, is_described, randoms_owned, marks_owned, write_number, written, form}
use Rattle.nch.specs.Owners.{nth, randoms_of, marks_of, before, random_of_call, random_of_reduced, emergency_of_call}

-- 1. Reading what was written gives the record back, and the bits used are its written form's, padding left out.
abbrev pub ReadingGivesBackWhatWasWritten : Type 0
ReadingGivesBackWhatWasWritten =
    (m : Notification)
    → Shaped m
    → write_number m 20 ≡ 0
    → read_of (written m) ≡ record { refusal = no_refusal; used = length (form m); «record» = m }

-- the bits of s from p on are padding
abbrev pub Padding : List ℕ → ℕ → Type 0
Padding s p = (k : ℕ) → p ≤ k → k < length s * 8 → bit s k ≡ pad_bit k

-- what was read of s is written again: the same bits up to the last bit used, and padding after it
pub record WrittenAgain (s : List ℕ) : Type 0 where
  pub accepted : write_number (read_of s).«record» 20 ≡ 0
  pub same : (k : ℕ) → k < (read_of s).used → bit (written (read_of s).«record») k ≡ bit s k
  pub rest : Padding (written (read_of s).«record») (read_of s).used

-- 2. Writing what was read gives the octets back up to the last bit used, then padding.
abbrev pub WritingGivesBackWhatWasRead : Type 0
WritingGivesBackWhatWasRead = (s : List ℕ) → (read_of s).refusal.number ≡ 0 → WrittenAgain s

-- 3. The number of bits used is the length of the record's written form, for every accepted message.
abbrev pub BitsUsedAreTheWrittenForm : Type 0
BitsUsedAreTheWrittenForm = (s : List ℕ) → (read_of s).refusal.number ≡ 0 → (read_of s).used ≡ length (form (read_of s).«record»)

-- 4. At most 4 calls and 5 reduced references fit in 160 bits.
abbrev pub PlacesAreEnough : Type 0
PlacesAreEnough =
    (s : List ℕ)
    → (read_of s).refusal.number ≡ 0
    → ((read_of s).«record».callcount ≤ 4) × ((read_of s).«record».release6.reducedcount ≤ 5)

-- what only the calls that pass a test own: the k-th belongs to the call that passes and has k before it that do
pub record Owner (t : Call → Bool) (m : Notification) (k : ℕ) : Type 0 where
  pub call : ℕ
  pub there : call < length (calls_of m)
  pub passes : t (get_or (calls_of m) call no_call) ≡ true
  pub position : before t m call ≡ k

-- r, the k-th random entry, is that of the k-th ciphered call
pub record CallOwns (m : Notification) (k : ℕ) (r : Random) : Type 0 where
  pub owner : Owner ciphered m k
  pub owns : random_of_call m owner.call ≡ some r

-- or of a reduced reference, which come after the ciphered calls
pub record ReducedOwns (m : Notification) (k : ℕ) (r : Random) : Type 0 where
  pub reduced : ℕ
  pub there : reduced < m.release6.reducedcount
  pub position : count ciphered (calls_of m) + reduced ≡ k
  pub owns : random_of_reduced m reduced ≡ some r

-- 5. Where refusal 6 is not due, every random entry has an owner.
abbrev pub EveryRandomEntryHasAnOwner : Type 0
EveryRandomEntryHasAnOwner =
    (m : Notification)
    → randoms_owned m ≡ true
    → (k : ℕ) (r : Random)
    → nth k (randoms_of m) ≡ some r
    → CallOwns m k r ⊎ ReducedOwns m k r

-- b, the k-th mark, is that of the k-th described call
pub record Marked (m : Notification) (k : ℕ) (b : Bool) : Type 0 where
  pub owner : Owner is_described m k
  pub owns : emergency_of_call m owner.call ≡ b

-- 6. Where refusal 7 is not due, every emergency mark has an owner.
abbrev pub EveryMarkHasAnOwner : Type 0
EveryMarkHasAnOwner = (m : Notification) → marks_owned m ≡ true → (k : ℕ) (b : Bool) → nth k (marks_of m) ≡ some b → Marked m k b

-- 7. No two calls own the same, and what reduced references own comes behind what calls own.
abbrev pub NoTwoOwnTheSame : Type 0
NoTwoOwnTheSame = (t : Call → Bool) (m : Notification) (k : ℕ) (a b : Owner t m k) → (a.call ≡ b.call) × (k < count t (calls_of m))

-- 8. Refused with 2, 14 or 15: bits ran out in a field that reading came to, which begins at the refusal's bit and ends past the 160 bits. Any other refusal has
-- the bit 0.
abbrev pub AClipIsToldWhereItIs : Type 0
AClipIsToldWhereItIs =
    (s : List ℕ)
    → (is_clip (read_of s).refusal.number ≡ true → (length s ≡ 20) × Clipped rest_octets s 0 (read_of s).refusal)
    × (is_clip (read_of s).refusal.number ≡ false → (read_of s).refusal.bit ≡ 0)

-- 9. 2 is before the releases, 14 from the bit behind Release 6's H to its last bit, and 15 the same in Release 7.
abbrev pub TheNumberSaysTheRelease : Type 0
TheNumberSaysTheRelease =
    (s : List ℕ) → is_clip (read_of s).refusal.number ≡ true → ReleaseOf (flagged (number 2) and listed call_grammar) release6 release7 s 0 (read_of s).refusal

-- 10. Listed clips: the number and the bit, worked out from the octets by hand, and what is missing there.
abbrev pub clips : List ((ℕ × ℕ) × List ℕ)
clips =
    -- six of a fifth call's 36 bits
    ((2, 154), 0x40 ∷ 0x00 ∷ 0x00 ∷ 0x00 ∷ 0x01 ∷ 0x00 ∷ 0x00 ∷ 0x00 ∷ 0x20 ∷ 0x04 ∷ 0x00 ∷ 0x00 ∷ 0x01 ∷ 0x00 ∷ 0x10 ∷ 0x00 ∷ 0x00 ∷ 0x06 ∷ 0x00 ∷ 0x6b ∷ [])
    -- a second call's 36 bits
    ∷ ((2, 130), 0x40 ∷ 0x00 ∷ 0x00 ∷ 0x38 ∷ 0x96 ∷ 0x00 ∷ 0x20 ∷ 0x01 ∷ 0xf7 ∷ 0xd4 ∷ 0x62 ∷ 0xed ∷ 0x04 ∷ 0x67 ∷ 0xfd ∷ 0xaf ∷ 0x40 ∷ 0x00 ∷ 0x00 ∷ 0x3c ∷ [])
    -- random entries up to the last bit: of the last one the flag of VSTK_RAND
    ∷ ((14, 160), 0x04 ∷ 0x92 ∷ 0x49 ∷ 0x24 ∷ 0x92 ∷ 0x49 ∷ 0x24 ∷ 0x92 ∷ 0x49 ∷ 0x24 ∷ 0x92 ∷ 0x49 ∷ 0x24 ∷ 0x92 ∷ 0x49 ∷ 0x24 ∷ 0x92 ∷ 0x49 ∷ 0x24 ∷ 0x92 ∷ [])
    -- 25 of a reduced reference's 28 bits
    ∷ ((14, 135), 0x40 ∷ 0x00 ∷ 0x00 ∷ 0x38 ∷ 0x96 ∷ 0x00 ∷ 0x20 ∷ 0x01 ∷ 0xa5 ∷ 0x52 ∷ 0x07 ∷ 0x90 ∷ 0x43 ∷ 0x79 ∷ 0xce ∷ 0x56 ∷ 0x9f ∷ 0x7d ∷ 0x78 ∷ 0x3f ∷ [])
    -- three of FR AMR Config's four bits
    ∷ ((15, 157), 0xd0 ∷ 0x00 ∷ 0x00 ∷ 0x0e ∷ 0x25 ∷ 0xa0 ∷ 0xd9 ∷ 0x6d ∷ 0xc0 ∷ 0x97 ∷ 0xf2 ∷ 0xe1 ∷ 0xcd ∷ 0x01 ∷ 0xe2 ∷ 0x52 ∷ 0xe6 ∷ 0xb2 ∷ 0xc8 ∷ 0x79 ∷ [])
    ∷ []

-- what a row's octets are refused with, and where
abbrev pub told_of : (ℕ × ℕ) × List ℕ → ℕ × ℕ
told_of row = ((read_of row.1).refusal.number, (read_of row.1).refusal.bit)

abbrev pub row_of : (ℕ × ℕ) × List ℕ → ℕ × ℕ
row_of row = row.0

abbrev pub TheListedClipsAreToldSo : Type 0
TheListedClipsAreToldSo = map told_of clips ≡ map row_of clips
