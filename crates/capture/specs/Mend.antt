-- What mending a capture copies, and how it lists what it leaves out: the fields that replay refuses, and a torn end (document 02, §12). Assumes nothing.
use Rattle.std.specs.Prelude.{ℕ, ◌+◌, ◌%◌, ◌^◌, List, [], ◌∷◌, ◌++◌, length, ◌==◌}
use Rattle.bits.specs.Field.{pick}
use Rattle.text.specs.Digits.{decimal}
use Rattle.capture.specs.Capture.{field_octets, head_length, Part, whole, torn, parts_of}
use Rattle.capture.specs.Replay.{Said, Stage, before, is_over, said_of, stage_after, blank, line_end, next_number}

-- ## A part

-- a field that replay does not refuse is copied
abbrev pub copy_of : Part → Stage → List ℕ
copy_of (whole f) st = pick ((said_of (whole f) st).refusal == 0) (field_octets f) []
copy_of (torn t) st = []

-- a line of the list: the number of the field, the offset of its tag, the refusal
unfoldable pub left_text : ℕ → ℕ → ℕ → List ℕ
left_text n offset refusal = decimal n ++ (blank ∷ decimal offset ++ (blank ∷ decimal refusal ++ (line_end ∷ [])))

-- what is refused is listed
abbrev pub list_of : ℕ → ℕ → Said → List ℕ
list_of n offset s = pick (s.refusal == 0) [] (left_text n offset s.refusal)

-- octets are counted by a number of 64 bits
abbrev pub further_by : ℕ → ℕ → ℕ
further_by offset n = (offset + n) % 2 ^ 64

-- the offset of the part behind one; behind a torn one there is none
abbrev pub next_offset : ℕ → Part → ℕ
next_offset offset (whole f) = further_by offset (head_length + length f.contents)
next_offset offset (torn t) = offset

-- ## A capture

-- what is copied, and the list of what is left out
pub record Parted : Type 0 where
  pub copied : List ℕ
  pub listed : List ℕ

abbrev pub nothing : Parted
nothing = record { copied = []; listed = [] }

abbrev pub ahead : List ℕ → List ℕ → Parted → Parted
ahead c l p = record { copied = c ++ p.copied; listed = l ++ p.listed }

-- more that is listed at the end
abbrev pub then_listed : Parted → List ℕ → Parted
then_listed p l = record { copied = p.copied; listed = p.listed ++ l }

unfoldable pub mend_from : ℕ → ℕ → Stage → List Part → Parted
mend_from n offset st [] = nothing
mend_from n offset st (p ∷ ps) =
    pick (is_over st) nothing (ahead (copy_of p st) (list_of n offset (said_of p st)) (mend_from (next_number n) (next_offset offset p) (stage_after p st) ps))

-- fields are counted from 1, octets from 0
unfoldable pub mend_of : List ℕ → Parted
mend_of s = mend_from 1 0 before (parts_of s)
