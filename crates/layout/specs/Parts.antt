-- One number of the answer to the last accepted event. Assumes nothing.
use Rattle.std.specs.Prelude.{List, [], ◌∷◌, ◌++◌, ℕ, get_or}
use Rattle.receiver.specs.declared.Record.{Record}
use Rattle.receiver.specs.declared.Told.{Told}
use Rattle.receiver.specs.declared.Paged.{Paged}
use Rattle.csn1.specs.Told.{as_bit}
use Rattle.receiver.specs.Step.{no_told}
use Rattle.layout.specs.Layout.{Last, entry_flags, message_flags, small_numbers}

-- a record as numbers, in the order of the header's parts
abbrev pub record_numbers : Record → List ℕ
record_numbers r =
    r.call.reference ∷ r.call.description.channel ∷ r.call.description.frequencies ∷ r.rand ∷ entry_flags r ++ (message_flags r ++ small_numbers r)

-- a told entry
abbrev pub told_numbers : Told → List ℕ
told_numbers t = t.key ∷ t.number ∷ record_numbers t.«record» ++ (t.follow ∷ t.kept ∷ [])

-- who is paged
abbrev pub paged_numbers : Paged → List ℕ
paged_numbers p =
    as_bit p.there ∷ p.page.identityLength ∷ p.page.identityFirst ∷ p.page.identityRest ∷ p.page.channelFirst
    ∷ as_bit p.page.hasPriority ∷ p.page.priority ∷ as_bit p.hasCause ∷ as_bit p.cause ∷ []

-- three numbers of the answer, two of an entry, thirty of its record, two more of the entry, nine more of the answer: parts of this number and above are 0
abbrev pub part_count : ℕ
part_count = 46

unfoldable pub part_of : Last → ℕ → ℕ → ℕ
part_of a entry part = get_or (a.expired ∷ a.dropped ∷ a.count ∷ told_numbers (get_or a.entries entry no_told) ++ paged_numbers a.paged) part 0
