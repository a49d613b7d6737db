-- What is promised of the lent octets themselves. Assumes nothing.
use Rattle.std.specs.Prelude.{◌≡◌, true, List, ℕ, ◌<◌, length}
use Rattle.receiver.specs.declared.Setup.{Setup}
use Rattle.receiver.specs.Step.{most_entries}
use Rattle.layout.specs.Layout.{is_marked, last_of}
use Rattle.layout.specs.Setup.{SetUp}
use Rattle.layout.specs.Parts.{part_count, part_of}

-- ## 1. A setup

-- two setups with the same numbers, keys and sets on the same octets leave the same, and answer the same number
abbrev pub SetUpDetermines : Type 0
SetUpDetermines = (l : List ℕ) (s : Setup) (keys groups a b : List ℕ) (m n : ℕ) → SetUp l s keys groups a m → SetUp l s keys groups b n → (a ≡ b) × (m ≡ n)

-- Where a setup answers another number than 0, every octet stays as it was.
abbrev pub ARefusedSetupLeavesTheOctets : Type 0
ARefusedSetupLeavesTheOctets = (l : List ℕ) (s : Setup) (keys groups left : List ℕ) (code : ℕ) → SetUp l s keys groups left code → (code ≡ 0 → ⊥) → left ≡ l

-- Two setups with the same numbers, keys and sets, on any octets of one length, answer the same number, and where it is 0 they leave the same octets.
abbrev pub AnAcceptedSetupDoesNotDependOnWhatWasThere : Type 0
AnAcceptedSetupDoesNotDependOnWhatWasThere =
    (l l' : List ℕ)
    → length l ≡ length l'
    → (s : Setup) (keys groups left left' : List ℕ) (code code' : ℕ)
    → SetUp l s keys groups left code
    → SetUp l' s keys groups left' code'
    → (code ≡ code') × (code ≡ 0 → left ≡ left')

-- Octets that an accepted setup left have its mark.
abbrev pub AnAcceptedSetupIsMarked : Type 0
AnAcceptedSetupIsMarked = (l : List ℕ) (s : Setup) (keys groups left : List ℕ) → SetUp l s keys groups left 0 → is_marked left ≡ true

-- ## 2. Reading an answer

-- `asternhaken_read` gives `part_of (last_of l) entry part` of a state. Where every part of every entry reads the same on two states, they hold the same answer: its counts,
-- and each entry with its key, its number, its whole record and whether it can be followed, and who is paged. What stands behind the count, or as the record of an entry told 0 or 4 to 8, is of no answer (`last_of`).
abbrev pub AllPartsAreTheAnswer : Type 0
AllPartsAreTheAnswer =
    (l l' : List ℕ)
    → ((entry part : ℕ) → entry < most_entries → part < part_count → part_of (last_of l) entry part ≡ part_of (last_of l') entry part)
    → last_of l ≡ last_of l'
