-- What a reader of PCH entries may rely on, and listed entries. Assumes nothing.
use Rattle.std.specs.Prelude.{◌≡◌, List, [], ◌∷◌, map, true, ℕ, ◌+◌, ◌*◌, ◌≤◌, length}
use Rattle.bits.specs.Field.{pick}
use Rattle.csn1.specs.Told.{as_bit}
use Rattle.call.specs.Call.{ciphered}
use Rattle.pch.specs.Entry.{key_at, ciphered_at, full_at, reference_at, described_at, channel_at, hopping_at, shortlist_at, length_at, frequencies_at, given_at, rand_at, counted_at, cellcount_at, entry_length, number_at, is_set, hops, allocates, last_key, no_entry, read_of}

abbrev pub Accepted : List ℕ → Type 0
Accepted ns = (read_of ns).refusal.number ≡ 0

-- 1. A refused entry is zero.
abbrev pub ARefusedEntryIsZero : Type 0
ARefusedEntryIsZero = (ns : List ℕ) → (Accepted ns → ⊥) → (read_of ns).«record» ≡ no_entry

-- 2. The call is the one that the key names.
abbrev pub AnAcceptedEntryIsUnderItsKey : Type 0
AnAcceptedEntryIsUnderItsKey =
    (ns : List ℕ)
    → Accepted ns
    → ((read_of ns).«record».call.reference * 2 + as_bit (read_of ns).«record».call.vgcs ≡ number_at ns key_at)
    × (number_at ns key_at ≤ last_key)

-- 3. There is no description without a full reference.
abbrev pub ADescribedEntryIsFull : Type 0
ADescribedEntryIsFull = (ns : List ℕ) → Accepted ns → (read_of ns).«record».call.hasDescription ≡ true → (read_of ns).«record».full ≡ true

-- 4. The cipher key number of a full reference is 0 exactly where the entry is not marked.
abbrev pub AFullEntryIsCipheredAsMarked : Type 0
AFullEntryIsCipheredAsMarked =
    (ns : List ℕ) → Accepted ns → (read_of ns).«record».full ≡ true → ciphered (read_of ns).«record».call ≡ (read_of ns).«record».ciphered

-- 5. What stands behind a flag that is 0 changes nothing, however large it is: it may as well be 0.
module _ (ns : List ℕ) where
  abbrev pub behind : ℕ → ℕ → ℕ
  behind flag at = pick (is_set ns flag) (number_at ns at) 0

  abbrev pub cleaned : List ℕ
  cleaned =
      number_at ns key_at
      ∷ number_at ns ciphered_at
      ∷ number_at ns full_at
      ∷ behind full_at reference_at
      ∷ number_at ns described_at
      ∷ behind described_at channel_at
      ∷ behind described_at hopping_at
      ∷ pick (hops ns) (number_at ns shortlist_at) 0
      ∷ pick (allocates ns) (number_at ns length_at) 0
      ∷ pick (hops ns) (number_at ns frequencies_at) 0
      ∷ number_at ns given_at
      ∷ behind given_at rand_at
      ∷ number_at ns counted_at
      ∷ behind counted_at cellcount_at
      ∷ []

abbrev pub WhatStandsBehindAnAbsentFlagIsNotLookedAt : Type 0
WhatStandsBehindAnAbsentFlagIsNotLookedAt = (ns : List ℕ) → length ns ≡ entry_length → read_of (cleaned ns) ≡ read_of ns

-- 6. Listed entries, each behind its refusal.
abbrev pub listed : List (ℕ × List ℕ)
listed =
    -- accepted: with a description and a count; the last key; without a full reference, and with much behind its absent flags
    (0, 14 ∷ 1 ∷ 1 ∷ 3621 ∷ 1 ∷ 15345278 ∷ 0 ∷ 0 ∷ 0 ∷ 0 ∷ 0 ∷ 0 ∷ 1 ∷ 3 ∷ [])
    ∷ (0, 199999999 ∷ 0 ∷ 1 ∷ 51199999776 ∷ 1 ∷ 11799942 ∷ 0 ∷ 0 ∷ 0 ∷ 0 ∷ 0 ∷ 0 ∷ 0 ∷ 0 ∷ [])
    ∷ (0, 14 ∷ 0 ∷ 0 ∷ 40627546610 ∷ 0 ∷ 5 ∷ 1 ∷ 0 ∷ 1 ∷ 9 ∷ 1 ∷ 10199564251 ∷ 0 ∷ 2 ∷ [])
    -- a key too high, with an allocation of no octets
    ∷ (4, 200000000 ∷ 1 ∷ 1 ∷ 3621 ∷ 1 ∷ 7559898 ∷ 1 ∷ 0 ∷ 0 ∷ 258 ∷ 0 ∷ 0 ∷ 0 ∷ 0 ∷ [])
    -- an allocation of no octets, and the hopping bit unlike its flag; of nine, and no full reference
    ∷ (3, 14 ∷ 1 ∷ 1 ∷ 3621 ∷ 1 ∷ 0 ∷ 1 ∷ 0 ∷ 0 ∷ 258 ∷ 0 ∷ 0 ∷ 0 ∷ 0 ∷ [])
    ∷ (3, 14 ∷ 1 ∷ 0 ∷ 3621 ∷ 1 ∷ 7559898 ∷ 1 ∷ 0 ∷ 9 ∷ 258 ∷ 0 ∷ 0 ∷ 0 ∷ 0 ∷ [])
    -- the hopping bit unlike its flag; the same and a count of 4
    ∷ (5, 14 ∷ 1 ∷ 1 ∷ 3621 ∷ 1 ∷ 7559898 ∷ 0 ∷ 0 ∷ 0 ∷ 0 ∷ 0 ∷ 0 ∷ 0 ∷ 0 ∷ [])
    ∷ (5, 14 ∷ 1 ∷ 1 ∷ 3621 ∷ 1 ∷ 0 ∷ 1 ∷ 0 ∷ 2 ∷ 258 ∷ 0 ∷ 0 ∷ 1 ∷ 4 ∷ [])
    -- a ciphered mark of 2; a channel of 25 bits; a VSTK_RAND of 37
    ∷ (12, 14 ∷ 2 ∷ 1 ∷ 3621 ∷ 1 ∷ 7555802 ∷ 0 ∷ 0 ∷ 0 ∷ 0 ∷ 0 ∷ 0 ∷ 0 ∷ 0 ∷ [])
    ∷ (12, 14 ∷ 1 ∷ 1 ∷ 3621 ∷ 1 ∷ 24333018 ∷ 0 ∷ 0 ∷ 0 ∷ 0 ∷ 0 ∷ 0 ∷ 0 ∷ 0 ∷ [])
    ∷ (12, 14 ∷ 1 ∷ 1 ∷ 3621 ∷ 1 ∷ 7555802 ∷ 0 ∷ 0 ∷ 0 ∷ 0 ∷ 1 ∷ 68719476736 ∷ 0 ∷ 0 ∷ [])
    -- a description without a full reference; a full reference of key 15; a marked one with cipher key number 0
    ∷ (12, 14 ∷ 1 ∷ 0 ∷ 0 ∷ 1 ∷ 7555802 ∷ 0 ∷ 0 ∷ 0 ∷ 0 ∷ 0 ∷ 0 ∷ 0 ∷ 0 ∷ [])
    ∷ (12, 14 ∷ 1 ∷ 1 ∷ 3877 ∷ 1 ∷ 7555802 ∷ 0 ∷ 0 ∷ 0 ∷ 0 ∷ 0 ∷ 0 ∷ 0 ∷ 0 ∷ [])
    ∷ (12, 14 ∷ 1 ∷ 1 ∷ 3616 ∷ 1 ∷ 7555802 ∷ 0 ∷ 0 ∷ 0 ∷ 0 ∷ 0 ∷ 0 ∷ 0 ∷ 0 ∷ [])
    -- too few numbers
    ∷ (13, 14 ∷ 0 ∷ 0 ∷ [])
    ∷ []

abbrev pub TheListedEntriesAreAnsweredSo : Type 0
TheListedEntriesAreAnsweredSo = map (λ (row : ℕ × List ℕ). (read_of row.1).refusal.number) listed ≡ map (λ (row : ℕ × List ℕ). row.0) listed
