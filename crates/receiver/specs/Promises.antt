-- What is promised of looking up a key, and of the keys of a setup (document 02, §11). Assumes nothing.
use Rattle.std.specs.Prelude.{◌≡◌, List, [], ℕ, ◌^◌, ◌≤◌, ◌<◌, length, get_or, ltb}
use Rattle.bits.specs.Field.{pick}
use Rattle.receiver.specs.declared.Setup.{Setup}
use Rattle.receiver.specs.Channels.{key_count}
use Rattle.receiver.specs.Halving.{not_found, halving, first_of}
use Rattle.receiver.specs.Model.{index_of, keys_of, started_of}

-- ## 1. How many keys are compared

-- Among n keys, in whatever order, at most 1 + ⌊log2 n⌋: where n is less than 2 ^ k, at most k.
abbrev pub FewerThanAPowerOfTwoTakeThatManyLooks : Type 0
FewerThanAPowerOfTwoTakeThatManyLooks = (keys : List ℕ) (key k : ℕ) → length keys < 2 ^ k → (halving keys key).looks ≤ k

abbrev pub FiftyKeysTakeAtMostSixLooks : Type 0
FiftyKeysTakeAtMostSixLooks = (keys : List ℕ) (key : ℕ) → length keys ≤ key_count → (halving keys key).looks ≤ 6

abbrev pub NoKeysTakeNoLook : Type 0
NoKeysTakeNoLook = (key : ℕ) → halving [] key ≡ not_found

-- ## 2. What is found

-- Among any keys: where a place is answered, the key stands there.
abbrev pub WhatIsFoundHasTheKey : Type 0
WhatIsFoundHasTheKey = (keys : List ℕ) (key : ℕ) → index_of keys key < key_count → (index_of keys key < length keys) × (get_or keys (index_of keys key) 0 ≡ key)

-- each key is above every one before it
abbrev pub Rising : List ℕ → Type 0
Rising keys = (i j : ℕ) → i < j → j < length keys → get_or keys i 0 < get_or keys j 0

-- Among rising keys the halving finds what a search from the front finds, and nothing where that finds nothing.
abbrev pub RisingKeysAreFoundAsFromTheFront : Type 0
RisingKeysAreFoundAsFromTheFront =
    (keys : List ℕ) → Rising keys → (key : ℕ) → index_of keys key ≡ pick (ltb (first_of keys key) (length keys)) (first_of keys key) key_count

-- ## 3. The keys of a setup

-- Wherever a key is not above one before it, be it the same or less, the setup is refused.
abbrev pub KeysThatDoNotRiseAreRefused : Type 0
KeysThatDoNotRiseAreRefused =
    (s : Setup) (keys groups : List ℕ) (i j : ℕ) → i < j → j < length keys → get_or keys j 0 ≤ get_or keys i 0 → (started_of s keys groups).refusal.number ≡ 10

-- An accepted setup's receiver looks among the keys as they were lent, and no others.
abbrev pub TheLentKeysAreLookedAmong : Type 0
TheLentKeysAreLookedAmong = (s : Setup) (keys groups : List ℕ) → (started_of s keys groups).refusal.number ≡ 0 → (Rising keys) × (keys_of (started_of s keys groups).receiver ≡ keys)
