-- Two setups, the second with more subscriptions, and an answer without what these may change. Assumes nothing.
use Rattle.std.specs.Prelude.{◌≡◌, List, map, Bool, not, ℕ, ◌<◌, length}
use Rattle.bits.specs.Field.{both, pick}
use Rattle.receiver.specs.declared.Told.{Told}
use Rattle.receiver.specs.Halving.{first_of}
use Rattle.isolation.specs.Calls.{subscribed, named, not_ours_of, set_under, Reply}

-- every key of the first setup is one of the second, with the same set of group keys
abbrev pub Within : List ℕ → List ℕ → List ℕ → List ℕ → Type 0
Within keys groups more others =
    (key : ℕ) → first_of keys key < length keys → (first_of more key < length more) × (set_under keys groups key ≡ set_under more others key)

-- a key of the second setup that is none of the first
abbrev pub is_new : List ℕ → List ℕ → ℕ → Bool
is_new keys more key = both (subscribed more key) (not (subscribed keys key))

-- what is told under a new key is left blank; the key stays
abbrev pub blank_new : List ℕ → List ℕ → Told → Told
blank_new keys more t = pick (is_new keys more t.key) (named t.key not_ours_of) t

-- an answer without the counts of lost halves and without what is told under the new keys. All the rest of it is named here: a part that comes later must be, too.
abbrev pub blanked : List ℕ → List ℕ → Reply → Reply
blanked keys more a =
    record {
      refusal = a.refusal;
      expired = 0;
      dropped = 0;
      count = a.count;
      entries = map (blank_new keys more) a.entries;
      paged = a.paged;
    }
