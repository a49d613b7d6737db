-- Looking up a key: by halving, with how many keys are compared (document 02, §11); and from the front. Assumes nothing.
use Rattle.std.specs.Prelude.{List, [], ◌∷◌, Bool, true, ℕ, zero, suc, ◌+◌, ◌-◌, ◌/◌, length, get_or, ltb, eqb}
use Rattle.bits.specs.Field.{both, pick}
use Rattle.receiver.specs.declared.finding.Found.{Found}
use Rattle.receiver.specs.Channels.{key_count}

-- ## The halving

-- what is found without a look: a key at its place, and none, for no key has the place `key_count`
abbrev pub found_at : ℕ → Found
found_at place = record { at = place; looks = 0 }

abbrev pub not_found : Found
not_found = found_at key_count

-- one look more
abbrev pub looked : Found → Found
looked f = record { at = f.at; looks = suc f.looks }

abbrev pub middle_of : ℕ → ℕ → ℕ
middle_of start end = start + (end - start) / 2

-- the key is sought from start to end, end left out: it is compared with the one in the middle; where that is not the same, it is sought in the lower part or in the
-- upper one. At most so many keys are compared as the bound says: one that is no less than their number is no bound.
unfoldable pub sought_in : ℕ → List ℕ → ℕ → ℕ → ℕ → Found
sought_in zero keys key start end = not_found
sought_in (suc bound) keys key start end =
    let middle = middle_of start end in
    pick (ltb start end)
    (looked
    (pick (eqb key (get_or keys middle 0)) (found_at middle)
    (pick (ltb key (get_or keys middle 0)) (sought_in bound keys key start middle) (sought_in bound keys key (middle + 1) end))))
    not_found

-- among all keys
unfoldable pub halving : List ℕ → ℕ → Found
halving keys key = sought_in (length keys) keys key 0 (length keys)

-- ## From the front

-- the first place of a key among the keys, and their number where it is not there
unfoldable pub first_of : List ℕ → ℕ → ℕ
first_of [] key = 0
first_of (k ∷ ks) key = pick (eqb k key) 0 (suc (first_of ks key))

-- ## Rising order

-- a key is below the next one, where there is a next one
abbrev pub below_next : ℕ → List ℕ → Bool
below_next k [] = true
below_next k (next ∷ ks) = ltb k next

unfoldable pub rises : List ℕ → Bool
rises [] = true
rises (k ∷ ks) = both (below_next k ks) (rises ks)
