-- A place for each key: the lent numbers, then unused places. Assumes nothing.
use mathlib.Core.Path.{◌≡◌, refl, ap}
use mathlib.Core.List.{List, [], ◌∷◌, ◌++◌}
use Prim.Native.Nat.{ℕ, zero, suc, ◌≤◌}
use native.Mathlib.Omega.{arith}
use lib.ListN.{length, take, drop, replicate}
use Rattle.csn1.specs.Told.{padded}
use Rattle.receiver.specs.Model.{key_places, no_key}
use Rattle.receiver.proofs.Accepted.{take-padded}

-- n places of which the first hold the numbers, and the others z
pub places_whole : (z n : ℕ) (l : List ℕ) → length l ≤ n → l ++ drop (length l) (replicate n z) ≡ padded z n l
places_whole z zero [] h = refl
places_whole z zero (k ∷ l) h = absurd (omega arith)
places_whole z (suc n) [] h = ap (λ (t : List ℕ). z ∷ t) (places_whole z n [] (omega arith))
places_whole z (suc n) (k ∷ l) h = ap (λ (t : List ℕ). k ∷ t) (places_whole z n l (omega arith))

-- the keys that are there are those that were lent
pub keys_there : (n : ℕ) (l : List ℕ) → length l ≤ n → take (length l) (key_places n l) ≡ l
keys_there = take-padded no_key
