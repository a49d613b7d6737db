-- Runs of numbers in an array. Assumes nothing.
use Rattle.std.specs.Prelude.{List, [], ◌∷◌, ◌++◌, ℕ, zero, suc, ◌+◌}
use Rattle.std.proofs.lemmas.List.Edits.{sets}

-- the array with these values from a place on
unfoldable pub stored : List ℕ → ℕ → List ℕ → List ℕ
stored l at vs = sets l at vs

-- the numbers of each part of a list, one part behind the other
unfoldable pub each : {A : Type 0} → (A → List ℕ) → List A → List ℕ
each f [] = []
each f (a ∷ l) = f a ++ each f l

-- n parts of w numbers each, from a place on
abbrev pub parts_from : {A : Type 0} → (ℕ → A) → ℕ → ℕ → ℕ → List A
parts_from f at w zero = []
parts_from f at w (suc n) = f at ∷ parts_from f (at + w) w n
