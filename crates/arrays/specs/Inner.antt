-- What only private functions' contracts speak of; nothing public rests on it. Assumes nothing.
use Rattle.std.specs.Prelude.{◌≡◌, List, ◌∷◌, map, ℕ, ◌≤◌, length, get_or}
use Rattle.csn1.specs.Format.{Res, ok, bad}
use Rattle.csn1.specs.Told.{padded}
use Rattle.arrays.specs.Runs.{stored, each}

-- ## What the reader of a part leaves in an array of zeros, and what it passes on

-- how many were read, and the numbers of the first n of them in their places
abbrev pub list_run : {A B : Type 0} → (A → B) → B → (B → List ℕ) → ℕ → List A → List ℕ
list_run told z f n l = length l ∷ each f (padded z n (map told l))

-- every place from one on holds 0
abbrev pub Zeros : List ℕ → ℕ → Type 0
Zeros l at = (k : ℕ) → at ≤ k → get_or l k 0 ≡ 0

-- the numbers of what was read stand from a place on, and all else is as it was; a refusal asks nothing of the array
abbrev pub Filled : {A : Type 0} → (A → List ℕ) → ℕ → Res A → List ℕ → List ℕ → Type 0
Filled run at (ok v q) before after = after ≡ stored before at (run v)
Filled run at (bad r) before after = Unit {0}

-- of what was read, x, the reader passes r on
abbrev pub Left : {A P : Type 0} → (Res A → P) → (A → List ℕ) → ℕ → Res A → P → List ℕ → List ℕ → Type 0
Left passed run at x r before after = (r ≡ passed x) × Filled run at x before after
