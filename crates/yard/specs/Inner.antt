-- What only private functions' contracts speak of; nothing public rests on it. Assumes nothing.
use Rattle.std.specs.Prelude.{◌≡◌, Bool, true, false, List, [], ◌∷◌, ◌++◌, ℕ, ◌+◌, ◌≤◌, ◌<◌}
use Rattle.std.proofs.Math.Option.{Option, none, some}
use Rattle.receiver.specs.Channels.{key_count}
use Rattle.receiver.specs.Model.{wrap_sub}
use Rattle.receiver.specs.Step.{most_entries}
use Rattle.layout.specs.Octets.{le_at, octet_at}
use Rattle.layout.specs.Layout.{tick_from, told_at}
use Rattle.layout.specs.Parts.{told_numbers}
use Rattle.yard.specs.Yard.{Shown, call_count, called_no}
use Rattle.yard.specs.Octets.{call_place, place_for, yard_of}

abbrev pub is_shown : Option Shown → Bool
is_shown none = false
is_shown (some s) = true

-- the numbers of a place, as a call's
unfoldable pub numbers_of : List ℕ → ℕ → List ℕ
numbers_of l i = told_numbers (told_at l (call_place i + 8)) ++ (wrap_sub (le_at 4 l tick_from) (le_at 4 l (call_place i)) ∷ [])

-- a place that has the n-th call
abbrev pub HasNumbers : List ℕ → ℕ → ℕ → Type 0
HasNumbers l n i = (i < call_count) × (called_no (yard_of l) n ≡ numbers_of l i)

-- no entry of the receiver's answer from the n-th on has a place for a call
abbrev pub NoneFrom : List ℕ → ℕ → Type 0
NoneFrom r n = (j : ℕ) → n ≤ j → j < most_entries → key_count ≡ place_for r j

-- the first n places are told no number, and have no call then
abbrev pub NoCalls : List ℕ → ℕ → Type 0
NoCalls l n = (k : ℕ) → k < n → octet_at l (call_place k + 16) ≡ 0
