-- Which call owns which random entry and which emergency mark (10.5.2.22c). Assumes nothing.
use Rattle.std.specs.Prelude.{List, [], ◌∷◌, Bool, false, ℕ, zero, suc, ◌+◌, take, get_or}
use Rattle.std.proofs.Math.Option.{Option, none, some}
use Rattle.bits.specs.Field.{pick}
use Rattle.call.specs.Call.{ciphered, no_call}
use Rattle.call.specs.declared.Call.{Call}
use Rattle.nch.specs.declared.Random.{Random}
use Rattle.nch.specs.declared.Notification.{Notification}
use Rattle.nch.specs.Octets.{count}
use Rattle.nch.specs.Write.{calls_of, is_described}

-- the i-th of a list, counted from 0
abbrev pub nth : {A : Type 0} → ℕ → List A → Option A
nth i [] = none
nth zero (a ∷ l) = some a
nth (suc i) (a ∷ l) = nth i l

abbrev pub randoms_of : Notification → List Random
randoms_of m = take m.release6.randomcount m.release6.randoms

abbrev pub marks_of : Notification → List Bool
marks_of m = take m.release7.markcount m.release7.marks

-- how many of the calls before the i-th pass the test
abbrev pub before : (Call → Bool) → Notification → ℕ → ℕ
before t m i = count t (take i (calls_of m))

-- The random entry of the i-th call: a ciphered call owns the one that stands where it stands among the ciphered calls.
unfoldable pub random_of_call : Notification → ℕ → Option Random
random_of_call m i = pick (ciphered (get_or (calls_of m) i no_call)) (nth (before ciphered m i) (randoms_of m)) none

-- The random entry of the j-th reduced reference: reduced references all count as ciphered, and come after the calls.
unfoldable pub random_of_reduced : Notification → ℕ → Option Random
random_of_reduced m j = nth (count ciphered (calls_of m) + j) (randoms_of m)

abbrev pub or_not : Option Bool → Bool
or_not none = false
or_not (some b) = b

-- Whether the i-th call is in emergency: a described call owns the mark that stands where it stands among the described calls, and without one is not.
unfoldable pub emergency_of_call : Notification → ℕ → Bool
emergency_of_call m i = pick (is_described (get_or (calls_of m) i no_call)) (or_not (nth (before is_described m i) (marks_of m))) false
