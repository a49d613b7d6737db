-- A grammar of bits as one term, indexed by the type of what it says, and the format that it means. Assumes nothing.
use Rattle.std.specs.Prelude.{List, Bool, true, false, ◌⊎◌, ◌≡◌, ℕ, ◌<◌}
use Rattle.std.proofs.Math.Option.{Option}
use Rattle.csn1.specs.Format.{is_clip, Format, num, row, ◌▹◌, ◌⨟◌, opt, list, coded, release, checked, in_release, either, when}

infixr 40 ◌then_by◌ ◌and◌
-- CSN.1 in the standards' own notation stands beside each
pub data Grammar : Type 0 → Type 1 where
  -- < name : bit (n) >
  number : ℕ → Grammar ℕ
  -- < name : bit (n) > < name : bit (m) > .., one field in all
  numbers : List ℕ → Grammar (List ℕ)
  -- < bit == L > | < bit == H >
  low-high : Grammar ℕ
  -- one after the other
  ◌and◌ : {A B : Type 0} → Grammar A → Grammar B → Grammar (A × B)
  -- one after the other, where the first says what the second is
  ◌then_by◌ : {A B : Type 0} → Grammar A → (A → Grammar B) → Grammar (A × B)
  -- { 0 | 1 < part > }
  flagged : {A : Type 0} → Grammar A → Grammar (Option A)
  -- { 1 < part > } ** 0
  listed : {A : Type 0} → Grammar A → Grammar (List A)
  -- { null | L | H < part > }
  later : {A : Type 0} → Grammar A → Grammar (Option A)
  -- { 0 < part > | 1 < part > }
  one_of : {A B : Type 0} → Grammar A → Grammar B → Grammar (A ⊎ B)
  -- a part present only if
  only_if : {A : Type 0} → Bool → Grammar A → Grammar (Option A)
  -- a part, and the number of the refusal where it does not pass a test
  refuse : {A : Type 0} → ℕ → (A → Bool) → Grammar A → Grammar A
  -- a part of a later release: bits that run out in it are refused with this number
  inside : {A : Type 0} → ℕ → Grammar A → Grammar A

-- what a grammar means
abbrev pub format : {A : Type 0} → Grammar A → Format A
format (number w) = num w
format (numbers ws) = row ws
format low-high = coded
format (◌and◌ f g) = format f ⨟ format g
format (◌then_by◌ f g) = format f ▹ λ a. format (g a)
format (flagged f) = opt (format f)
format (listed f) = list (format f)
format (later f) = release (format f)
format (one_of f g) = either (format f) (format g)
format (only_if t f) = when t (format f)
format (refuse m t f) = checked t m (format f)
format (inside m f) = in_release m (format f)

-- a test's number is that of an octet, not 0 and not one for bits that ran out; a later release's is one for bits that ran out
abbrev pub Numbered : {A : Type 0} → Grammar A → Type 0
Numbered (number w) = Unit {0}
Numbered (numbers ws) = Unit {0}
Numbered low-high = Unit {0}
Numbered (◌and◌ f g) = Numbered f × Numbered g
Numbered (◌then_by◌ {A} f g) = Numbered f × ((a : A) → Numbered (g a))
Numbered (flagged f) = Numbered f
Numbered (listed f) = Numbered f
Numbered (later f) = Numbered f
Numbered (one_of f g) = Numbered f × Numbered g
Numbered (only_if t f) = Numbered f
Numbered (refuse m t f) = (0 < m) × (m < 256) × (is_clip m ≡ false) × Numbered f
Numbered (inside m f) = (is_clip m ≡ true) × Numbered f
