-- What only private functions' contracts speak of; nothing public rests on it. Assumes nothing.
use Rattle.std.specs.Prelude.{◌≡◌, List, true, false, ◌⊎◌, ℕ, ◌+◌, ◌*◌, ◌≤◌, ◌<◌, length, get_or}
use Rattle.std.proofs.Math.Option.{some}
use Rattle.std.proofs.Common.{inl, inr}
use Rattle.bits.specs.Field.{field}
use Rattle.call.specs.Call.{DescriptionValue, allocation_length, allocation_octets, no_description, description_of}
use Rattle.words.specs.Unasked.{Took, took, unmet}
use Rattle.words.specs.declared.window.Words.{Words}
use Rattle.words.specs.declared.TakenFrequencies.{TakenFrequencies}
use Rattle.words.specs.declared.TakenDescription.{TakenDescription}

-- ## Words

-- the words are the octets' first 192 bits, which are all of them
pub record Loaded (w : Words) (s : List ℕ) : Type 0 where
  pub first : w.a ≡ field s 0 64
  pub second : w.b ≡ field s 64 64
  pub third : w.c ≡ field s 128 64
  pub short : length s ≤ 24

-- r is the 64 bits from bit k on, wherever x and y are the 128 bits from a place on
abbrev pub Spans : ℕ → ℕ → ℕ → ℕ → Type 0
Spans x y k r = (s : List ℕ) (p : ℕ) → x ≡ field s p 64 → y ≡ field s (p + 64) 64 → r ≡ field s (p + k) 64

-- r is the field of w bits from bit k on, wherever x is the 64 bits from a place on
abbrev pub Part : ℕ → ℕ → ℕ → ℕ → Type 0
Part x k w r = (s : List ℕ) (p : ℕ) → x ≡ field s p 64 → r ≡ field s (p + k) w

-- the words of an array are the octets' first 320 bits, of which there are 160
pub record Twenty (w s : List ℕ) : Type 0 where
  pub long : length s ≡ 20
  pub each : (k : ℕ) → k < 5 → get_or w k 0 ≡ field s (k * 64) 64

-- ## What is taken of a part, and the place behind it

abbrev pub no_frequencies_taken : TakenFrequencies
no_frequencies_taken = record { done = false; shortlist = false; length = 0; frequencies = 0; at = 0 }

abbrev pub frequencies_taken : Took ((ℕ × ℕ) ⊎ ℕ) → TakenFrequencies
frequencies_taken (took (inl a) q) = record { done = true; shortlist = false; length = allocation_length a; frequencies = allocation_octets a; at = q }
frequencies_taken (took (inr l) q) = record { done = true; shortlist = true; length = 0; frequencies = l; at = q }
frequencies_taken unmet = no_frequencies_taken

abbrev pub no_description_taken : TakenDescription
no_description_taken = record { done = false; description = no_description; at = 0 }

abbrev pub description_taken : Took DescriptionValue → TakenDescription
description_taken (took v q) = record { done = true; description = description_of (some v); at = q }
description_taken unmet = no_description_taken
