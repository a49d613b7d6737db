-- How what is taken of a call is told. Assumes nothing.
use Rattle.std.specs.Prelude.{List, Bool, true, false, ℕ, length, leb}
use Rattle.bits.specs.Field.{field, both, pick}
use Rattle.call.specs.Call.{CallValue, call_grammar, call_of, no_call}
use Rattle.words.specs.Unasked.{Took, took, unmet, taken}
use Rattle.words.specs.declared.TakenCall.{TakenCall}

abbrev pub none_taken : TakenCall
none_taken = record { done = false; call = no_call; at = 0; next = 0 }

-- the call, the place behind it and the 64 bits from there on
abbrev pub taken_of : List ℕ → Took CallValue → TakenCall
taken_of s (took v q) = record { done = true; call = call_of v; at = q; next = field s q 64 }
taken_of s unmet = none_taken

-- three words have 9 to 24 octets, and a place in them
abbrev pub in_words : List ℕ → ℕ → Bool
in_words s p = both (leb 9 (length s)) (both (leb (length s) 24) (leb p 192))

-- what `words::take` answers for any octets and any place
abbrev pub taken_at : List ℕ → ℕ → TakenCall
taken_at s p = pick (in_words s p) (taken_of s (taken call_grammar s p)) none_taken
