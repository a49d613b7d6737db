-- What only private functions' contracts speak of; nothing public rests on it. Assumes nothing.
use Rattle.std.specs.Prelude.{◌≡◌, List, Bool, true, ℕ, ◌^◌, ◌≤◌, ◌<◌, ltb}
use Rattle.bits.specs.Field.{both, pick}
use Rattle.csn1.specs.Format.{ground}
use Rattle.pch.specs.declared.Reading.{Reading}
use Rattle.pch.specs.Entry.{key_at, full_at, reference_at, described_at, hopping_at, shortlist_at, number_at, is_set, hops, description_in, entry_in, is_flag, last_key, flags_right, reference_right, numbers_right, no_entry}

module _ (ns : List ℕ) where
  -- the flags that are looked at only where there is a description
  abbrev pub hopping_flags_right : Bool
  hopping_flags_right = both (pick (is_set ns described_at) (is_flag ns hopping_at) true) (pick (hops ns) (is_flag ns shortlist_at) true)

  -- all that refusal 12 asks, but of the call's own fields the channel alone
  abbrev pub sound : Bool
  sound = both (flags_right ns) (both (reference_right ns) (both (numbers_right ns) (ltb (description_in ns).channel (2 ^ 24))))

  -- what is looked at fits the fields of an entry
  pub record Fits : Type 0 where
    pub key : number_at ns key_at ≤ last_key
    pub head : is_set ns full_at ≡ true → number_at ns reference_at < 2 ^ 36
    pub channel : (description_in ns).channel < 2 ^ 24
    pub octets : (description_in ns).length ≤ 8
    pub cellcount : (entry_in ns).cellcount < 4

abbrev pub refused_as : ℕ → Reading
refused_as m = record { refusal = ground m; «record» = no_entry }
