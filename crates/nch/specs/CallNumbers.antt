-- The eleven numbers of a call. Assumes nothing.
use Rattle.std.specs.Prelude.{List, [], ◌∷◌, ℕ, ◌+◌, ◌%◌, get_or}
use Rattle.csn1.specs.Told.{is_one, as_bit}
use Rattle.arrays.specs.Limits.{flag, octet, word, long}
use Rattle.call.specs.declared.Call.{Call}
use Rattle.call.specs.declared.Description.{Description}

-- channel description, hopping, short list, octets of the mobile allocation, frequencies
abbrev pub description_numbers : Description → List ℕ
description_numbers d = d.channel ∷ as_bit d.hopping ∷ as_bit d.shortlist ∷ d.length ∷ d.frequencies ∷ []

-- reference, service flag, acknowledgement flag, priority, cipher key number, described, then the description
unfoldable pub call_numbers : Call → List ℕ
call_numbers c =
    c.reference ∷ as_bit c.vgcs ∷ as_bit c.acknowledged ∷ c.priority ∷ c.cipher ∷ as_bit c.hasDescription ∷ description_numbers c.description

abbrev pub call_most : List ℕ
call_most = word ∷ flag ∷ flag ∷ octet ∷ octet ∷ flag ∷ word ∷ flag ∷ flag ∷ octet ∷ long ∷ []

-- ## A call from its numbers

-- what fields of 8 and of 32 bits take of a number
pub record Fields : Type 0 where
  pub octet : ℕ → ℕ
  pub word : ℕ → ℕ

-- all of it, and of one that is too large what is left in the field
abbrev pub whole : Fields
whole = record { octet = λ n. n; word = λ n. n }

abbrev pub cut : Fields
cut = record { octet = λ n. n % 256; word = λ n. n % 4294967296 }

-- the call whose numbers stand from a place on
unfoldable pub description_by : Fields → List ℕ → ℕ → Description
description_by f ns at =
    record {
      channel = f.word (get_or ns at 0);
      hopping = is_one (get_or ns (at + 1) 0);
      shortlist = is_one (get_or ns (at + 2) 0);
      length = f.octet (get_or ns (at + 3) 0);
      frequencies = get_or ns (at + 4) 0;
    }

unfoldable pub call_by : Fields → List ℕ → ℕ → Call
call_by f ns at =
    record {
      reference = f.word (get_or ns at 0);
      vgcs = is_one (get_or ns (at + 1) 0);
      acknowledged = is_one (get_or ns (at + 2) 0);
      priority = f.octet (get_or ns (at + 3) 0);
      cipher = f.octet (get_or ns (at + 4) 0);
      hasDescription = is_one (get_or ns (at + 5) 0);
      description = description_by f ns (at + 6);
    }

abbrev pub call_from_of : List ℕ → ℕ → Call
call_from_of ns at = call_by whole ns at
