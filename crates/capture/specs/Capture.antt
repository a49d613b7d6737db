-- A capture: a run of fields, each its tag, its length and its contents (document 02, §5). Assumes nothing.
use Rattle.std.specs.Prelude.{ℕ, zero, suc, ◌+◌, ◌*◌, ◌/◌, ◌%◌, Bool, List, [], ◌∷◌, length, take, drop, nat_le, slice_index}
use Rattle.bits.specs.Field.{both, pick}

-- ## A field

pub record Field : Type 0 where
  pub tag : ℕ
  pub contents : List ℕ

-- the tag has one octet, the length two
abbrev pub head_length : ℕ
head_length = 3

-- the number in w octets from a place on, the top octet first
unfoldable pub be_at : ℕ → List ℕ → ℕ → ℕ
be_at zero l at = 0
be_at (suc w) l at = be_at w l at * 256 + slice_index l (at + w)

-- the length that stands in the head
abbrev pub length_in : List ℕ → ℕ
length_in s = slice_index s 1 * 256 + slice_index s 2

unfoldable pub field_octets : Field → List ℕ
field_octets f = f.tag ∷ length f.contents / 256 ∷ length f.contents % 256 ∷ f.contents

-- ## Its parts: whole fields, and at the end perhaps one that is torn, of which the tag is always there

pub data Part : Type 0 where
  whole : Field → Part
  torn : ℕ → Part

-- a whole field stands at the front
abbrev pub is_whole : List ℕ → Bool
is_whole s = both (nat_le head_length (length s)) (nat_le (head_length + length_in s) (length s))

abbrev pub first_field : List ℕ → Field
first_field s = record { tag = slice_index s 0; contents = take (length_in s) (drop head_length s) }

abbrev pub behind_first : List ℕ → List ℕ
behind_first s = drop (head_length + length_in s) s

-- at most so many as the bound says: one that is no less than the number of octets is no bound
unfoldable pub parts_from : ℕ → List ℕ → List Part
parts_from zero s = []
parts_from (suc bound) [] = []
parts_from (suc bound) (t ∷ s) = pick (is_whole (t ∷ s)) (whole (first_field (t ∷ s)) ∷ parts_from bound (behind_first (t ∷ s))) (torn t ∷ [])

unfoldable pub parts_of : List ℕ → List Part
parts_of s = parts_from (length s) s
