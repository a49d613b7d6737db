-- The cell's count: how it is taken and raised, and what a complete ciphered call is told of it (document 02, §2). Assumes nothing.
use Rattle.std.specs.Prelude.{Bool, true, List, [], ◌∷◌, ℕ, ◌+◌, ◌/◌, ◌%◌, ◌^◌, leb, ltb, eqb, length}
use Rattle.bits.specs.Field.{both, pick}
use Rattle.receiver.specs.declared.Cell.{Cell}

-- CELL_GLOBAL_COUNT has two bits: this, and any number above, says that none is kept
abbrev pub no_count : ℕ
no_count = 4

-- the same of bit 22 of COUNT
abbrev pub no_bit : ℕ
no_bit = 2

-- ## What an event tells of the cell, beside what may discard halves

pub data News : Type 0 where
  no_news : News
  -- CELL_GLOBAL_COUNT of an NCH or PCH message
  counts : ℕ → News
  -- B22_COUNT and CELL_GLOBAL_COUNT of a FACCH message
  counts_over : Bool → ℕ → News
  -- the present value of bit 22
  bits : ℕ → News

-- there: the message has a count
abbrev pub counting : Bool → ℕ → News
counting there n = pick there (counts n) no_news

abbrev pub counting_over : Bool → Bool → ℕ → News
counting_over there b22 n = pick there (counts_over b22 n) no_news

-- ## The count that is kept

-- by one, modulo 4
abbrev pub raised : ℕ → ℕ
raised n = (n + 1) % 4

-- what is known of a cell, with another count and bit
abbrev pub counted : Cell → ℕ → ℕ → Cell
counted l n b = record { nln = l.nln; count = n; bit = b }

-- a FACCH count is not taken while no bit is known, and is first raised where its B22 was 1 while the bit is 0
abbrev pub taken_over : Cell → Bool → ℕ → ℕ
taken_over l b22 n = pick (ltb l.bit no_bit) (pick (both b22 (eqb l.bit 0)) (raised n) n) l.count

-- a change from 1 to 0 raises a count that is kept
abbrev pub turned : Cell → ℕ → ℕ
turned l b = pick (both (eqb l.bit 1) (both (eqb b 0) (ltb l.count no_count))) (raised l.count) l.count

abbrev pub cell_with : Cell → News → Cell
cell_with l no_news = l
cell_with l (counts n) = counted l n l.bit
cell_with l (counts_over b22 n) = counted l (taken_over l b22 n) l.bit
cell_with l (bits b) = counted l (turned l b) b

-- ## The group keys of a subscription: bit n of its set for key number n, 1 to 15

abbrev pub last_group_key : ℕ
last_group_key = 15

abbrev pub holds : ℕ → ℕ → Bool
holds group n = both (leb 1 n) (both (leb n last_group_key) (eqb (group / 2 ^ n % 2) 1))

-- no number 0, and none above 15
abbrev pub is_set : ℕ → Bool
is_set group = both (ltb group (2 ^ (last_group_key + 1))) (eqb (group % 2) 0)

unfoldable pub all_sets : List ℕ → Bool
all_sets [] = true
all_sets (m ∷ ms) = both (is_set m) (all_sets ms)

-- one set for each key
abbrev pub sets_right : List ℕ → List ℕ → Bool
sets_right keys groups = both (eqb (length groups) (length keys)) (all_sets groups)

-- ## Whether a call can be followed

-- beside 2 and 3: 1 no key, 2 no count, 3 follow
unfoldable pub follow_of : ℕ → Cell → ℕ → ℕ → ℕ
follow_of group cell number cipher = pick (both (leb 2 number) (leb number 3)) (pick (holds group cipher) (pick (ltb cell.count no_count) 3 2) 1) 0

-- the kept count beside 3
abbrev pub count_beside : ℕ → Cell → ℕ
count_beside follow cell = pick (eqb follow 3) cell.count 0
