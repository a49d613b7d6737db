-- An entry of the PCH as the paging head lends it, an array of numbers (document 02, §8): what refuses it, and what it says of its call. Assumes nothing.
use Rattle.std.specs.Prelude.{List, Bool, true, false, not, ℕ, ◌/◌, ◌%◌, ◌^◌, length, get_or, leb, ltb, eqb}
use Rattle.bits.specs.Field.{both, pick}
use Rattle.csn1.specs.declared.Refusal.{Refusal}
use Rattle.csn1.specs.Format.{no_refusal, ground}
use Rattle.csn1.specs.Told.{is_one, as_bit}
use Rattle.call.specs.declared.Call.{Call}
use Rattle.call.specs.declared.Description.{Description}
use Rattle.call.specs.Call.{one_to_eight, hopping_bit, no_call, ciphered}
use Rattle.call.specs.Write.{call_in_range}
use Rattle.pch.specs.declared.Entry.{Entry}
use Rattle.pch.specs.declared.Reading.{Reading}

-- ## What stands where

abbrev pub key_at : ℕ
key_at = 0

abbrev pub ciphered_at : ℕ
ciphered_at = 1

-- the full reference's flag, and its 36 bits
abbrev pub full_at : ℕ
full_at = 2

abbrev pub reference_at : ℕ
reference_at = 3

abbrev pub described_at : ℕ
described_at = 4

abbrev pub channel_at : ℕ
channel_at = 5

abbrev pub hopping_at : ℕ
hopping_at = 6

abbrev pub shortlist_at : ℕ
shortlist_at = 7

abbrev pub length_at : ℕ
length_at = 8

abbrev pub frequencies_at : ℕ
frequencies_at = 9

-- VSTK_RAND's flag, and its 36 bits
abbrev pub given_at : ℕ
given_at = 10

abbrev pub rand_at : ℕ
rand_at = 11

-- CELL_GLOBAL_COUNT's flag, and its two bits
abbrev pub counted_at : ℕ
counted_at = 12

abbrev pub cellcount_at : ℕ
cellcount_at = 13

abbrev pub entry_length : ℕ
entry_length = 14

-- ## What it says

-- what stands behind a flag that is 0 is not looked at; a flag above 1 counts as set, and is refused at the end
module _ (ns : List ℕ) where
  abbrev pub number_at : ℕ → ℕ
  number_at i = get_or ns i 0

  abbrev pub is_set : ℕ → Bool
  is_set i = not (eqb (get_or ns i 0) 0)

  abbrev pub hops : Bool
  hops = both (is_set described_at) (is_set hopping_at)

  abbrev pub lists_short : Bool
  lists_short = both hops (is_set shortlist_at)

  abbrev pub allocates : Bool
  allocates = both hops (not (is_set shortlist_at))

  abbrev pub description_in : Description
  description_in =
      record {
        channel = pick (is_set described_at) (number_at channel_at) 0;
        hopping = hops;
        shortlist = lists_short;
        length = pick allocates (number_at length_at) 0;
        frequencies = pick hops (number_at frequencies_at) 0;
      }

  -- <Group Call Reference : bit(36)>: reference, service flag, acknowledgement flag, priority, cipher key number (24.008)
  abbrev pub full_call : Call
  full_call =
      record {
        reference = number_at reference_at / 2 ^ 9;
        vgcs = is_one (number_at reference_at / 2 ^ 8 % 2);
        acknowledged = is_one (number_at reference_at / 2 ^ 7 % 2);
        priority = number_at reference_at / 2 ^ 4 % 8;
        cipher = number_at reference_at % 16;
        hasDescription = is_set described_at;
        description = description_in;
      }

  -- without it there are the key's reference and service flag alone
  abbrev pub reduced_call : Call
  reduced_call =
      record {
        reference = number_at key_at / 2;
        vgcs = is_one (number_at key_at % 2);
        acknowledged = false;
        priority = 0;
        cipher = 0;
        hasDescription = is_set described_at;
        description = description_in;
      }

  unfoldable pub call_in : Call
  call_in = pick (is_set full_at) full_call reduced_call

  abbrev pub entry_in : Entry
  entry_in =
      record {
        ciphered = is_set ciphered_at;
        full = is_set full_at;
        call = call_in;
        hasRandom = is_set given_at;
        rand = pick (is_set given_at) (number_at rand_at) 0;
        hasCount = is_set counted_at;
        cellcount = pick (is_set counted_at) (number_at cellcount_at) 0;
      }

-- ## What refuses it

-- the key of reference 99,999,999 and service flag 1
abbrev pub last_key : ℕ
last_key = 199999999

module _ (ns : List ℕ) where
  -- 4
  abbrev pub key_is_low : Bool
  key_is_low = leb (number_at ns key_at) last_key

  -- 3: a mobile allocation's length not 1 to 8
  unfoldable pub length_right : Bool
  length_right = pick (allocates ns) (one_to_eight (number_at ns length_at)) true

  -- 5: the hopping bit unlike the hopping flag
  unfoldable pub hops_right : Bool
  hops_right = pick (is_set ns described_at) (eqb (hopping_bit (number_at ns channel_at)) (as_bit (is_set ns hopping_at))) true

  -- 12, from here on: a flag that is looked at is 0 or 1
  abbrev pub is_flag : ℕ → Bool
  is_flag i = leb (number_at ns i) 1

  unfoldable pub flags_right : Bool
  flags_right =
      both (is_flag ciphered_at)
      (both (is_flag full_at)
      (both (is_flag described_at)
      (both (is_flag given_at)
      (both (is_flag counted_at) (both (pick (is_set ns described_at) (is_flag hopping_at) true) (pick (hops ns) (is_flag shortlist_at) true))))))

  -- a full reference is of the key and of the ciphered mark, and a description has one
  unfoldable pub reference_right : Bool
  reference_right =
      pick (is_set ns full_at)
      (both (eqb (number_at ns reference_at / 2 ^ 8) (number_at ns key_at)) (eqb (as_bit (ciphered (full_call ns))) (as_bit (is_set ns ciphered_at))))
      (not (is_set ns described_at))

  -- VSTK_RAND has 36 bits, CELL_GLOBAL_COUNT two
  unfoldable pub numbers_right : Bool
  numbers_right = both (ltb (entry_in ns).rand (2 ^ 36)) (ltb (entry_in ns).cellcount 4)

  -- the call's own fields are within their bits as a writer of calls asks it
  unfoldable pub in_range : Bool
  in_range = both (flags_right) (both (call_in_range (call_in ns)) (both reference_right numbers_right))

  -- ## The reading

  -- an array of another length is 13; then 4, 3, 5, 12
  unfoldable pub ground_in : Refusal
  ground_in =
      pick (eqb (length ns) entry_length)
      (pick key_is_low (pick length_right (pick hops_right (pick in_range no_refusal (ground 12)) (ground 5)) (ground 3)) (ground 4)) (ground 13)

abbrev pub no_entry : Entry
no_entry = record { ciphered = false; full = false; call = no_call; hasRandom = false; rand = 0; hasCount = false; cellcount = 0 }

-- a refusal is its number alone
unfoldable pub read_of : List ℕ → Reading
read_of ns = record { refusal = ground_in ns; «record» = pick (eqb (ground_in ns).number 0) (entry_in ns) no_entry }
