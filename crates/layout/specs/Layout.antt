-- The lent state's octets (docs/STATE.md): what any octets are read as, and what is written where. Assumes nothing.
use Rattle.std.specs.Prelude.{List, [], ◌∷◌, ◌++◌, Bool, ℕ, ◌+◌, ◌*◌, ◌/◌, length, set, replicate, leb, ltb, eqb}
use Rattle.bits.specs.Field.{both, pick}
use Rattle.csn1.specs.Told.{as_bit}
use Rattle.arrays.specs.Runs.{stored}
use Rattle.receiver.specs.declared.Record.{Record}
use Rattle.receiver.specs.declared.Slot.{Slot}
use Rattle.receiver.specs.declared.Receiver.{Receiver}
use Rattle.receiver.specs.declared.Cell.{Cell}
use Rattle.receiver.specs.declared.Setup.{Setup}
use Rattle.receiver.specs.declared.Told.{Told}
use Rattle.receiver.specs.declared.Paged.{Paged}
use Rattle.receiver.specs.Channels.{channels, key_count, places}
use Rattle.receiver.specs.Model.{no_record, empty_slot, no_cell, keys_of, key_places, set_places}
use Rattle.receiver.specs.Step.{no_told, most_entries}
use Rattle.layout.specs.Octets.{le_at, octet_at, flag_at, low_octets, tabulate}

-- ## What stands where: the tick, the timers, what is known of the cell, the number of keys, the mark of a setup, the keys, their sets of group keys, three arrays over the places, the answer

abbrev pub tick_from : ℕ
tick_from = 0

-- one of four octets for each channel, in the order of their numbers
abbrev pub timers_from : ℕ
timers_from = tick_from + 4

abbrev pub cell_from : ℕ
cell_from = timers_from + 4 * channels

-- what is known of the cell has three octets
abbrev pub count_from : ℕ
count_from = cell_from + 3

abbrev pub mark_from : ℕ
mark_from = count_from + 1

-- cell, count and mark have eight octets, so that the kinds begin at a multiple of eight
abbrev pub keys_from : ℕ
keys_from = mark_from + 4

abbrev pub sets_from : ℕ
sets_from = keys_from + 4 * key_count

-- one octet for each place, and some that no place uses, so that they can be tested eight at a time
abbrev pub kinds_from : ℕ
kinds_from = sets_from + 4 * key_count

abbrev pub sinces_from : ℕ
sinces_from = kinds_from + (places + 7) / 8 * 8

abbrev pub records_from : ℕ
records_from = sinces_from + 4 * places

abbrev pub record_size : ℕ
record_size = 56

-- expiries, drops and the number of entries, four octets each, and four that are not used; then who is paged; then the entries
abbrev pub answer_from : ℕ
answer_from = records_from + record_size * places

abbrev pub paged_from : ℕ
paged_from = answer_from + 16

abbrev pub paged_size : ℕ
paged_size = 16

abbrev pub tolds_from : ℕ
tolds_from = paged_from + paged_size

-- a key of eight octets, the number told, whether it can be followed, the kept count, five that are not used, a record
abbrev pub told_length : ℕ
told_length = 16 + record_size

abbrev pub state_length : ℕ
state_length = tolds_from + told_length * most_entries

-- other lengths are no state
abbrev pub is_state : List ℕ → Bool
is_state l = eqb (length l) state_length

-- ## The mark of a setup

-- a layout of other octets has another number
abbrev pub layout_number : ℕ
layout_number = 4

-- the letters AHK, then the layout's number
abbrev pub mark_octets : List ℕ
mark_octets = 65 ∷ 72 ∷ 75 ∷ layout_number ∷ []

-- the mark is there; no event and no decoding looks at it
unfoldable pub is_marked : List ℕ → Bool
is_marked l = both (is_state l) (eqb (le_at 4 l mark_from) (le_at 4 mark_octets 0))

-- ## A record

unfoldable pub record_at : List ℕ → ℕ → Record
record_at l at =
    record {
      full = flag_at l (at + 24);
      call =
          record {
            reference = le_at 4 l at;
            vgcs = flag_at l (at + 25);
            acknowledged = flag_at l (at + 26);
            priority = octet_at l (at + 44);
            cipher = octet_at l (at + 45);
            hasDescription = flag_at l (at + 27);
            description =
                record {
                  channel = le_at 4 l (at + 4);
                  hopping = flag_at l (at + 28);
                  shortlist = flag_at l (at + 29);
                  length = octet_at l (at + 46);
                  frequencies = le_at 8 l (at + 8);
                };
          };
      hasSegment = flag_at l (at + 30);
      segment = flag_at l (at + 31);
      hasRandom = flag_at l (at + 32);
      rand = le_at 8 l (at + 16);
      emergency = flag_at l (at + 33);
      common =
          record {
            hasCount = flag_at l (at + 34);
            cellcount = octet_at l (at + 47);
            b22 = flag_at l (at + 35);
            hasUplink = flag_at l (at + 36);
            uplink = flag_at l (at + 37);
            hasAmr = flag_at l (at + 38);
            hasFullrate = flag_at l (at + 39);
            fullrate = octet_at l (at + 48);
            hasHalfrate = flag_at l (at + 40);
            halfrate = octet_at l (at + 49);
            hasSms = flag_at l (at + 41);
            confidential = flag_at l (at + 42);
            private = flag_at l (at + 43);
          };
    }

-- the flags of an entry, and those of its message
abbrev pub entry_flags : Record → List ℕ
entry_flags r =
    as_bit r.full ∷ as_bit r.call.vgcs ∷ as_bit r.call.acknowledged ∷ as_bit r.call.hasDescription ∷ as_bit r.call.description.hopping
    ∷ as_bit r.call.description.shortlist ∷ as_bit r.hasSegment ∷ as_bit r.segment ∷ as_bit r.hasRandom ∷ as_bit r.emergency ∷ []

abbrev pub message_flags : Record → List ℕ
message_flags r =
    as_bit r.common.hasCount ∷ as_bit r.common.b22 ∷ as_bit r.common.hasUplink ∷ as_bit r.common.uplink ∷ as_bit r.common.hasAmr
    ∷ as_bit r.common.hasFullrate ∷ as_bit r.common.hasHalfrate ∷ as_bit r.common.hasSms ∷ as_bit r.common.confidential ∷ as_bit r.common.private ∷ []

abbrev pub small_numbers : Record → List ℕ
small_numbers r =
    r.call.priority ∷ r.call.cipher ∷ r.call.description.length ∷ r.common.cellcount ∷ r.common.fullrate ∷ r.common.halfrate ∷ []

abbrev pub wide_octets : Record → List ℕ
wide_octets r =
    low_octets 4 r.call.reference ++ (low_octets 4 r.call.description.channel ++ (low_octets 8 r.call.description.frequencies ++ low_octets 8 r.rand))

-- the last six octets are not used
unfoldable pub record_octets : Record → List ℕ
record_octets r = wide_octets r ++ (entry_flags r ++ (message_flags r ++ (small_numbers r ++ replicate 6 0)))

-- ## Places

abbrev pub is_place : List ℕ → ℕ → Bool
is_place l i = both (is_state l) (ltb i places)

abbrev pub kind_place : ℕ → ℕ
kind_place i = kinds_from + i

abbrev pub since_place : ℕ → ℕ
since_place i = sinces_from + 4 * i

abbrev pub record_place : ℕ → ℕ
record_place i = records_from + record_size * i

-- a place whose kind is 0 is empty, whatever else stands there
unfoldable pub slot_no : List ℕ → ℕ → Slot
slot_no l i =
    pick (eqb (octet_at l (kind_place i)) 0) empty_slot
    (record { half = octet_at l (kind_place i); since = le_at 4 l (since_place i); «record» = record_at l (record_place i) })

abbrev pub key_no : List ℕ → ℕ → ℕ
key_no l i = le_at 4 l (keys_from + 4 * i)

abbrev pub set_no : List ℕ → ℕ → ℕ
set_no l i = le_at 4 l (sets_from + 4 * i)

-- what is known of the cell: one octet for each field, read as it stands
abbrev pub cell_at : List ℕ → Cell
cell_at l = record { nln = octet_at l cell_from; count = octet_at l (cell_from + 1); bit = octet_at l (cell_from + 2) }

abbrev pub cell_octets : Cell → List ℕ
cell_octets c = c.nln ∷ c.count ∷ c.bit ∷ []

-- the receiver that any octets are read as
unfoldable pub decode_of : List ℕ → Receiver
decode_of l =
    record {
      slots = tabulate (slot_no l) 0 places;
      keys = tabulate (key_no l) 0 key_count;
      sets = tabulate (set_no l) 0 key_count;
      keycount = octet_at l count_from;
      tick = le_at 4 l tick_from;
      t3206 = le_at 4 l timers_from;
      t3208 = le_at 4 l (timers_from + 4);
      t3210 = le_at 4 l (timers_from + 8);
      cell = cell_at l;
    }

-- the keys that are there: a number of keys above `key_count` counts as that many
abbrev pub keys_in : List ℕ → List ℕ
keys_in l = keys_of (decode_of l)

abbrev pub sets_in : List ℕ → List ℕ
sets_in l = (decode_of l).sets

unfoldable pub put_slot : List ℕ → ℕ → Slot → List ℕ
put_slot l i s =
    stored (stored (set l (kind_place i) s.half) (since_place i) (low_octets 4 s.since)) (record_place i) (record_octets s.«record»)

-- the same of a record's octets
unfoldable pub laid_at : List ℕ → ℕ → ℕ → ℕ → List ℕ → List ℕ
laid_at l i half tick o = stored (stored (set l (kind_place i) half) (since_place i) (low_octets 4 tick)) (record_place i) o

-- ## The answer

abbrev pub is_entry : List ℕ → ℕ → Bool
is_entry l j = both (is_state l) (ltb j most_entries)

abbrev pub told_place : ℕ → ℕ
told_place j = tolds_from + told_length * j

abbrev pub carries : ℕ → Bool
carries number = both (leb 1 number) (leb number 3)

-- an entry with a record, from a place on
unfoldable pub told_at : List ℕ → ℕ → Told
told_at l at =
    record {
      key = le_at 8 l at;
      number = octet_at l (at + 8);
      «record» = record_at l (at + 16);
      follow = octet_at l (at + 9);
      kept = octet_at l (at + 10);
    }

-- only 1 to 3 carry a record
unfoldable pub told_no : List ℕ → ℕ → Told
told_no l j =
    record {
      key = le_at 8 l (told_place j);
      number = octet_at l (told_place j + 8);
      «record» = pick (carries (octet_at l (told_place j + 8))) (record_at l (told_place j + 16)) no_record;
      follow = octet_at l (told_place j + 9);
      kept = octet_at l (told_place j + 10);
    }

-- who is paged: eight octets, then the identity octets behind the first as one number
unfoldable pub paged_at : List ℕ → Paged
paged_at l =
    record {
      there = flag_at l paged_from;
      page =
          record {
            identityLength = octet_at l (paged_from + 1);
            identityFirst = octet_at l (paged_from + 2);
            identityRest = le_at 8 l (paged_from + 8);
            channelFirst = octet_at l (paged_from + 3);
            hasPriority = flag_at l (paged_from + 4);
            priority = octet_at l (paged_from + 5);
          };
      hasCause = flag_at l (paged_from + 6);
      cause = flag_at l (paged_from + 7);
    }

unfoldable pub paged_octets : Paged → List ℕ
paged_octets p =
    as_bit p.there ∷ p.page.identityLength ∷ p.page.identityFirst ∷ p.page.channelFirst ∷ as_bit p.page.hasPriority ∷ p.page.priority
    ∷ as_bit p.hasCause ∷ as_bit p.cause ∷ low_octets 8 p.page.identityRest

-- the answer to the last accepted event
pub record Last : Type 0 where
  pub expired : ℕ
  pub dropped : ℕ
  pub count : ℕ
  pub entries : List Told
  pub paged : Paged

unfoldable pub last_of : List ℕ → Last
last_of l =
    record {
      expired = le_at 4 l answer_from;
      dropped = le_at 4 l (answer_from + 4);
      count = le_at 4 l (answer_from + 8);
      entries = tabulate (λ j. pick (ltb j (le_at 4 l (answer_from + 8))) (told_no l j) no_told) 0 most_entries;
      paged = paged_at l;
    }

-- an entry that carries no record, and one that does
unfoldable pub put_number : List ℕ → ℕ → Told → List ℕ
put_number l j t = stored (stored l (told_place j) (low_octets 8 t.key)) (told_place j + 8) (t.number ∷ t.follow ∷ t.kept ∷ [])

unfoldable pub put_carried : List ℕ → ℕ → Told → List ℕ
put_carried l j t = stored (put_number l j t) (told_place j + 16) (record_octets t.«record»)

-- the same of a record's octets
unfoldable pub carried_at : List ℕ → ℕ → Told → List ℕ → List ℕ
carried_at l j t o = stored (put_number l j t) (told_place j + 16) o

unfoldable pub put_told : List ℕ → ℕ → Told → List ℕ
put_told l j t = pick (carries t.number) (put_carried l j t) (put_number l j t)

-- the tick, what is known of the cell, and the answer's three numbers
unfoldable pub put_counts : List ℕ → ℕ → Cell → ℕ → ℕ → ℕ → List ℕ
put_counts l tick cell expired dropped count =
    stored (stored (stored l tick_from (low_octets 4 tick)) cell_from (cell_octets cell)) answer_from (low_octets 4 expired ++ (low_octets 4 dropped ++ low_octets 4 count))

-- and who is paged
unfoldable pub put_head : List ℕ → ℕ → Cell → ℕ → ℕ → ℕ → Paged → List ℕ
put_head l tick cell expired dropped count p = stored (put_counts l tick cell expired dropped count) paged_from (paged_octets p)

-- ## Setup: every octet is written

abbrev pub keys_octets : List ℕ → List ℕ
keys_octets [] = []
keys_octets (k ∷ ks) = low_octets 4 k ++ keys_octets ks

unfoldable pub fresh_octets : Setup → List ℕ → List ℕ → List ℕ
fresh_octets s keys groups =
    stored
    (stored
    (stored
    (set
    (stored (stored (replicate state_length 0) tick_from (low_octets 4 s.tick ++ (low_octets 4 s.t3206 ++ (low_octets 4 s.t3208 ++ low_octets 4 s.t3210)))) cell_from (cell_octets no_cell))
    count_from (length keys))
    mark_from mark_octets)
    keys_from (keys_octets (key_places key_count keys)))
    sets_from (keys_octets (set_places key_count groups))
