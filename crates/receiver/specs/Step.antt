-- One event: refused with its number, or expiry, the event's own drops, then its entries in order. Assumes nothing.
use Rattle.std.specs.Prelude.{List, [], ◌∷◌, Bool, true, false, not, ℕ, length, get_or, set, leb, ltb, eqb}
use Rattle.bits.specs.Field.{both, pick}
use Rattle.csn1.specs.declared.Refusal.{Refusal}
use Rattle.csn1.specs.Format.{no_refusal, ground}
use Rattle.csn1.specs.Told.{padded}
use Rattle.nch.specs.Told.{read_of}
use Rattle.facch.specs.Told.{read_of as readFacch}
use Rattle.pch.specs.Entry.{read_of as readPch}
use Rattle.receiver.specs.declared.Record.{Record}
use Rattle.receiver.specs.declared.Slot.{Slot}
use Rattle.receiver.specs.declared.Receiver.{Receiver}
use Rattle.receiver.specs.declared.Told.{Told}
use Rattle.receiver.specs.declared.Answer.{Answer}
use Rattle.receiver.specs.declared.Rule.{Rule}
use Rattle.receiver.specs.declared.Cell.{Cell}
use Rattle.receiver.specs.declared.Paged.{Paged}
use Rattle.receiver.specs.declared.Move.{Move}
use Rattle.receiver.specs.declared.Move.TheVariants.{Reselection, Handover, Reconfiguration, LeftIdle}
use Rattle.receiver.specs.Channels.{key_count, place_on, Channel, onNch, onFacch, onPch, number_of, hasNln, has_pages, drops, forgets, forgets_count}
use Rattle.receiver.specs.Count.{no_count, no_bit, News, no_news, bits, counting, counting_over, cell_with, follow_of, count_beside}
use Rattle.receiver.specs.declared.Met.{Met}
use Rattle.receiver.specs.Model.{no_record, no_paged, empty_slot, no_nln, last_key, late, key_of, keys_of, index_of, rule_for, swept_slots, expired_of, dropped_of, meet_of, remade}
use Rattle.receiver.specs.Entries.{nch_entries, facch_entries, paged_of, pch_entries}

-- ## The entries of a message

-- an answer has a place for each of so many
abbrev pub most_entries : ℕ
most_entries = 9

-- ## What they meet: in order, against the places as the earlier ones left them

abbrev pub place_of : List ℕ → ℕ → Record → ℕ
place_of keys ch e = place_on (index_of keys (key_of e.call)) ch

abbrev pub ours : List ℕ → Record → Bool
ours keys e = ltb (index_of keys (key_of e.call)) key_count

abbrev pub met_at : List ℕ → ℕ → ℕ → List Slot → Record → Met
met_at keys ch now slots e = meet_of ch now (get_or slots (place_of keys ch e) empty_slot) e

unfoldable pub slots_after : List ℕ → ℕ → ℕ → List Slot → Record → List Slot
slots_after keys ch now slots e = pick (ours keys e) (set slots (place_of keys ch e) (met_at keys ch now slots e).held) slots

-- what a number told and a record say under a key; whether the call can be followed goes by the set of group keys
abbrev pub told_as : ℕ → Cell → ℕ → ℕ → Record → Told
told_as group cell key number e =
    record {
      key = key;
      number = number;
      «record» = e;
      follow = follow_of group cell number e.call.cipher;
      kept = count_beside (follow_of group cell number e.call.cipher) cell;
    }

-- a number alone
abbrev pub told_only : ℕ → ℕ → Told
told_only key number = record { key = key; number = number; «record» = no_record; follow = 0; kept = 0 }

-- the set of the subscription at an index
abbrev pub set_at : List ℕ → ℕ → ℕ
set_at groups i = get_or groups i 0

-- 0 where the key is not subscribed
unfoldable pub told_of : List ℕ → List ℕ → Cell → ℕ → ℕ → List Slot → Record → Told
told_of keys groups cell ch now slots e =
    pick (ours keys e)
    (told_as (set_at groups (index_of keys (key_of e.call))) cell (key_of e.call) (met_at keys ch now slots e).number (met_at keys ch now slots e).told)
    (told_only (key_of e.call) 0)

unfoldable pub all_after : List ℕ → ℕ → ℕ → List Slot → List Record → List Slot
all_after keys ch now slots [] = slots
all_after keys ch now slots (e ∷ es) = all_after keys ch now (slots_after keys ch now slots e) es

unfoldable pub all_told : List ℕ → List ℕ → Cell → ℕ → ℕ → List Slot → List Record → List Told
all_told keys groups cell ch now slots [] = []
all_told keys groups cell ch now slots (e ∷ es) =
    told_of keys groups cell ch now slots e ∷ all_told keys groups cell ch now (slots_after keys ch now slots e) es

abbrev pub no_told : Told
no_told = told_only 0 0

-- ## Events

pub data Happening : Type 0 where
  -- the octets of a message
  heardNch heardFacch : List ℕ → Happening
  -- an entry of the PCH, as numbers
  heard_pch : List ℕ → Happening
  -- the call of a key is joined
  joins : ℕ → Happening
  moves : Move → Happening
  -- bit 22 of COUNT has a value
  bit_is : ℕ → Happening
  passes : Happening

pub record Event : Type 0 where
  pub tick : ℕ
  pub happening : Happening

abbrev pub nch : ℕ → List ℕ → Event
nch t s = record { tick = t; happening = heardNch s }

abbrev pub facch : ℕ → List ℕ → Event
facch t s = record { tick = t; happening = heardFacch s }

abbrev pub pch : ℕ → List ℕ → Event
pch t ns = record { tick = t; happening = heard_pch ns }

abbrev pub joined : ℕ → ℕ → Event
joined t k = record { tick = t; happening = joins k }

abbrev pub moved : ℕ → Move → Event
moved t m = record { tick = t; happening = moves m }

abbrev pub reselected : ℕ → Event
reselected t = moved t Reselection

abbrev pub handed_over : ℕ → Event
handed_over t = moved t Handover

abbrev pub reconfigured : ℕ → Event
reconfigured t = moved t Reconfiguration

abbrev pub left_idle : ℕ → Event
left_idle t = moved t LeftIdle

abbrev pub bit22 : ℕ → ℕ → Event
bit22 t b = record { tick = t; happening = bit_is b }

abbrev pub tick : ℕ → Event
tick t = record { tick = t; happening = passes }

-- ## What an event is refused for

-- the clock aside
abbrev pub grounds_of : Happening → Refusal
grounds_of (heardNch s) = (read_of s).refusal
grounds_of (heardFacch s) = (readFacch s).refusal
grounds_of (heard_pch ns) = (readPch ns).refusal
grounds_of (joins k) = pick (leb k last_key) no_refusal (ground 4)
grounds_of (moves m) = no_refusal
grounds_of (bit_is b) = pick (leb b 1) no_refusal (ground 12)
grounds_of passes = no_refusal

-- 9 goes before the rest
unfoldable pub refusal_of : Receiver → Event → Refusal
refusal_of r e = pick (late e.tick r.tick) (ground 9) (grounds_of e.happening)

-- ## What is in an event: what may discard halves, what it tells of the cell's count, then entries on a channel, and who is paged

pub data Cause : Type 0 where
  nothing : Cause
  joining : ℕ → Cause
  -- the key of an entry on the PCH
  paged : ℕ → Cause
  moving : Move → Cause
  -- a message's NLN
  numbered : ℕ → Cause

pub record Content : Type 0 where
  pub cause : Cause
  pub news : News
  pub channel : Channel
  pub entries : List Record
  pub paged : Paged

-- b: there is an NLN
abbrev pub numbering : Bool → ℕ → Cause
numbering b n = pick b (numbered n) nothing

-- an event without entries
abbrev pub plainly : Cause → News → Content
plainly x w = record { cause = x; news = w; channel = onNch; entries = []; paged = no_paged }

abbrev pub content_of : Happening → Content
content_of (heardNch s) =
    record {
      cause = numbering (read_of s).«record».hasNln (read_of s).«record».nln;
      news = counting (read_of s).«record».release6.hasCount (read_of s).«record».release6.cellcount;
      channel = onNch;
      entries = nch_entries (read_of s).«record»;
      paged = no_paged;
    }
content_of (heardFacch s) =
    record {
      cause = nothing;
      news = counting_over (readFacch s).«record».release6.hasCount (readFacch s).«record».release6.b22 (readFacch s).«record».release6.cellcount;
      channel = onFacch;
      entries = facch_entries (readFacch s).«record»;
      paged = paged_of (readFacch s).«record»;
    }
content_of (heard_pch ns) =
    record {
      cause = paged (key_of (readPch ns).«record».call);
      news = counting (readPch ns).«record».hasCount (readPch ns).«record».cellcount;
      channel = onPch;
      entries = pch_entries (readPch ns).«record»;
      paged = no_paged;
    }
content_of (joins k) = plainly (joining k) no_news
content_of (moves m) = plainly (moving m) no_news
content_of (bit_is b) = plainly nothing (bits b)
content_of passes = plainly nothing no_news

-- ## What is known of the cell

-- another NLN than the last one seen
abbrev pub changes : Cell → ℕ → Bool
changes l n = both (not (eqb l.nln no_nln)) (not (eqb l.nln n))

-- what is forgotten, and the NLN
abbrev pub cell_by : Cell → Cause → Cell
cell_by l nothing = l
cell_by l (joining k) = l
cell_by l (paged k) = l
cell_by l (moving m) =
    record { nln = pick (forgets m) no_nln l.nln; count = pick (forgets_count m) no_count l.count; bit = pick (forgets_count m) no_bit l.bit }
cell_by l (numbered n) = record { nln = n; count = l.count; bit = l.bit }

abbrev pub cell_after : Cell → Cause → News → Cell
cell_after l x w = cell_with (cell_by l x) w

-- ## What is dropped

-- the channels whose halves go
abbrev pub taking : Cell → Cause → Channel → Bool
taking l nothing c = false
taking l (joining k) c = true
taking l (paged k) c = has_pages c
taking l (moving m) c = drops c m
taking l (numbered n) c = both (hasNln c) (changes l n)

-- the index of the key whose halves stay
abbrev pub sparing : List ℕ → Cause → ℕ
sparing keys nothing = key_count
sparing keys (joining k) = index_of keys k
sparing keys (paged k) = index_of keys k
sparing keys (moving m) = key_count
sparing keys (numbered n) = key_count

abbrev pub rule_by : Receiver → Cause → Rule
rule_by r x = rule_for (taking r.cell x) (sparing (keys_of r) x)

abbrev pub rule_of : Receiver → Event → Rule
rule_of r e = rule_by r (content_of e.happening).cause

-- ## The step

abbrev pub refused_with : Receiver → Refusal → Answer
refused_with r w = record { refusal = w; expired = 0; dropped = 0; count = 0; entries = padded no_told most_entries []; paged = no_paged; receiver = r }

-- the entries are told with what is known of the cell then: the message's own count is taken before
abbrev pub accepted_with : Receiver → ℕ → Rule → Cell → ℕ → List Record → Paged → Answer
accepted_with r now rule cell ch es p =
    record {
      refusal = no_refusal;
      expired = expired_of r now r.slots;
      dropped = dropped_of r now rule;
      count = length es;
      entries = padded no_told most_entries (all_told (keys_of r) r.sets cell ch now (swept_slots r now rule) es);
      paged = p;
      receiver = remade r (all_after (keys_of r) ch now (swept_slots r now rule) es) now cell;
    }

abbrev pub accepted_as : Receiver → ℕ → Content → Answer
accepted_as r now x = accepted_with r now (rule_by r x.cause) (cell_after r.cell x.cause x.news) (number_of x.channel) x.entries x.paged

unfoldable pub step_of : Receiver → Event → Answer
step_of r e = pick (eqb (refusal_of r e).number 0) (accepted_as r e.tick (content_of e.happening)) (refused_with r (refusal_of r e))
