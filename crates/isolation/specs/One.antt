-- The receiver of one call on one channel, and what it sees of the events. It is written apart from the receiver, with tables of its own for what tells the channels apart and for what
-- each event shows, discards and forgets. What both share, and no more: the types Record, Channel (with by_channel, a value for each), Move, Event, Happening, Cause and News; a message as
-- it is read, and its entries (read_of, nch_entries, facch_entries, pch_entries, no_record); an entry's key (key_of), whether it is ciphered (is_ciphered), the comparison of references
-- (agree) and the joined record (joined_of); whether a set of group keys has a key number (holds); and what beside the clock refuses an event (grounds_of). Assumes nothing.
use Rattle.std.specs.Prelude.{List, [], ◌∷◌, ◌++◌, Bool, true, false, not, ℕ, ◌+◌, ◌-◌, ◌%◌, ◌^◌, ltb, eqb}
use Rattle.std.proofs.Math.Option.{Option, none, some}
use Rattle.bits.specs.Field.{both, pick}
use Rattle.csn1.specs.Told.{there}
use Rattle.nch.specs.Told.{read_of}
use Rattle.facch.specs.Told.{read_of as readFacch}
use Rattle.pch.specs.Entry.{read_of as readPch}
use Rattle.receiver.specs.declared.Record.{Record}
use Rattle.receiver.specs.Model.{no_record, key_of, is_ciphered, agree, joined_of}
use Rattle.receiver.specs.declared.Move.{Move}
use Rattle.receiver.specs.declared.Move.TheVariants.{Reselection, Handover, Reconfiguration, LeftIdle}
use Rattle.receiver.specs.Channels.{by_channel, Channel, onNch, onFacch, onPch}
use Rattle.receiver.specs.Count.{News, no_news, counts, counts_over, bits, holds}
use Rattle.receiver.specs.Entries.{nch_entries, facch_entries, pch_entries}
use Rattle.receiver.specs.Step.{Event, Happening, heardNch, heardFacch, heard_pch, joins, moves, bit_is, passes, Cause, nothing, joining, paged, moving, numbered, grounds_of}

-- ## What tells the channels apart: NCH, FACCH, PCH

-- halves are told apart by Segment Id too
abbrev pub has_segments : Channel → Bool
has_segments c = by_channel c true false false

-- a second half may come first
abbrev pub may_lead : Channel → Bool
may_lead c = by_channel c true false true

-- an NLN is shown
abbrev pub shows_nln : Channel → Bool
shows_nln c = by_channel c true false false

-- an entry of the PCH under any key is shown
abbrev pub shows_pages : Channel → Bool
shows_pages c = by_channel c false false true

-- a message on the second is heard on the first
abbrev pub hears : Channel → Channel → Bool
hears onNch d = by_channel d true false false
hears onFacch d = by_channel d false true false
hears onPch d = by_channel d false false true

-- ## What a move of the mobile does: reselection, handover, reconfiguration, leaving idle mode

abbrev pub by_move : Bool → Bool → Bool → Bool → Move → Bool
by_move r h c i Reselection = r
by_move r h c i Handover = h
by_move r h c i Reconfiguration = c
by_move r h c i LeftIdle = i

-- it discards the channel's halves
abbrev pub gone_by : Channel → Move → Bool
gone_by onNch = by_move true false false false
gone_by onFacch = by_move false true true false
gone_by onPch = by_move true false false true

-- it makes the NLN unknown
abbrev pub forgotten_by : Move → Bool
forgotten_by = by_move true false false false

-- it makes the cell's count and bit 22 unknown
abbrev pub count_forgotten_by : Move → Bool
count_forgotten_by = by_move true true false false

-- ## What an entry is (document 01, "What each notified call is told")

pub data Kind : Type 0 where
  clear piece first second bare unusable : Kind

-- ciphered, described, Segment Id if there, VSTK_RAND there, a call and no reduced reference
abbrev pub with_segments : Bool → Bool → Option Bool → Bool → Bool → Kind
with_segments false true s g c = clear
with_segments true true (some false) true c = piece
with_segments true true (some false) false c = first
with_segments true true (some true) g c = unusable
with_segments true true none g c = unusable
with_segments true false (some true) true c = second
with_segments true false (some true) false true = bare
with_segments true false (some true) false false = unusable
with_segments true false (some false) g true = bare
with_segments true false (some false) g false = unusable
with_segments true false none g true = bare
with_segments true false none g false = unusable
with_segments false false s g true = bare
with_segments false false s g false = unusable

-- the same without Segment Id
abbrev pub without_segments : Bool → Bool → Bool → Bool → Kind
without_segments false true g c = clear
without_segments true true true c = piece
without_segments true true false c = first
without_segments true false true c = second
without_segments true false false true = bare
without_segments true false false false = unusable
without_segments false false g true = bare
without_segments false false g false = unusable

unfoldable pub kind_on : Channel → Record → Kind
kind_on c e =
    pick (has_segments c) (with_segments (is_ciphered e) e.call.hasDescription (there e.hasSegment e.segment) e.hasRandom e.full)
    (without_segments (is_ciphered e) e.call.hasDescription e.hasRandom e.full)

-- ## The half that is held

pub data Which : Type 0 where
  theFirst theSecond : Which

-- its age is the sum of the accepted steps since it was stored
pub record Half : Type 0 where
  pub which : Which
  pub age : ℕ
  pub entry : Record

-- what is known of the cell: the last NLN seen, the kept count, the present value of bit 22
pub record Known : Type 0 where
  pub nln : Option ℕ
  pub count : Option ℕ
  pub bit : Option ℕ

pub record One : Type 0 where
  pub held : Option Half
  pub cell : Known

-- ## What it is told

-- an entry, and what is held then
pub record Heard : Type 0 where
  pub number : ℕ
  pub told : Record
  pub held : Option Half

abbrev pub says : ℕ → Option Half → Heard
says n h = record { number = n; told = no_record; held = h }

abbrev pub tells : ℕ → Record → Option Half → Heard
tells n e h = record { number = n; told = e; held = h }

abbrev pub new_half : Which → Record → Option Half
new_half w e = some (record { which = w; age = 0; entry = e })

-- a half that meets the opposite one: joined, and the place is free; or the references disagree, and the newcomer is unusable
abbrev pub met : Bool → Record → Half → Heard
met true e h = tells 3 e none
met false e h = says 7 (some h)

abbrev pub meet_first : Option Half → Record → Heard
meet_first none e = says 4 (new_half theFirst e)
meet_first (some h) e = by_half h.which
  where
    by_half : Which → Heard
    by_half theFirst = says 5 (some h)
    by_half theSecond = met (agree h.entry e) (joined_of e h.entry) h

-- where a second half may not come first, it is told 8
abbrev pub meet_second : Channel → Option Half → Record → Heard
meet_second c none e = pick (may_lead c) (says 4 (new_half theSecond e)) (says 8 none)
meet_second c (some h) e = by_half h.which
  where
    by_half : Which → Heard
    by_half theSecond = says 5 (some h)
    by_half theFirst = met (agree h.entry e) (joined_of h.entry e) h

abbrev pub meet_kind : Channel → Kind → Option Half → Record → Heard
meet_kind c clear h e = tells 1 e h
meet_kind c piece h e = tells 2 e h
meet_kind c first h e = meet_first h e
meet_kind c second h e = meet_second c h e
meet_kind c bare h e = says 6 h
meet_kind c unusable h e = says 7 h

unfoldable pub meet_one : Channel → Option Half → Record → Heard
meet_one c h e = meet_kind c (kind_on c e) h e

-- ## Whether it can be followed

-- 1 no key, 2 no count, 3 follow, with the kept count; 0 and 0 where nothing is said of it
pub record Following : Type 0 where
  pub follow : ℕ
  pub kept : ℕ

-- k: the group key is held; then the kept count
abbrev pub following : Bool → Option ℕ → Following
following false n = record { follow = 1; kept = 0 }
following true none = record { follow = 2; kept = 0 }
following true (some n) = record { follow = 3; kept = n }

-- only a ciphered call that is complete, in one piece or joined, can be followed
abbrev pub following_at : ℕ → Bool → Option ℕ → Following
following_at number k n = pick (eqb number 2) (following k n) (pick (eqb number 3) (following k n) (record { follow = 0; kept = 0 }))

pub record Said : Type 0 where
  pub number : ℕ
  pub told : Record
  pub follow : ℕ
  pub kept : ℕ

-- what an entry is told of a call with a set of group keys, by what is known of the cell
abbrev pub saying : ℕ → Known → ℕ → Record → Said
saying group l number e =
    let f = following_at number (holds group e.call.cipher) l.count in
    record { number = number; told = e; follow = f.follow; kept = f.kept }

abbrev pub said_by : ℕ → Known → Heard → Said
said_by group l w = saying group l w.number w.told

-- ## What it sees

-- what an accepted event is to the call: what may discard its half, what it tells of the cell's count, and the entries of its own on its channel
pub record Sight : Type 0 where
  pub cause : Cause
  pub news : News
  pub entries : List Record

pub record Seen : Type 0 where
  -- milliseconds since the last accepted event
  pub step : ℕ
  pub sight : Sight

-- the entries under a key
unfoldable pub mine : ℕ → List Record → List Record
mine key [] = []
mine key (e ∷ es) = pick (eqb (key_of e.call) key) (e ∷ mine key es) (mine key es)

-- the entries of an event, and the channel that they come on
pub record Listed : Type 0 where
  pub channel : Channel
  pub entries : List Record

-- an event that is no message has none
abbrev pub none_listed : Listed
none_listed = record { channel = onNch; entries = [] }

abbrev pub listed_in : Happening → Listed
listed_in (heardNch s) = record { channel = onNch; entries = nch_entries (read_of s).«record» }
listed_in (heardFacch s) = record { channel = onFacch; entries = facch_entries (readFacch s).«record» }
listed_in (heard_pch ns) = record { channel = onPch; entries = pch_entries (readPch ns).«record» }
listed_in (joins k) = none_listed
listed_in (moves m) = none_listed
listed_in (bit_is b) = none_listed
listed_in passes = none_listed

-- a message's NLN; w: the channel shows it, b: the message has one
abbrev pub nln_seen : Bool → Bool → ℕ → Cause
nln_seen true true n = numbered n
nln_seen true false n = nothing
nln_seen false b n = nothing

-- the key of an entry on the PCH; w: the channel shows it
abbrev pub page_seen : Bool → ℕ → Cause
page_seen true k = paged k
page_seen false k = nothing

-- what in an event may discard a half on a channel
abbrev pub cause_seen : Channel → Happening → Cause
cause_seen c (heardNch s) = nln_seen (shows_nln c) (read_of s).«record».hasNln (read_of s).«record».nln
cause_seen c (heardFacch s) = nothing
cause_seen c (heard_pch ns) = page_seen (shows_pages c) (key_of (readPch ns).«record».call)
cause_seen c (joins k) = joining k
cause_seen c (moves m) = moving m
cause_seen c (bit_is b) = nothing
cause_seen c passes = nothing

-- a message's count, on a channel without and with B22; b: the message has one
abbrev pub count_seen : Bool → ℕ → News
count_seen true n = counts n
count_seen false n = no_news

abbrev pub over_seen : Bool → Bool → ℕ → News
over_seen true b22 n = counts_over b22 n
over_seen false b22 n = no_news

-- what an event tells of the cell's count: every channel sees it
abbrev pub news_seen : Happening → News
news_seen (heardNch s) = count_seen (read_of s).«record».release6.hasCount (read_of s).«record».release6.cellcount
news_seen (heardFacch s) = over_seen (readFacch s).«record».release6.hasCount (readFacch s).«record».release6.b22 (readFacch s).«record».release6.cellcount
news_seen (heard_pch ns) = count_seen (readPch ns).«record».hasCount (readPch ns).«record».cellcount
news_seen (joins k) = no_news
news_seen (moves m) = no_news
news_seen (bit_is b) = bits b
news_seen passes = no_news

-- the call's own among the entries, where its channel is theirs
abbrev pub entries_seen : ℕ → Channel → Listed → List Record
entries_seen key c l = pick (hears c l.channel) (mine key l.entries) []

unfoldable pub sight_of : ℕ → Channel → Happening → Sight
sight_of key c h = record { cause = cause_seen c h; news = news_seen h; entries = entries_seen key c (listed_in h) }

-- the step from one tick to another on a 32-bit counter that wraps
abbrev pub step_between : ℕ → ℕ → ℕ
step_between last now = (now + 2 ^ 32 - last) % 2 ^ 32

-- an event is accepted where its step is below 2^31 and nothing else refuses it
unfoldable pub accepts : ℕ → Event → Bool
accepts last e = both (ltb (step_between last e.tick) (2 ^ 31)) (eqb (grounds_of e.happening).number 0)

-- what a call sees of an accepted event after a tick
abbrev pub sees : ℕ → Channel → ℕ → Event → Seen
sees key c last e = record { step = step_between last e.tick; sight = sight_of key c e.happening }

-- what a call sees of the events from a tick on: refused ones are not seen, and do not move the clock
unfoldable pub seen : ℕ → Channel → ℕ → List Event → List Seen
seen key c last [] = []
seen key c last (e ∷ es) = pick (accepts last e) (sees key c last e ∷ seen key c e.tick es) (seen key c last es)

-- ## What it does

-- time passes: a half as old as its timer is gone
abbrev pub aged : ℕ → ℕ → Option Half → Option Half
aged timer d none = none
aged timer d (some h) = pick (ltb (h.age + d) timer) (some (record { which = h.which; age = h.age + d; entry = h.entry })) none

-- another NLN than the last one seen
abbrev pub changed : Option ℕ → ℕ → Bool
changed none n = false
changed (some l) n = not (eqb l n)

-- what is forgotten, and the NLN
abbrev pub known_by : Known → Cause → Known
known_by l nothing = l
known_by l (joining k) = l
known_by l (paged k) = l
known_by l (moving m) =
    record {
      nln = pick (forgotten_by m) none l.nln;
      count = pick (count_forgotten_by m) none l.count;
      bit = pick (count_forgotten_by m) none l.bit;
    }
known_by l (numbered n) = record { nln = some n; count = l.count; bit = l.bit }

-- a count raised by one, modulo 4
abbrev pub next : ℕ → ℕ
next n = (n + 1) % 4

-- a FACCH count, by the bit as it is now: not taken where it is not known, and raised where B22 was 1 and it is 0
abbrev pub over_taken : Option ℕ → Bool → ℕ → Option ℕ
over_taken none b22 n = none
over_taken (some b) true n = some (pick (eqb b 0) (next n) n)
over_taken (some b) false n = some n

-- the count that comes, or else the one before it
abbrev pub or_kept : Option ℕ → Option ℕ → Option ℕ
or_kept none kept = kept
or_kept (some n) kept = some n

-- the bit goes from 1 to 0
abbrev pub turns_to : Option ℕ → ℕ → Bool
turns_to none b = false
turns_to (some l) b = both (eqb l 1) (eqb b 0)

-- t: it does
abbrev pub raised_by : Bool → Option ℕ → Option ℕ
raised_by false kept = kept
raised_by true none = none
raised_by true (some n) = some (next n)

abbrev pub known_with : Known → News → Known
known_with l no_news = l
known_with l (counts n) = record { nln = l.nln; count = some n; bit = l.bit }
known_with l (counts_over b22 n) = record { nln = l.nln; count = or_kept (over_taken l.bit b22 n) l.count; bit = l.bit }
known_with l (bits b) = record { nln = l.nln; count = raised_by (turns_to l.bit b) l.count; bit = some b }

abbrev pub known_after : Known → Cause → News → Known
known_after l x w = known_with (known_by l x) w

-- its entries in order
unfoldable pub held_after_of : Channel → Option Half → List Record → Option Half
held_after_of c h [] = h
held_after_of c h (e ∷ es) = held_after_of c (meet_one c h e).held es

unfoldable pub said_of : Channel → ℕ → Known → Option Half → List Record → List Said
said_of c group l h [] = []
said_of c group l h (e ∷ es) = said_by group l (meet_one c h e) ∷ said_of c group l (meet_one c h e).held es

-- what is left of the half before the entries
abbrev pub spared_by : ℕ → Channel → Known → Cause → Option Half → Option Half
spared_by key c l nothing h = h
spared_by key c l (joining k) h = pick (eqb k key) h none
spared_by key c l (paged k) h = pick (eqb k key) h none
spared_by key c l (moving m) h = pick (gone_by c m) none h
spared_by key c l (numbered n) h = pick (changed l.nln n) none h

abbrev pub spared : ℕ → Channel → One → Sight → Option Half
spared key c s v = spared_by key c s.cell v.cause s.held

abbrev pub passed : ℕ → One → ℕ → One
passed timer s d = record { held = aged timer d s.held; cell = s.cell }

-- what is known of the cell when the entries come: the message's own count is taken before
abbrev pub known_then : One → Sight → Known
known_then s v = known_after s.cell v.cause v.news

unfoldable pub step_one : ℕ → Channel → ℕ → One → Seen → One
step_one key c timer s v =
    record {
      held = held_after_of c (spared key c (passed timer s v.step) v.sight) v.sight.entries;
      cell = known_then s v.sight;
    }

-- with its set of group keys
unfoldable pub step_said : ℕ → Channel → ℕ → ℕ → One → Seen → List Said
step_said key c timer group s v = said_of c group (known_then s v.sight) (spared key c (passed timer s v.step) v.sight) v.sight.entries

unfoldable pub run_one : ℕ → Channel → ℕ → ℕ → One → List Seen → List Said
run_one key c timer group s [] = []
run_one key c timer group s (v ∷ vs) = step_said key c timer group s v ++ run_one key c timer group (step_one key c timer s v) vs

-- the same with what it says to each event in a list of its own, which is empty for a refused one
unfoldable pub run_each : ℕ → Channel → ℕ → ℕ → One → ℕ → List Event → List (List Said)
run_each key c timer group o last [] = []
run_each key c timer group o last (e ∷ es) =
    pick (accepts last e)
    (step_said key c timer group o (sees key c last e) ∷ run_each key c timer group (step_one key c timer o (sees key c last e)) e.tick es)
    ([] ∷ run_each key c timer group o last es)

-- the one-call receiver after what it saw
unfoldable pub one_after : ℕ → Channel → ℕ → One → List Seen → One
one_after key c timer s [] = s
one_after key c timer s (v ∷ vs) = one_after key c timer (step_one key c timer s v) vs

-- at the start nothing is held, and nothing is known of the cell
abbrev pub unknown : Known
unknown = record { nln = none; count = none; bit = none }

abbrev pub fresh : One
fresh = record { held = none; cell = unknown }
