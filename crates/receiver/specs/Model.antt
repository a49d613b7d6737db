-- The receiver's parts: places, what drops a half, and what a half meets (document 01, "Setup, clock and store", "What each notified call is told"). Assumes nothing.
use Rattle.std.specs.Prelude.{Result, Ok, Err, List, [], ◌∷◌, Bool, true, false, not, ℕ, suc, ◌+◌, ◌*◌, length, replicate, take, leb, eqb}
use Rattle.bits.specs.Field.{both, pick}
use Rattle.csn1.specs.Format.{no_refusal, ground}
use Rattle.csn1.specs.Told.{as_bit, padded}
use Rattle.call.specs.declared.Call.{Call}
use Rattle.call.specs.Call.{no_call, ciphered}
use Rattle.facch.specs.Told.{no_page}
use Rattle.receiver.specs.declared.Common.{Common}
use Rattle.receiver.specs.declared.Record.{Record}
use Rattle.receiver.specs.declared.Slot.{Slot}
use Rattle.receiver.specs.declared.Receiver.{Receiver}
use Rattle.receiver.specs.declared.Cell.{Cell}
use Rattle.receiver.specs.declared.Rule.{Rule}
use Rattle.receiver.specs.declared.Met.{Met}
use Rattle.receiver.specs.declared.Paged.{Paged}
use Rattle.receiver.specs.declared.Setup.{Setup}
use Rattle.receiver.specs.declared.Started.{Started}
use Rattle.pch.specs.Entry.{last_key as highestKey}
use Rattle.receiver.specs.Count.{no_count, no_bit, sets_right}
use Rattle.receiver.specs.Halving.{halving, rises}
pub use Rattle.clock.specs.Clock.{wrap_sub, late_step}
unfoldable pub use Rattle.clock.specs.Clock.{late}
use Rattle.receiver.specs.Channels.{key_count, places, side_of, index_in, by_number_of, asks, leads, Channel, onNch, onFacch, onPch}

-- ## Nothing yet

abbrev pub no_common : Common
no_common =
    record {
      hasCount = false;
      cellcount = 0;
      b22 = false;
      hasUplink = false;
      uplink = false;
      hasAmr = false;
      hasFullrate = false;
      fullrate = 0;
      hasHalfrate = false;
      halfrate = 0;
      hasSms = false;
      confidential = false;
      private = false;
    }

abbrev pub no_record : Record
no_record = record { full = false; call = no_call; hasSegment = false; segment = false; hasRandom = false; rand = 0; emergency = false; common = no_common }

abbrev pub empty_slot : Slot
empty_slot = record { half = 0; since = 0; «record» = no_record }

-- nobody is paged
abbrev pub no_paged : Paged
no_paged = record { there = false; page = no_page; hasCause = false; cause = false }

-- an NLN has two bits: this says that none is known
abbrev pub no_nln : ℕ
no_nln = 4

abbrev pub no_cell : Cell
no_cell = record { nln = no_nln; count = no_count; bit = no_bit }

-- ## Keys and places

-- the highest key, and what a key place holds that no subscription uses
abbrev pub last_key : ℕ
last_key = highestKey

abbrev pub no_key : ℕ
no_key = 4294967295

-- reference times 2 plus service flag
abbrev pub key_of : Call → ℕ
key_of c = c.reference * 2 + as_bit c.vgcs

-- the keys that are there: the first so many of the key places, all of them where there are not so many
abbrev pub keys_of : Receiver → List ℕ
keys_of r = take r.keycount r.keys

-- the place of a key among keys, by halving, and `key_count` where it is not there
abbrev pub index_of : List ℕ → ℕ → ℕ
index_of keys key = (halving keys key).at

-- ## What drops a half

-- what an event drops: the halves of some channels, save those under the key at an index
abbrev pub rule_for : (Channel → Bool) → ℕ → Rule
rule_for goes but = record { nch = goes onNch; facch = goes onFacch; pch = goes onPch; but = but }

-- none of them; and all of some channels, for no key has the index `key_count`
abbrev pub keep : Rule
keep = rule_for (λ c. false) key_count

abbrev pub takes : Rule → ℕ → Bool
takes rule ch = by_number_of ch rule.nch rule.facch rule.pch

unfoldable pub spares : Rule → ℕ → Bool
spares rule i = pick (takes rule (side_of i)) (eqb (index_in i) rule.but) true

-- T3206 runs for the NCH, T3208 for the FACCH, T3210 for the PCH
abbrev pub timer_at : Receiver → ℕ → ℕ
timer_at r i = by_number_of (side_of i) r.t3206 r.t3208 r.t3210

abbrev pub is_held : Slot → Bool
is_held s = not (eqb s.half 0)

-- a half has run out where its age is at least its timer
unfoldable pub ran_out_of : ℕ → ℕ → Slot → Bool
ran_out_of now timer s = both (is_held s) (leb timer (wrap_sub now s.since))

-- of those left, the event's own rule takes some
unfoldable pub taken_of : ℕ → ℕ → Rule → ℕ → Slot → Bool
taken_of now timer rule i s = both (is_held s) (both (not (ran_out_of now timer s)) (not (spares rule i)))

unfoldable pub kept_of : ℕ → ℕ → Rule → ℕ → Slot → Slot
kept_of now timer rule i s = pick (ran_out_of now timer s) empty_slot (pick (taken_of now timer rule i s) empty_slot s)

-- a list with each element changed by its place
abbrev pub map_at : {A B : Type 0} → (ℕ → A → B) → ℕ → List A → List B
map_at f k [] = []
map_at f k (x ∷ xs) = f k x ∷ map_at f (suc k) xs

-- how many pass a test that knows their place
abbrev pub count_at : {A : Type 0} → (ℕ → A → Bool) → ℕ → List A → ℕ
count_at t k [] = 0
count_at t k (x ∷ xs) = as_bit (t k x) + count_at t (suc k) xs

unfoldable pub swept_slots : Receiver → ℕ → Rule → List Slot
swept_slots r now rule = map_at (λ i s. kept_of now (timer_at r i) rule i s) 0 r.slots

unfoldable pub expired_of : Receiver → ℕ → List Slot → ℕ
expired_of r now l = count_at (λ i s. ran_out_of now (timer_at r i) s) 0 l

unfoldable pub dropped_of : Receiver → ℕ → Rule → ℕ
dropped_of r now rule = count_at (λ i s. taken_of now (timer_at r i) rule i s) 0 r.slots

-- ## What an entry is, on channel ch

abbrev pub is_ciphered : Record → Bool
is_ciphered e = pick e.full (ciphered e.call) true

-- Segment Id as it must be where the channel has it
abbrev pub segment_is : ℕ → Bool → Record → Bool
segment_is ch b e = pick (asks ch) (both e.hasSegment (pick b e.segment (not e.segment))) true

abbrev pub is_clear : Record → Bool
is_clear e = both (not (is_ciphered e)) e.call.hasDescription

abbrev pub is_whole : ℕ → Record → Bool
is_whole ch e = both (is_ciphered e) (both e.call.hasDescription (both e.hasRandom (segment_is ch false e)))

abbrev pub is_first : ℕ → Record → Bool
is_first ch e = both (is_ciphered e) (both e.call.hasDescription (both (not e.hasRandom) (segment_is ch false e)))

abbrev pub is_second : ℕ → Record → Bool
is_second ch e = both (is_ciphered e) (both (not e.call.hasDescription) (both e.hasRandom (segment_is ch true e)))

-- a call without a channel, and no second half
abbrev pub is_bare : Record → Bool
is_bare e = both e.full (not e.call.hasDescription)

-- 1 complete and clear, 2 complete in one piece, 3 a first half, 4 a second half, 6 no channel, 7 any other
unfoldable pub class_of : ℕ → Record → ℕ
class_of ch e =
    pick (is_clear e) 1 (pick (is_whole ch e) 2 (pick (is_first ch e) 3 (pick (is_second ch e) 4 (pick (is_bare e) 6 7))))

-- ## What a half meets

-- all 36 bits are the same
abbrev pub same_reference : Call → Call → Bool
same_reference a b =
    both (eqb a.reference b.reference)
    (both (eqb (as_bit a.vgcs) (as_bit b.vgcs))
    (both (eqb (as_bit a.acknowledged) (as_bit b.acknowledged)) (both (eqb a.priority b.priority) (eqb a.cipher b.cipher))))

-- two full references must agree
unfoldable pub agree : Record → Record → Bool
agree a b = pick (both a.full b.full) (same_reference a.call b.call) true

-- the count comes from the second half if there, else from the first
abbrev pub with_count : Common → Common → Common
with_count first second =
    record {
      hasCount = pick second.hasCount true first.hasCount;
      cellcount = pick second.hasCount second.cellcount first.cellcount;
      b22 = pick second.hasCount second.b22 first.b22;
      hasUplink = first.hasUplink;
      uplink = first.uplink;
      hasAmr = first.hasAmr;
      hasFullrate = first.hasFullrate;
      fullrate = first.fullrate;
      hasHalfrate = first.hasHalfrate;
      halfrate = first.halfrate;
      hasSms = first.hasSms;
      confidential = first.confidential;
      private = first.private;
    }

-- everything from the first half, VSTK_RAND from the second
unfoldable pub joined_of : Record → Record → Record
joined_of first second =
    record {
      full = first.full;
      call = first.call;
      hasSegment = first.hasSegment;
      segment = first.segment;
      hasRandom = true;
      rand = second.rand;
      emergency = first.emergency;
      common = with_count first.common second.common;
    }

-- an answer, and what the place holds then
abbrev pub only : ℕ → Slot → Met
only n s = record { number = n; told = no_record; held = s }

abbrev pub complete : ℕ → Record → Slot → Met
complete n e s = record { number = n; told = e; held = s }

abbrev pub storing : ℕ → ℕ → Record → Slot
storing half now e = record { half = half; since = now; «record» = e }

-- a half that comes: nothing held, the same half held, or the opposite one
abbrev pub meet_half : ℕ → Slot → Record → Record → Met → Met
meet_half half s e joined unheld =
    pick (eqb s.half 0) unheld
    (pick (eqb s.half half) (only 5 s) (pick (agree s.«record» e) (complete 3 joined empty_slot) (only 7 s)))

-- a second half that meets nothing is stored where it may come first, and told 8 elsewhere
unfoldable pub meet_of : ℕ → ℕ → Slot → Record → Met
meet_of ch now s e =
    pick (eqb (class_of ch e) 1) (complete 1 e s)
    (pick (eqb (class_of ch e) 2) (complete 2 e s)
    (pick (eqb (class_of ch e) 3) (meet_half 1 s e (joined_of e s.«record») (only 4 (storing 1 now e)))
    (pick (eqb (class_of ch e) 4) (meet_half 2 s e (joined_of s.«record» e) (pick (leads ch) (only 4 (storing 2 now e)) (only 8 s))) (only (class_of ch e) s))))

-- ## Setup

abbrev pub new_receiver : Setup → List ℕ → List ℕ → ℕ → Receiver
new_receiver s keys groups n =
    record { slots = replicate places empty_slot; keys = keys; sets = groups; keycount = n; tick = s.tick; t3206 = s.t3206; t3208 = s.t3208; t3210 = s.t3210; cell = no_cell }

-- the receiver with other places, at another tick, with what is known of another cell
abbrev pub remade : Receiver → List Slot → ℕ → Cell → Receiver
remade r l now cell = record { slots = l; keys = r.keys; sets = r.sets; keycount = r.keycount; tick = now; t3206 = r.t3206; t3208 = r.t3208; t3210 = r.t3210; cell = cell }

-- a receiver with other places
abbrev pub with_slots : Receiver → List Slot → Receiver
with_slots r l = remade r l r.tick r.cell

-- the key places: the keys as they were lent, then unused ones
abbrev pub key_places : ℕ → List ℕ → List ℕ
key_places n keys = padded no_key n keys

-- the sets of group keys, one for each key; an unused place has none
abbrev pub set_places : ℕ → List ℕ → List ℕ
set_places n groups = padded 0 n groups

abbrev pub longest_timer : ℕ
longest_timer = 60000

abbrev pub is_timer : ℕ → Bool
is_timer t = both (leb 1 t) (leb t longest_timer)

-- none is above the highest
unfoldable pub all_low : List ℕ → Bool
all_low [] = true
all_low (k ∷ ks) = both (leb k last_key) (all_low ks)

-- and each is above the one before it, so that none comes again
abbrev pub keys_right : List ℕ → Bool
keys_right keys = both (all_low keys) (rises keys)

unfoldable pub setup_right : Setup → List ℕ → List ℕ → Bool
setup_right s keys groups =
    both (leb (length keys) key_count) (both (is_timer s.t3206) (both (is_timer s.t3208) (both (is_timer s.t3210) (both (sets_right keys groups) (keys_right keys)))))

abbrev pub no_setup : Setup
no_setup = record { tick = 0; t3206 = 0; t3208 = 0; t3210 = 0 }

-- what the code answers: the receiver of a setup that is accepted, and all that a refused one comes to
abbrev pub outcome_of : Started → Result Receiver Started
outcome_of s = pick (eqb s.refusal.number 0) (Ok s.receiver) (Err s)

-- a refused setup is its number alone
unfoldable pub started_of : Setup → List ℕ → List ℕ → Started
started_of s keys groups =
    pick (setup_right s keys groups) (record { refusal = no_refusal; receiver = new_receiver s (key_places key_count keys) (set_places key_count groups) (length keys) })
    (record { refusal = ground 10; receiver = new_receiver no_setup (replicate key_count no_key) (replicate key_count 0) 0 })

-- the ready defaults
abbrev pub ready_setup : ℕ → Setup
ready_setup tick = record { tick = tick; t3206 = 10000; t3208 = 5000; t3210 = 5000 }
