-- What replaying a capture prints: each field is answered as the receiver answers what it says (document 02, §5). Assumes nothing.
use Rattle.std.specs.Prelude.{ℕ, ◌+◌, ◌-◌, ◌*◌, ◌/◌, ◌%◌, ◌^◌, min, max, Bool, true, false, List, [], ◌∷◌, ◌++◌, length, take, drop, replicate, ◌==◌, nat_le}
use Rattle.std.proofs.Math.Option.{Option, none, some}
use Rattle.bits.specs.Field.{both, pick}
use Rattle.receiver.specs.declared.Receiver.{Receiver}
use Rattle.receiver.specs.declared.Setup.{Setup}
use Rattle.receiver.specs.declared.Started.{Started}
use Rattle.receiver.specs.declared.Told.{Told}
use Rattle.receiver.specs.declared.Answer.{Answer}
use Rattle.receiver.specs.Model.{started_of, ready_setup}
use Rattle.receiver.specs.Step.{Event, nch, facch, joined, reselected, handed_over, reconfigured, tick, step_of}
use Rattle.layout.specs.Octets.{tabulate}
use Rattle.text.specs.Digits.{decimal}
use Rattle.capture.specs.Capture.{Field, be_at, Part, whole, torn, parts_of}

-- ## What a field says

-- every event is led by its tick, of four octets
abbrev pub tick_length : ℕ
tick_length = 4

abbrev pub tick_in : List ℕ → ℕ
tick_in c = be_at tick_length c 0

-- a message behind its tick
abbrev pub if_led : List ℕ → Event → Option Event
if_led c e = pick (nat_le tick_length (length c)) (some e) none

-- an event of a fixed length
abbrev pub if_long : ℕ → List ℕ → Event → Option Event
if_long n c e = pick (length c == n) (some e) none

-- the event of a tag and the contents; none for another tag, and for a length that the tag does not have
unfoldable pub event_by : ℕ → List ℕ → Option Event
event_by tag c =
    pick (tag == 1) (if_led c (nch (tick_in c) (drop tick_length c)))
    (pick (tag == 2) (if_led c (facch (tick_in c) (drop tick_length c)))
    (pick (tag == 3) (if_long (tick_length + 4) c (joined (tick_in c) (be_at 4 c tick_length)))
    (pick (tag == 4) (if_long tick_length c (reselected (tick_in c)))
    (pick (tag == 5) (if_long tick_length c (handed_over (tick_in c)))
    (pick (tag == 6) (if_long tick_length c (reconfigured (tick_in c)))
    (pick (tag == 7) (if_long tick_length c (tick (tick_in c))) none))))))

abbrev pub event_in : Field → Option Event
event_in f = event_by f.tag f.contents

-- ## The setup, tag 0: tick 4 octets, T3206 and T3208 2 each, then 4 for each key; T3210 is the ready default

abbrev pub times_length : ℕ
times_length = 8

abbrev pub setup_in : List ℕ → Setup
setup_in c = record { tick = tick_in c; t3206 = be_at 2 c 4; t3208 = be_at 2 c 6; t3210 = (ready_setup 0).t3210 }

-- a length that a setup can have
abbrev pub is_setup : List ℕ → Bool
is_setup c = both (nat_le times_length (length c)) (length c % 4 == 0)

abbrev pub keys_count : List ℕ → ℕ
keys_count c = (length c - times_length) / 4

abbrev pub key_in : List ℕ → ℕ → ℕ
key_in c i = be_at 4 c (times_length + 4 * i)

-- a key put among others: at each place the lesser of two stays, and the greater goes on to the next
unfoldable pub inserted : ℕ → List ℕ → List ℕ
inserted k [] = k ∷ []
inserted k (x ∷ xs) = min k x ∷ inserted (max k x) xs

unfoldable pub sorted : List ℕ → List ℕ
sorted [] = []
sorted (k ∷ ks) = inserted k (sorted ks)

-- the keys in rising order, as they are lent
unfoldable pub keys_of : List ℕ → List ℕ
keys_of c = sorted (tabulate (key_in c) 0 (keys_count c))

-- no group keys are held
abbrev pub sets_of : List ℕ → List ℕ
sets_of c = replicate (keys_count c) 0

unfoldable pub start_in : List ℕ → Started
start_in c = started_of (setup_in c) (keys_of c) (sets_of c)

-- a setup that the receiver accepts
unfoldable pub accepts : Field → Bool
accepts f = both (f.tag == 0) (both (is_setup f.contents) ((start_in f.contents).refusal.number == 0))

-- ## What a field is answered with

-- the refusals of a capture: the input ends inside a field; a setup that is missing, refused or given again; what is no event
abbrev pub input_ends : ℕ
input_ends = 18

abbrev pub no_setup : ℕ
no_setup = 17

abbrev pub no_event : ℕ
no_event = 16

-- what is printed of a field; of each entry its key and the number told
pub record Said : Type 0 where
  pub tag : ℕ
  pub refusal : ℕ
  pub dropped : ℕ
  pub entries : List (ℕ × ℕ)

-- a number alone
abbrev pub said_only : ℕ → ℕ → Said
said_only tag n = record { tag = tag; refusal = n; dropped = 0; entries = [] }

abbrev pub told : List Told → List (ℕ × ℕ)
told [] = []
told (t ∷ ts) = (t.key, t.number) ∷ told ts

-- an answer of the receiver: expiries are drops too
abbrev pub said_by : ℕ → Answer → Said
said_by tag a = record { tag = tag; refusal = a.refusal.number; dropped = a.expired + a.dropped; entries = told (take a.count a.entries) }

-- where the run stands: no setup came yet, the receiver as it stands, or the run has ended
pub data Stage : Type 0 where
  before : Stage
  running : Receiver → Stage
  over : Stage

abbrev pub is_over : Stage → Bool
is_over before = false
is_over (running r) = false
is_over over = true

abbrev pub said_to : Receiver → ℕ → Option Event → Said
said_to r tag none = said_only tag no_event
said_to r tag (some e) = said_by tag (step_of r e)

-- 18 goes before 17, that before 16, and that before the receiver's own. (Once the run is over nothing is asked.)
abbrev pub said_of : Part → Stage → Said
said_of (torn t) st = said_only t input_ends
said_of (whole f) before = said_only f.tag (pick (accepts f) 0 no_setup)
said_of (whole f) (running r) = pick (f.tag == 0) (said_only f.tag no_setup) (said_to r f.tag (event_in f))
said_of (whole f) over = said_only f.tag no_setup

abbrev pub receiver_after : Receiver → Option Event → Receiver
receiver_after r none = r
receiver_after r (some e) = (step_of r e).receiver

-- a setup given again and what is no event are skipped; 18 and every other 17 end the run
abbrev pub stage_after : Part → Stage → Stage
stage_after (torn t) st = over
stage_after (whole f) before = pick (accepts f) (running (start_in f.contents).receiver) over
stage_after (whole f) (running r) = pick (f.tag == 0) (running r) (running (receiver_after r (event_in f)))
stage_after (whole f) over = over

-- ## The text

abbrev pub blank : ℕ
blank = 32

abbrev pub line_end : ℕ
line_end = 10

-- field tag refusal dropped
abbrev pub header : List ℕ
header =
    102 ∷ 105 ∷ 101 ∷ 108 ∷ 100 ∷ blank ∷ 116 ∷ 97 ∷ 103 ∷ blank ∷ 114 ∷ 101 ∷ 102 ∷ 117 ∷ 115 ∷ 97 ∷ 108 ∷ blank ∷ 100 ∷ 114 ∷ 111 ∷ 112 ∷ 112 ∷ 101 ∷ 100 ∷ line_end ∷ []

-- under a field's line, for each entry: two blanks, its key, the number told
abbrev pub entry_text : ℕ × ℕ → List ℕ
entry_text e = blank ∷ blank ∷ decimal e.0 ++ (blank ∷ decimal e.1 ++ (line_end ∷ []))

unfoldable pub entries_text : List (ℕ × ℕ) → List ℕ
entries_text [] = []
entries_text (e ∷ es) = entry_text e ++ entries_text es

-- its line: four numbers, parted by a blank
unfoldable pub field_text : ℕ → ℕ → ℕ → ℕ → List ℕ
field_text n tag refusal dropped = decimal n ++ (blank ∷ decimal tag ++ (blank ∷ decimal refusal ++ (blank ∷ decimal dropped ++ (line_end ∷ []))))

unfoldable pub line_text : ℕ → Said → List ℕ
line_text n s = field_text n s.tag s.refusal s.dropped ++ entries_text s.entries

-- fields are counted by a number of 64 bits
abbrev pub next_number : ℕ → ℕ
next_number n = (n + 1) % 2 ^ 64

unfoldable pub text_from : ℕ → Stage → List Part → List ℕ
text_from n st [] = []
text_from n st (p ∷ ps) = pick (is_over st) [] (line_text n (said_of p st) ++ text_from (next_number n) (stage_after p st) ps)

-- all that is printed for a capture
unfoldable pub replay_of : List ℕ → List ℕ
replay_of s = header ++ text_from 1 before (parts_of s)
