-- What is promised of replaying a capture (document 02, §5), and of a call of mending (§12). proofs/Promises proves each. Assumes nothing.
use Rattle.std.specs.Prelude.{◌≡◌, ℕ, suc, ◌+◌, ◌^◌, ◌<◌, ◌≤◌, true, List, [], ◌∷◌, ◌++◌, length, ◌==◌, ◌≢◌, slice_index}
use Rattle.std.proofs.Math.Option.{some}
use Rattle.bits.specs.Field.{pick}
use Rattle.receiver.specs.declared.Receiver.{Receiver}
use Rattle.receiver.specs.Step.{Event, step_of}
use Rattle.layout.specs.Octets.{tabulate}
use Rattle.text.specs.Lines.{Line}
use Rattle.capture.specs.declared.Fed.{Fed}
use Rattle.capture.specs.declared.Mended.{Mended}
use Rattle.capture.specs.Capture.{Field, field_octets}
use Rattle.capture.specs.Replay.{event_in, keys_count, key_in, keys_of, accepts, start_in, Said, said_only, said_by, header, line_text, next_number, replay_of}
use Rattle.capture.specs.Mending.{Mending, Lines, have_room, mended_by, MendFed}
use Rattle.capture.specs.Calls.{Call, held_behind, taken_by, written_by, Returned, Ran, octets_in, text_in, left_in}
use Rattle.capture.specs.Machine.{kept_length, Machine, machine_of, most_text, fed_by, ending, begun, Replayed}

-- ## 1. However a capture is cut

-- Whatever pieces are offered, empty ones among them, and whatever octets are lent: the header, what the calls write and what the end adds are the replay of the octets that they took.
abbrev pub HoweverItIsCutTheReplayIsTheSame : Type 0
HoweverItIsCutTheReplayIsTheSame =
    (kept state : List ℕ)
    → length kept ≡ kept_length
    → (calls : List Call)
    → header ++ (written_by (machine_of begun kept state) calls ++ ending (held_behind (machine_of begun kept state) calls)) ≡ replay_of (taken_by (machine_of begun kept state) calls)

-- The same of the calls of `feed` themselves, each of which met its statement.
abbrev pub HoweverFeedIsCalledTheReplayIsTheSame : Type 0
HoweverFeedIsCalledTheReplayIsTheSame =
    (kept state : List ℕ)
    → length kept ≡ kept_length
    → (calls : List Call) (run : List Returned)
    → Ran begun kept state calls run
    → header ++ (text_in calls run ++ ending (left_in (machine_of begun kept state) run)) ≡ replay_of (octets_in calls run)

-- A call takes octets of its piece from the front, and one at least where there are any and the line has room for the text of a field.
abbrev pub ACallWithRoomTakesSomething : Type 0
ACallWithRoomTakesSomething = (m : Machine) (s : List ℕ) (l : Line) → 0 < length s → l.at + most_text ≤ length l.octets → 0 < (fed_by m s l).taken

abbrev pub ACallTakesNoMoreThanItIsOffered : Type 0
ACallTakesNoMoreThanItIsOffered = (m : Machine) (s : List ℕ) (l : Line) → (fed_by m s l).taken ≤ length s

-- Two results of `feed` on the same octets are the same.
abbrev pub ReplayedDetermines : Type 0
ReplayedDetermines =
    (m : Machine) (s : List ℕ) (l : Line) (f g : Fed) (kept kept' state state' out out' : List ℕ)
    → Replayed m s l f kept state out
    → Replayed m s l g kept' state' out'
    → (f ≡ g) × (kept ≡ kept') × (state ≡ state') × (out ≡ out')

-- ## 2. The answers are the receiver's

-- the octets of fields in a row
unfoldable pub capture_of : List Field → List ℕ
capture_of [] = []
capture_of (f ∷ fs) = field_octets f ++ capture_of fs

-- each field says its event; a setup says none
abbrev pub Say : List Field → List Event → Type 0
Say [] [] = Unit {0}
Say [] (e ∷ es) = ⊥
Say (f ∷ fs) [] = ⊥
Say (f ∷ fs) (e ∷ es) = (f.tag ≢ 0) × ((event_in f ≡ some e) × Say fs es)

-- what the receiver answers to events in a row, under the fields' tags, from a field number on
unfoldable pub answers_text : ℕ → Receiver → List Field → List Event → List ℕ
answers_text n r [] es = []
answers_text n r (f ∷ fs) [] = []
answers_text n r (f ∷ fs) (e ∷ es) = line_text n (said_by f.tag (step_of r e)) ++ answers_text (next_number n) (step_of r e).receiver fs es

-- A setup that is accepted and fields that say events, refused ones among them: the text is the setup's line and the receiver's answers in a row.
abbrev pub TheAnswersAreTheReceivers : Type 0
TheAnswersAreTheReceivers =
    (f : Field) (fs : List Field) (es : List Event)
    → accepts f ≡ true
    → Say fs es
    → replay_of (capture_of (f ∷ fs)) ≡ header ++ (line_text 1 (said_only 0 0) ++ answers_text 2 (start_in f.contents).receiver fs es)

-- ## 3. The text determines the answers

-- numbers of 64 bits
abbrev pub Small : List (ℕ × ℕ) → Type 0
Small [] = Unit {0}
Small (e ∷ es) = (e.0 < 2 ^ 64) × ((e.1 < 2 ^ 64) × Small es)

pub record Printable (n : ℕ) (s : Said) : Type 0 where
  pub number : n < 2 ^ 64
  pub tag : s.tag < 2 ^ 64
  pub refusal : s.refusal < 2 ^ 64
  pub dropped : s.dropped < 2 ^ 64
  pub entries : Small s.entries

abbrev pub TheTextDeterminesTheAnswers : Type 0
TheTextDeterminesTheAnswers = (m n : ℕ) (a b : Said) → Printable m a → Printable n b → line_text m a ≡ line_text n b → (m ≡ n) × (a ≡ b)

-- ## 4. The keys of a setup are lent in order, and no others

abbrev pub NoKeyIsLessThanOneBeforeIt : Type 0
NoKeyIsLessThanOneBeforeIt = (c : List ℕ) (i j : ℕ) → i ≤ j → j < length (keys_of c) → slice_index (keys_of c) i ≤ slice_index (keys_of c) j

-- how often a key is there
unfoldable pub times_of : ℕ → List ℕ → ℕ
times_of key [] = 0
times_of key (k ∷ ks) = pick (k == key) (suc (times_of key ks)) (times_of key ks)

abbrev pub EachKeyIsThereAsOftenAsInTheSetup : Type 0
EachKeyIsThereAsOftenAsInTheSetup = (c : List ℕ) (key : ℕ) → times_of key (keys_of c) ≡ times_of key (tabulate (key_in c) 0 (keys_count c))

-- ## 5. A call of mending

-- A call takes octets of its piece from the front, and one at least where there are any and both lines have room for a field.
abbrev pub AMendingCallWithRoomTakesSomething : Type 0
AMendingCallWithRoomTakesSomething = (m : Mending) (s : List ℕ) (l : Lines) → 0 < length s → have_room l ≡ true → 0 < (mended_by m s l).taken

abbrev pub AMendingCallTakesNoMoreThanItIsOffered : Type 0
AMendingCallTakesNoMoreThanItIsOffered = (m : Mending) (s : List ℕ) (l : Lines) → (mended_by m s l).taken ≤ length s

-- Two results of `feed` on the same octets are the same.
abbrev pub MendFedDetermines : Type 0
MendFedDetermines =
    (m : Mending) (s : List ℕ) (l : Lines) (f g : Mended) (kept kept' state state' copy copy' list list' : List ℕ)
    → MendFed m s l f kept state copy list
    → MendFed m s l g kept' state' copy' list'
    → (f ≡ g) × (kept ≡ kept') × (state ≡ state') × (copy ≡ copy') × (list ≡ list')

-- ## Listed: the worked example of §5, and no octets at all

abbrev pub example_octets : List ℕ
example_octets = 0 ∷ 0 ∷ 12 ∷ 0 ∷ 0 ∷ 0 ∷ 0 ∷ 19 ∷ 136 ∷ 19 ∷ 136 ∷ 0 ∷ 0 ∷ 0 ∷ 3 ∷ 7 ∷ 0 ∷ 4 ∷ 0 ∷ 0 ∷ 0 ∷ 10 ∷ []

-- 1 0 0 0 and 2 7 0 0
abbrev pub TheWorkedExample : Type 0
TheWorkedExample = replay_of example_octets ≡ header ++ (49 ∷ 32 ∷ 48 ∷ 32 ∷ 48 ∷ 32 ∷ 48 ∷ 10 ∷ 50 ∷ 32 ∷ 55 ∷ 32 ∷ 48 ∷ 32 ∷ 48 ∷ 10 ∷ [])

abbrev pub EmptyInputPrintsTheHeaderAlone : Type 0
EmptyInputPrintsTheHeaderAlone = replay_of [] ≡ header
