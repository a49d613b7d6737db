-- What only private functions' contracts speak of; nothing public rests on it. Assumes nothing.
use Rattle.std.specs.Prelude.{◌≡◌, ℕ, suc, ◌+◌, ◌%◌, ◌<◌, ◌≤◌, Bool, true, false, List, [], ◌∷◌, length, take, drop, set, ◌==◌}
use Rattle.std.proofs.Math.Option.{Option}
use Rattle.bits.specs.Field.{pick}
use Rattle.receiver.specs.Step.{Event}
use Rattle.layout.specs.Layout.{decode_of, Last, last_of}
use Rattle.text.specs.Lines.{Line}
use Rattle.capture.specs.declared.answers.Answered.{Answered}
use Rattle.capture.specs.Capture.{Field, whole}
use Rattle.capture.specs.Replay.{Said, said_only, told, Stage, said_to, said_of, receiver_after, stage_after}
use Rattle.capture.specs.declared.Fed.{Fed}
use Rattle.capture.specs.declared.Mended.{Mended}
use Rattle.capture.specs.Mending.{Mending, mending_of, Lines, lines_of, more_mended, mended_by}
use Rattle.capture.specs.Machine.{Machine, machine_of, stage_in, octets_by, state_after, is_last, more, fed_by}

-- ## Octets gathered to a field

-- what is kept, how many octets were taken, whether the last of them ends the field, and how many the field has then, without that one
pub record Gathering : Type 0 where
  pub kept : List ℕ
  pub taken : ℕ
  pub whole : Bool
  pub have : ℕ

-- n octets more
abbrev pub further : ℕ → Gathering → Gathering
further n g = record { kept = g.kept; taken = n + g.taken; whole = g.whole; have = g.have }

unfoldable pub gathering : List ℕ → ℕ → List ℕ → Gathering
gathering kept got [] = record { kept = kept; taken = 0; whole = false; have = got }
gathering kept got (o ∷ s) =
    pick (is_last (set kept got o) got) (record { kept = set kept got o; taken = 1; whole = true; have = got }) (further 1 (gathering (set kept got o) (suc got) s))

-- ## An answer

-- what the lent state tells of a field that was accepted, and a number alone of one that was not
abbrev pub shown_by : ℕ → ℕ → Last → Said
shown_by tag n a =
    pick (n == 0) (record { tag = tag; refusal = 0; dropped = a.expired + a.dropped; entries = told (take a.count a.entries) }) (said_only tag n)

-- what the receiver in the lent octets answers to an event, or to none
pub record Heard (tag : ℕ) (x : Option Event) (l left : List ℕ) (code : ℕ) : Type 0 where
  pub said : shown_by tag (code % 256) (last_of left) ≡ said_to (decode_of l) tag x
  pub receiver : decode_of left ≡ receiver_after (decode_of l) x
  pub octets : left ≡ octets_by l x

-- a field's refusal, where the run stands then, and what the lent octets are read as
pub record Answers (f : Field) (st : Stage) (l : List ℕ) (a : Answered) (left : List ℕ) : Type 0 where
  pub said : shown_by f.tag a.refusal (last_of left) ≡ said_of (whole f) st
  pub stage : stage_in a.phase left ≡ stage_after (whole f) st
  pub octets : left ≡ state_after f st l

-- ## A step

-- octets of a piece are taken, one at least, and the rest is to be taken from there
pub record Stepped (m : Machine) (s : List ℕ) (l : Line) (f : Fed) (kept state out : List ℕ) : Type 0 where
  pub rest : fed_by m s l ≡ more f.taken (fed_by (machine_of f.replay kept state) (drop f.taken s) (record { octets = out; at = f.at }))
  pub any : 0 < f.taken
  pub within : f.taken ≤ length s

pub record MendStepped (m : Mending) (s : List ℕ) (l : Lines) (f : Mended) (kept state copy list : List ℕ) : Type 0 where
  pub rest : mended_by m s l ≡ more_mended f.taken (mended_by (mending_of f.mend kept state) (drop f.taken s) (lines_of copy list f))
  pub any : 0 < f.taken
  pub within : f.taken ≤ length s
