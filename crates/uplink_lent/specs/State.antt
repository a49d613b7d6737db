-- The uplink's state as lent octets: what any octets are read as, and what setup and events leave (docs/STATE.md). Assumes nothing.
use Rattle.std.specs.Prelude.{List, Bool, ℕ, ◌+◌, ◌*◌, length, replicate, eqb}
use Rattle.bits.specs.Field.{both, pick, field, set_field}
use Rattle.uplink.specs.declared.Uplink.{Uplink}
use Rattle.uplink.specs.declared.End.{End}
use Rattle.uplink.specs.declared.Told.{Told}
use Rattle.uplink.specs.declared.Answer.{Answer}
use Rattle.uplink.specs.declared.Setup.{Setup}
use Rattle.uplink.specs.Uplink.{Event, step_of, started_of}
use Rattle.uplink.specs.History.{Reply}
use Rattle.uplink.specs.Promises.{reply_of}

-- ## The layout

-- 16 octets: four numbers of 32 bits, the most significant octet first
abbrev pub uplink_length : ℕ
uplink_length = 16

abbrev pub is_uplink : List ℕ → Bool
is_uplink l = eqb (length l) uplink_length

unfoldable pub uplink_of : List ℕ → Uplink
uplink_of l = record { tick = field l 0 32; t3128 = field l 32 32; free = field l 64 32; wait = field l 96 32 }

unfoldable pub octets_of : Uplink → List ℕ
octets_of u = set_field (set_field (set_field (set_field (replicate uplink_length 0) 0 32 u.tick) 32 32 u.t3128) 64 32 u.free) 96 32 u.wait

-- ## A result

-- the numbers of the header's asternhaken_uplink_told
abbrev pub end_number : End → ℕ
end_number End.Nothing = 0
end_number End.Granted = 1
end_number End.Rejected = 2

abbrev pub told_number : Told → ℕ
told_number Told.Nothing = 0
told_number Told.Granted = 1
told_number Told.Waiting = 3
told_number Told.AlreadyWaiting = 4

-- the refusal in the low octet, what became of the request that waited in the second, what a new one is told in the third
abbrev pub result_of : Reply → ℕ
result_of r = r.refusal + end_number r.end * 256 + told_number r.told * 65536

-- ## Setup: 13 goes before 10

unfoldable pub setup_code : List ℕ → Setup → ℕ
setup_code l s = pick (is_uplink l) (started_of s).refusal 13

unfoldable pub setup_octets : List ℕ → Setup → List ℕ
setup_octets l s = pick (both (is_uplink l) (eqb (started_of s).refusal 0)) (octets_of (started_of s).uplink) l

-- ## An event: 13 goes before 9

abbrev pub answer_to : List ℕ → Event → Answer
answer_to l e = step_of (uplink_of l) e

unfoldable pub code_of : List ℕ → Event → ℕ
code_of l e = pick (is_uplink l) (result_of (reply_of (answer_to l e))) 13

unfoldable pub octets_after : List ℕ → Event → List ℕ
octets_after l e = pick (both (is_uplink l) (eqb (answer_to l e).refusal 0)) (octets_of (answer_to l e).uplink) l
