-- The sweep in place: the octets that it leaves, exactly. Assumes nothing.
use Rattle.std.specs.Prelude.{List, Bool, true, ℕ, zero, suc, ◌+◌}
use Rattle.bits.specs.Field.{pick}
use Rattle.receiver.specs.declared.Rule.{Rule}
use Rattle.receiver.specs.Channels.{places, side_of, by_number_of}
use Rattle.receiver.specs.Model.{empty_slot, ran_out_of, taken_of}
use Rattle.layout.specs.Octets.{le_at}
use Rattle.layout.specs.Layout.{timers_from, slot_no, put_slot}

-- the timer that runs at a place
abbrev pub timer_no : List ℕ → ℕ → ℕ
timer_no l i = by_number_of (side_of i) (le_at 4 l timers_from) (le_at 4 l (timers_from + 4)) (le_at 4 l (timers_from + 8))

-- a half that ran out, or that the rule takes, leaves its place all zero
abbrev pub goes : List ℕ → ℕ → Rule → ℕ → Bool
goes l now rule i = pick (ran_out_of now (timer_no l i) (slot_no l i)) true (taken_of now (timer_no l i) rule i (slot_no l i))

unfoldable pub swept_at : ℕ → Rule → List ℕ → ℕ → List ℕ
swept_at now rule l i = pick (goes l now rule i) (put_slot l i empty_slot) l

-- n places from a place on, one after the other
unfoldable pub swept_run : ℕ → Rule → ℕ → ℕ → List ℕ → List ℕ
swept_run now rule from zero l = l
swept_run now rule from (suc n) l = swept_at now rule (swept_run now rule from n l) (from + n)

abbrev pub swept_octets : ℕ → Rule → List ℕ → List ℕ
swept_octets now rule l = swept_run now rule 0 places l
