-- Where the numbers of NOTIFICATION/FACCH stand in an array: each place behind the one before it, as in src/places.rt. Assumes nothing.
use Rattle.std.specs.Prelude.{ℕ, ◌+◌, ◌-◌}
use Rattle.nch.specs.Places.{call_length}

-- the number of bits used, which a reader leaves and no writer looks at
abbrev pub used_at : ℕ
used_at = 0

-- a call or paging, and the call
abbrev pub paging_at : ℕ
paging_at = used_at + 1

abbrev pub call_at : ℕ
call_at = paging_at + 1

-- length of the mobile identity, its first octet, its other octets as one number, channel first, eMLPP priority there, eMLPP priority
abbrev pub identity_length_at : ℕ
identity_length_at = call_at + call_length

abbrev pub identity_first_at : ℕ
identity_first_at = identity_length_at + 1

abbrev pub identity_rest_at : ℕ
identity_rest_at = identity_first_at + 1

abbrev pub channel_first_at : ℕ
channel_first_at = identity_rest_at + 1

abbrev pub prioritized_at : ℕ
prioritized_at = channel_first_at + 1

abbrev pub priority_at : ℕ
priority_at = prioritized_at + 1

-- Release 6 there, count there, CELL_GLOBAL_COUNT, B22_COUNT, VSTK_RAND there, VSTK_RAND
abbrev pub release6_at : ℕ
release6_at = priority_at + 1

abbrev pub counted_at : ℕ
counted_at = release6_at + 1

abbrev pub cellcount_at : ℕ
cellcount_at = counted_at + 1

abbrev pub b22_at : ℕ
b22_at = cellcount_at + 1

abbrev pub random_at : ℕ
random_at = b22_at + 1

abbrev pub rand_at : ℕ
rand_at = random_at + 1

-- Release 7 there, Priority Uplink Access, emergency, Paging Cause there, Paging Cause
abbrev pub release7_at : ℕ
release7_at = rand_at + 1

abbrev pub uplink_at : ℕ
uplink_at = release7_at + 1

abbrev pub emergency_at : ℕ
emergency_at = uplink_at + 1

abbrev pub caused_at : ℕ
caused_at = emergency_at + 1

abbrev pub cause_at : ℕ
cause_at = caused_at + 1

-- how many numbers there are
abbrev pub all_length : ℕ
all_length = cause_at + 1 - used_at
