-- Where the numbers of NT/N Rest Octets stand in an array: each place behind the one before it, as in src/places.rt. Assumes nothing.
use Rattle.std.specs.Prelude.{ℕ, ◌+◌, ◌-◌, ◌*◌}

-- the number of bits used, which a reader leaves and no writer looks at
abbrev pub used_at : ℕ
used_at = 0

-- NLN there, NLN, how many calls, and the calls
abbrev pub numbered_at : ℕ
numbered_at = used_at + 1

abbrev pub nln_at : ℕ
nln_at = numbered_at + 1

abbrev pub calls_at : ℕ
calls_at = nln_at + 1

abbrev pub first_call : ℕ
first_call = calls_at + 1

abbrev pub call_length : ℕ
call_length = 11

abbrev pub most_calls : ℕ
most_calls = 4

-- Release 6 there, count there, CELL_GLOBAL_COUNT, how many reduced references, these, how many random entries, these
abbrev pub release6_at : ℕ
release6_at = first_call + most_calls * call_length

abbrev pub counted_at : ℕ
counted_at = release6_at + 1

abbrev pub cellcount_at : ℕ
cellcount_at = counted_at + 1

abbrev pub reduceds_at : ℕ
reduceds_at = cellcount_at + 1

abbrev pub first_reduced : ℕ
first_reduced = reduceds_at + 1

abbrev pub reduced_length : ℕ
reduced_length = 2

abbrev pub most_reduceds : ℕ
most_reduceds = 5

abbrev pub randoms_at : ℕ
randoms_at = first_reduced + most_reduceds * reduced_length

abbrev pub first_random : ℕ
first_random = randoms_at + 1

abbrev pub random_length : ℕ
random_length = 3

abbrev pub most_randoms : ℕ
most_randoms = 9

-- Release 7 there, how many emergency marks, these, uplink there, Priority Uplink Access
abbrev pub release7_at : ℕ
release7_at = first_random + most_randoms * random_length

abbrev pub marks_at : ℕ
marks_at = release7_at + 1

abbrev pub first_mark : ℕ
first_mark = marks_at + 1

abbrev pub most_marks : ℕ
most_marks = 4

abbrev pub uplinked_at : ℕ
uplinked_at = first_mark + most_marks

abbrev pub uplink_at : ℕ
uplink_at = uplinked_at + 1

-- AMR there, FR AMR there, FR AMR Config, HR AMR there, HR AMR Config
abbrev pub amr_at : ℕ
amr_at = uplink_at + 1

abbrev pub fullrated_at : ℕ
fullrated_at = amr_at + 1

abbrev pub fullrate_at : ℕ
fullrate_at = fullrated_at + 1

abbrev pub halfrated_at : ℕ
halfrated_at = fullrate_at + 1

abbrev pub halfrate_at : ℕ
halfrate_at = halfrated_at + 1

-- SMS there, SMS Data Confidentiality Ind, SMS Guaranteed Privacy Ind
abbrev pub sms_at : ℕ
sms_at = halfrate_at + 1

abbrev pub confidential_at : ℕ
confidential_at = sms_at + 1

abbrev pub private_at : ℕ
private_at = confidential_at + 1

-- how many numbers there are
abbrev pub all_length : ℕ
all_length = private_at + 1 - used_at
