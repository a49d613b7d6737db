-- The kinds of the fields of NT/N Rest Octets, laid out as nch's grammar is, and the fields that are met in a message. Assumes nothing.
use Rattle.std.specs.Prelude.{List, [], ◌∷◌, ℕ, length, eqb}
use Rattle.bits.specs.Field.{pick}
use Rattle.nch.specs.Octets.{rest_octets}
use Rattle.trace.specs.Fields.{Met, Kinds, one, row, pair, led, met_of}
use Rattle.trace.specs.Names.{nln_given, nln, call_given, release6_given, count_given, cell_global_count, reduced_given, reduced_reference, reduced_service_flag, random_given, segment_id, rand_given, vstk_rand, release7_given, emergency_mark_given, emergency_mark, uplink_given, uplink_access, amr_given, fr_amr_given, fr_amr_config, hr_amr_given, hr_amr_config, sms_given, sms_confidentiality, sms_privacy}
use Rattle.trace.specs.CallKinds.{call_kinds}

-- reduced
abbrev pub reduced_kinds : Kinds
reduced_kinds = row (reduced_reference ∷ reduced_service_flag ∷ [])

-- random
abbrev pub random_kinds : Kinds
random_kinds = pair (one segment_id) (led rand_given (one vstk_rand))

-- release6
abbrev pub release6_kinds : Kinds
release6_kinds = pair (led count_given (one cell_global_count)) (pair (led reduced_given reduced_kinds) (led random_given random_kinds))

-- amr
abbrev pub amr_kinds : Kinds
amr_kinds = pair (led fr_amr_given (one fr_amr_config)) (led hr_amr_given (one hr_amr_config))

-- sms_bits
abbrev pub sms_kinds : Kinds
sms_kinds = pair (one sms_confidentiality) (one sms_privacy)

-- release7
abbrev pub release7_kinds : Kinds
release7_kinds = pair (led emergency_mark_given (one emergency_mark)) (pair (led uplink_given (one uplink_access)) (pair (led amr_given amr_kinds) (led sms_given sms_kinds)))

-- rest_octets
abbrev pub nch_kinds : Kinds
nch_kinds = pair (led nln_given (one nln)) (pair (led call_given call_kinds) (pair (led release6_given release6_kinds) (led release7_given release7_kinds)))

-- of 20 octets the fields that are met; of others none
abbrev pub nch_met : List ℕ → List Met
nch_met s = pick (eqb (length s) 20) (met_of rest_octets nch_kinds s 0) []
