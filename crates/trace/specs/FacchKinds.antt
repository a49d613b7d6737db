-- The kinds of the fields of NOTIFICATION/FACCH, laid out as facch's grammar is, and the fields that are met in a message. Assumes nothing.
use Rattle.std.specs.Prelude.{List, [], ◌∷◌, ℕ, length, leb}
use Rattle.bits.specs.Field.{both, pick}
use Rattle.facch.specs.Message.{message}
use Rattle.trace.specs.Fields.{Met, Kinds, one, row, pair, led, choice, met_of}
use Rattle.trace.specs.Names as names
use Rattle.trace.specs.CallKinds.{call_kinds}

-- identity
abbrev pub identity_kinds : Kinds
identity_kinds = pair (one names.identity_octets) (row (names.identityFirst ∷ names.identityRest ∷ []))

-- paging
abbrev pub paging_kinds : Kinds
paging_kinds = pair identity_kinds (pair (one names.channelFirst) (led names.emlpp_priority_given (one names.emlpp_priority)))

-- counts
abbrev pub counts_kinds : Kinds
counts_kinds = pair (one names.cell_global_count) (one names.b22_count)

-- release6
abbrev pub release6_kinds : Kinds
release6_kinds = pair (led names.count_given counts_kinds) (led names.rand_given (one names.vstk_rand))

-- release7
abbrev pub release7_kinds : Kinds
release7_kinds = pair (one names.uplink_access) (pair (one names.emergency) (led names.paging_cause_given (one names.paging_cause)))

-- message
abbrev pub facch_kinds : Kinds
facch_kinds =
    pair (one names.first_octet) (pair (choice names.paging call_kinds paging_kinds) (pair (led names.release6_given release6_kinds) (led names.release7_given release7_kinds)))

-- of 2 to 23 octets the fields that are met; of others none
abbrev pub facch_met : List ℕ → List Met
facch_met s = pick (both (leb 2 (length s)) (leb (length s) 23)) (met_of message facch_kinds s 0) []
