-- Message type (44.068, 9.3). Assumes nothing.
use Rattle.std.specs.Prelude.{List, [], ◌∷◌, Bool, false, ℕ, ◌+◌, ◌*◌, ◌/◌, ◌%◌, eqb}
use Prim.Native.String.{String}
use Rattle.bits.specs.Field.{pick}
use Rattle.gcc.specs.Octet.{is_set, unit, with_number}
use Rattle.gcc.specs.declared.message_type.Kind.{Kind}
use Rattle.gcc.specs.declared.message_type.Kind.TheVariants.{ImmediateSetup, Setup, Connect, Termination, TerminationRequest, TerminationReject, Status, GetStatus, SetParameter, ImmediateSetup2, Nothing}
use Rattle.gcc.specs.declared.message_type.Reading.{Reading}
use Rattle.gcc.specs.declared.message_type.Written.{Written}

-- table 9.1: bits 8 to 1, with 0 for x, and the message; what is refused has no message, and the number 0
abbrev pub table : Kind → ℕ × String
table ImmediateSetup = (0x31, "IMMEDIATE SETUP")
table Setup = (0x32, "SETUP")
table Connect = (0x33, "CONNECT")
table Termination = (0x34, "TERMINATION")
table TerminationRequest = (0x35, "TERMINATION REQUEST")
table TerminationReject = (0x36, "TERMINATION REJECT")
table Status = (0x38, "STATUS")
table GetStatus = (0x39, "GET STATUS")
table SetParameter = (0x3a, "SET PARAMETER")
table ImmediateSetup2 = (0x3b, "IMMEDIATE SETUP 2")
table Nothing = (0, "")

abbrev pub number_of : Kind → ℕ
number_of k = (table k).0

abbrev pub kinds : List Kind
kinds =
    ImmediateSetup
    ∷ Setup
    ∷ Connect
    ∷ Termination
    ∷ TerminationRequest
    ∷ TerminationReject
    ∷ Status
    ∷ GetStatus
    ∷ SetParameter
    ∷ ImmediateSetup2
    ∷ []

-- the message with a number, or nothing
unfoldable pub kind_of : ℕ → Kind
kind_of n = with_number number_of kinds Nothing n

-- an unknown message is 12
abbrev pub told : Bool → Kind → Reading
told s k = pick (eqb (number_of k) 0) (record { refusal = 12; sequence = false; kind = Nothing }) (record { refusal = 0; sequence = s; kind = k })

-- bit 7 is the send sequence number, and the other bits say the message
unfoldable pub read_of : ℕ → Reading
read_of o = told (is_set 7 o) (kind_of (o / 128 * 128 + o % 64))

unfoldable pub written_of : Bool → Kind → Written
written_of s k = pick (eqb (number_of k) 0) (record { refusal = 12; octet = 0 }) (record { refusal = 0; octet = unit s * 64 + number_of k })
