-- Call state (44.068, 9.4.2), a half octet. Assumes nothing.
use Rattle.std.specs.Prelude.{List, [], ◌∷◌, ℕ, leb}
use Prim.Native.String.{String}
use Rattle.bits.specs.Field.{pick}
use Rattle.gcc.specs.Octet.{with_number}
use Rattle.gcc.specs.declared.call_state.State.{State}
use Rattle.gcc.specs.declared.call_state.State.TheVariants.{U0, U1, U2sl, U3, U4, U5, U0p, U2wr, U2r, U2ws, U2sr, U2nc, Reserved}
use Rattle.gcc.specs.declared.call_state.Reading.{Reading}
use Rattle.gcc.specs.declared.call_state.Written.{Written}

-- table 9.3: N, and the state; 12 stands for the reserved 12 to 15
abbrev pub table : State → ℕ × String
table U0 = (0, "U0")
table U1 = (1, "U1")
table U2sl = (2, "U2sl")
table U3 = (3, "U3")
table U4 = (4, "U4")
table U5 = (5, "U5")
table U0p = (6, "U0.p")
table U2wr = (7, "U2wr")
table U2r = (8, "U2r")
table U2ws = (9, "U2ws")
table U2sr = (10, "U2sr")
table U2nc = (11, "U2nc")
table Reserved = (12, "reserved")

abbrev pub number_of : State → ℕ
number_of s = (table s).0

abbrev pub states : List State
states = U0 ∷ U1 ∷ U2sl ∷ U3 ∷ U4 ∷ U5 ∷ U0p ∷ U2wr ∷ U2r ∷ U2ws ∷ U2sr ∷ U2nc ∷ []

unfoldable pub state_of : ℕ → State
state_of n = with_number number_of states Reserved n

unfoldable pub read_of : ℕ → Reading
read_of h = pick (leb h 15) (record { refusal = 0; state = state_of h }) (record { refusal = 12; state = U0 })

-- reserved is not written
unfoldable pub written_of : State → Written
written_of s = pick (leb (number_of s) 11) (record { refusal = 0; half = number_of s }) (record { refusal = 12; half = 0 })
