-- One test of a row: every field of its answer is the outcome's. Assumes nothing.
use mathlib.Core.List.{List, [], ◌∷◌}
use mathlib.Core.Bool.{Bool, true, not}
use lib.Dec.{eqb}
use lib.Text.{eqt}
use Rattle.bits.specs.Field.{both}
use Rattle.csn1.specs.Format.{no_refusal, ground}
use Rattle.nch.specs.Told.{read_of}
use Rattle.receiver.specs.declared.Started.{Started}
use Rattle.receiver.specs.Model.{wrap_sub}
use Rattle.gcc.specs.Cause as cause
use Rattle.gcc.specs.Digits as digits
use Rattle.listed.specs.Listed.{ListedRow, nch-octets, nch-length, ticks, step, halves, cause-octets, digit-octets, set_up, first_at, second_at, ticked, silent}
use Rattle.listed.proofs.Fields.{same, of_reading, of_answer, of_cause, of_digits}

abbrev pub is_up : Started → Bool
is_up s = eqb s.refusal.number 0

abbrev pub test : ListedRow → Bool
test (nch-octets s r) = same (of_reading (read_of s)) (of_reading r)
test (nch-length n m) = both (not (eqb n 20)) (eqb m 1)
test (ticks last now d) =
    both (is_up (set_up last 5000)) (both (eqb (wrap_sub now last) d) (same (of_answer (ticked last now)) (of_answer (silent no_refusal now))))
test (step d n) = both (is_up (set_up 0 5000)) (same (of_answer (ticked 0 d)) (of_answer (silent (ground n) 0)))
test (halves t3206 a x b y) =
    both (is_up (set_up 0 t3206)) (both (same (of_answer (first_at t3206 a)) (of_answer x)) (same (of_answer (second_at t3206 a b)) (of_answer y)))
test (cause-octets s r w) = both (same (of_cause (cause.read_of s)) (of_cause r)) (eqt (cause.words_of (cause.read_of s).meaning) w)
test (digit-octets s r) = same (of_digits (digits.read_of s)) (of_digits r)

abbrev pub all : List ListedRow → Bool
all [] = true
all (r ∷ l) = both (test r) (all l)
