-- What every refusal of an event keeps to: number 0 is none, and its result tells number and bit. Assumes nothing.
use mathlib.Core.Path.{◌≡◌, refl}
use mathlib.Core.List.{List}
use mathlib.Core.Bool.{Bool, true, false}
use Prim.Native.Nat.{ℕ, ◌/◌, ◌%◌, ◌<◌}
use native.Mathlib.Omega.{arith}
use lib.ListN.{length}
use lib.Dec.{leb, eqb}
use Rattle.bits.specs.Field.{pick}
use Rattle.csn1.specs.declared.Refusal.{Refusal}
use Rattle.csn1.specs.Format.{no_refusal, ground}
use Rattle.csn1.specs.Told.{code_of}
use Rattle.nch.proofs.Clips.{not_refused-at-all as nch-accepted, told_by_result as nch-told}
use Rattle.facch.proofs.Clips.{not_refused-at-all as facch-accepted, told_by_result as facch-told}
use Rattle.pch.specs.Entry.{entry_length, key_is_low, length_right, hops_right, in_range, ground_in, read_of}
use Rattle.receiver.specs.declared.Receiver.{Receiver}
use Rattle.receiver.specs.Model.{last_key, late}
use Rattle.receiver.specs.Step.{Happening, heardNch, heardFacch, heard_pch, joins, moves, bit_is, passes, Event, grounds_of, refusal_of}

pub record Sound (r : Refusal) : Type 0 where
  pub clean : r.number ≡ 0 → r ≡ no_refusal
  pub number : code_of r % 256 ≡ r.number
  pub bit : code_of r / 256 ≡ r.bit

none-sound : Sound no_refusal
unfolding code_of
none-sound = record { clean = λ z. refl; number = refl; bit = refl }

ground-sound : (m : ℕ) → 0 < m → m < 256 → Sound (ground m)
unfolding code_of ground
ground-sound m l h = record { clean = λ z. absurd (omega arith); number = omega arith; bit = omega arith }

pick-sound : (b : Bool) (x y : Refusal) → Sound x → Sound y → Sound (pick b x y)
pick-sound true x y f g = f
pick-sound false x y f g = g

pch-sound : (ns : List ℕ) → Sound (read_of ns).refusal
unfolding read_of ground_in
pch-sound ns =
    pick-sound (eqb (length ns) entry_length) _ _
    (pick-sound (key_is_low ns) _ _
    (pick-sound (length_right ns) _ _
    (pick-sound (hops_right ns) _ _ (pick-sound (in_range ns) _ _ none-sound (ground-sound 12 (omega arith) (omega arith))) (ground-sound 5 (omega arith) (omega arith)))
    (ground-sound 3 (omega arith) (omega arith)))
    (ground-sound 4 (omega arith) (omega arith)))
    (ground-sound 13 (omega arith) (omega arith))

pub grounds-sound : (h : Happening) → Sound (grounds_of h)
grounds-sound (heardNch s) = record { clean = nch-accepted s; number = (nch-told s).0; bit = (nch-told s).1 }
grounds-sound (heardFacch s) = record { clean = facch-accepted s; number = (facch-told s).0; bit = (facch-told s).1 }
grounds-sound (heard_pch ns) = pch-sound ns
grounds-sound (joins k) = pick-sound (leb k last_key) no_refusal (ground 4) none-sound (ground-sound 4 (omega arith) (omega arith))
grounds-sound (moves m) = none-sound
grounds-sound (bit_is b) = pick-sound (leb b 1) no_refusal (ground 12) none-sound (ground-sound 12 (omega arith) (omega arith))
grounds-sound passes = none-sound

pub refusal-sound : (r : Receiver) (e : Event) → Sound (refusal_of r e)
unfolding refusal_of
refusal-sound r e = pick-sound (late e.tick r.tick) (ground 9) (grounds_of e.happening) (ground-sound 9 (omega arith) (omega arith)) (grounds-sound e.happening)
