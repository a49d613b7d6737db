-- What an entry is and what it meets, by cases: a law for each return of `meeting`. Assumes nothing.
use mathlib.Core.Path.{◌≡◌, refl, sym}
use mathlib.Core.Bool.{Bool, true, false, not}
use mathlib.Core.Logic.{◌⊎◌, inl, inr}
use Prim.Native.Nat.{ℕ, zero, suc, ◌-◌, ◌<◌}
use native.Mathlib.Omega.{arith}
use lib.Dec.{eqb}
use borrow.Author.Tests.{eq-eqb, ne_eqb}
use Rattle.bits.specs.Field.{both, pick}
use Rattle.csn1.specs.Told.{as_bit}
use Rattle.call.specs.declared.Call.{Call}
use Rattle.receiver.specs.declared.Record.{Record}
use Rattle.receiver.specs.declared.Slot.{Slot}
use Rattle.receiver.specs.Channels.{leads}
use Rattle.receiver.specs.Model.{is_ciphered, segment_is, is_clear, is_whole, is_first, is_second, is_bare, class_of, same_reference, joined_of, only, complete, storing, meet_half, meet_of}

-- ## What an entry is

-- the class by its tests: ciphered, described, with VSTK_RAND, Segment Id 0, Segment Id 1, a full reference
abbrev class_by : Bool → Bool → Bool → Bool → Bool → Bool → ℕ
class_by c d g z o f =
    pick (both (not c) d) 1
    (pick (both c (both d (both g z))) 2 (pick (both c (both d (both (not g) z))) 3 (pick (both c (both (not d) (both g o))) 4 (pick (both f (not d)) 6 7))))

by-described : (c d g z o f : Bool) → d ≡ true → class_by c d g z o f ≡ pick c (pick z (pick g 2 3) 7) 1
by-described false true g z o f e = refl
by-described true true true true o f e = refl
by-described true true false true o f e = refl
by-described true true true false o true e = refl
by-described true true true false o false e = refl
by-described true true false false o true e = refl
by-described true true false false o false e = refl
by-described c false g z o f e = cc

by_bare : (c d g z o f : Bool) → d ≡ false → class_by c d g z o f ≡ pick (both c (both (not d) (both g o))) 4 (pick f 6 7)
by_bare true false g z o true e = refl
by_bare true false g z o false e = refl
by_bare false false g z o true e = refl
by_bare false false g z o false e = refl
by_bare c true g z o f e = cc

by_least : (a b c d f : Bool) → 0 < pick a 1 (pick b 2 (pick c 3 (pick d 4 (pick f 6 7))))
by_least true b c d f = omega arith
by_least false true c d f = omega arith
by_least false false true d f = omega arith
by_least false false false true f = omega arith
by_least false false false false true = omega arith
by_least false false false false false = omega arith

-- an entry with a description
pub described_class : (ch : ℕ) (e : Record) → e.call.hasDescription ≡ true
    → class_of ch e ≡ pick (is_ciphered e) (pick (segment_is ch false e) (pick e.hasRandom 2 3) 7) 1
unfolding class_of
described_class ch e d = by-described (is_ciphered e) e.call.hasDescription e.hasRandom (segment_is ch false e) (segment_is ch true e) e.full d

-- an entry without one
pub bare_class : (ch : ℕ) (e : Record) → e.call.hasDescription ≡ false → class_of ch e ≡ pick (is_second ch e) 4 (pick e.full 6 7)
unfolding class_of
bare_class ch e d = by_bare (is_ciphered e) e.call.hasDescription e.hasRandom (segment_is ch false e) (segment_is ch true e) e.full d

-- no class is 0
pub class_least : (ch : ℕ) (e : Record) → 0 < class_of ch e
unfolding class_of
class_least ch e = by_least (is_clear e) (is_whole ch e) (is_first ch e) (is_second ch e) (is_bare e)

-- ## What it meets

-- where four of the five fields are the same, the fifth decides
pub same-last : (a b : Call) → a.reference ≡ b.reference → as_bit a.vgcs ≡ as_bit b.vgcs → as_bit a.acknowledged ≡ as_bit b.acknowledged
    → a.priority ≡ b.priority → eqb a.cipher b.cipher ≡ same_reference a b
same-last a b r v k p =
    simp (
      eq-eqb a.reference b.reference r,
      eq-eqb (as_bit a.vgcs) (as_bit b.vgcs) v,
      eq-eqb (as_bit a.acknowledged) (as_bit b.acknowledged) k,
      eq-eqb a.priority b.priority p,
    )

module _ (ch now : ℕ) (s : Slot) (e : Record) where
  -- complete as it comes
  pub meet_whole : (c : ℕ) → c ≡ class_of ch e → c < 3 → complete c e s ≡ meet_of ch now s e
  unfolding meet_of
  meet_whole zero k h = absurd (omega (arith, class_least ch e))
  meet_whole (suc zero) k h = simp (sym k)
  meet_whole (suc (suc zero)) k h = simp (sym k)
  meet_whole (suc (suc (suc c))) k h = absurd (omega arith)

  -- neither complete nor a half
  pub meet_none : (c : ℕ) → c ≡ class_of ch e → 4 < c → only c s ≡ meet_of ch now s e
  unfolding meet_of
  meet_none c k h =
      simp (sym k, ne_eqb c 1 (λ q. omega arith), ne_eqb c 2 (λ q. omega arith), ne_eqb c 3 (λ q. omega arith), ne_eqb c 4 (λ q. omega arith))

  -- a first half where a half is held
  pub meet_first : 3 ≡ class_of ch e → (s.half ≡ 0 → ⊥) → meet_half 1 s e (joined_of e s.«record») (only 4 s) ≡ meet_of ch now s e
  unfolding meet_of
  meet_first k h = simp (sym k, ne_eqb s.half 0 h)

  -- a second half where a half is held
  pub meet_second : 4 ≡ class_of ch e → (s.half ≡ 0 → ⊥) → meet_half 2 s e (joined_of s.«record» e) (only 4 s) ≡ meet_of ch now s e
  unfolding meet_of
  meet_second k h = simp (sym k, ne_eqb s.half 0 h)

  -- a second half that may not come first where none is held
  pub meet_early : 4 ≡ class_of ch e → s.half ≡ 0 → leads ch ≡ false → only 8 s ≡ meet_of ch now s e
  unfolding meet_of
  meet_early k h f = rw (sym k, eq-eqb s.half 0 h, f)

  -- a half that is stored
  pub meet_stored : (c : ℕ) → c ≡ class_of ch e → s.half ≡ 0 → (c ≡ 3) ⊎ ((c ≡ 4) × (leads ch ≡ true)) → only 4 (storing (c - 2) now e) ≡ meet_of ch now s e
  unfolding meet_of
  meet_stored c k h (inl q) = simp (sym k, q, eq-eqb s.half 0 h)
  meet_stored c k h (inr q) = rw (sym k, q.0, eq-eqb s.half 0 h, q.1)
