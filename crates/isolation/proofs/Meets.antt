-- What an entry meets at a place of the receiver is what it meets at the one-call receiver's half. Assumes nothing.
use mathlib.Core.Path.{◌≡◌, refl, ap}
use mathlib.Core.Bool.{Bool, true, false, not}
use mathlib.Core.Option.{none, some}
use Prim.Native.Nat.{ℕ, zero, suc, ◌^◌, ◌≤◌, ◌<◌}
use native.Mathlib.Omega.{arith}
use lib.Dec.{eqb}
use Rattle.bits.specs.Field.{both, pick}
use Rattle.csn1.specs.Told.{there}
use Rattle.receiver.specs.declared.Record.{Record}
use Rattle.receiver.specs.declared.Slot.{Slot}
use Rattle.receiver.specs.declared.Met.{Met}
use Rattle.receiver.specs.Channels.{Channel, number_of, leads}
use Rattle.receiver.specs.Model.{empty_slot, wrap_sub, class_of, is_ciphered, agree, joined_of, only, complete, storing, meet_half, meet_of}
use Rattle.isolation.specs.One.{has_segments, may_lead, Kind, clear, piece, first, second, bare, unusable, with_segments, without_segments, kind_on}
use Rattle.isolation.specs.One.{theFirst, theSecond, Half, Heard, says, new_half, met, meet_kind, meet_one}
use Rattle.isolation.specs.Promises.{half_of, held_of}
use Rattle.isolation.proofs.Tables.{asks-same, leads-same}
use Rattle.isolation.proofs.Clock.{ageless}

-- ## What an entry is: the tests against the tables

-- the number of a kind among the receiver's classes
abbrev class_number : Kind → ℕ
class_number clear = 1
class_number piece = 2
class_number first = 3
class_number second = 4
class_number bare = 6
class_number unusable = 7

-- from whether it is clear, in one piece, a first half, a second half, without a channel
abbrev tested : Bool → Bool → Bool → Bool → Bool → ℕ
tested a b c d e = pick a 1 (pick b 2 (pick c 3 (pick d 4 (pick e 6 7))))

-- ciphered, described, VSTK_RAND there, Segment Id as a first half and as a second half must have it, a call
abbrev tests : Bool → Bool → Bool → Bool → Bool → Bool → ℕ
tests y d g s t f =
    tested (both (not y) d) (both y (both d (both g s))) (both y (both d (both (not g) s))) (both y (both (not d) (both g t))) (both f (not d))

described : (f : Bool) → ◌≡◌ {A = ℕ} (pick (both f false) 6 7) 7
described true = refl
described false = refl

-- o: Segment Id is there, s: it is 1
nch-table : (y d o s g f : Bool) → tests y d g (both o (not s)) (both o s) f ≡ class_number (with_segments y d (there o s) g f)
nch-table false true o s g f = refl
nch-table false false o s g true = refl
nch-table false false o s g false = refl
nch-table true true false s true f = described f
nch-table true true false s false f = described f
nch-table true true true true true f = described f
nch-table true true true true false f = described f
nch-table true true true false true f = refl
nch-table true true true false false f = refl
nch-table true false false s true true = refl
nch-table true false false s true false = refl
nch-table true false false s false true = refl
nch-table true false false s false false = refl
nch-table true false true true true f = refl
nch-table true false true true false true = refl
nch-table true false true true false false = refl
nch-table true false true false true true = refl
nch-table true false true false true false = refl
nch-table true false true false false true = refl
nch-table true false true false false false = refl

facch-table : (y d g f : Bool) → tests y d g true true f ≡ class_number (without_segments y d g f)
facch-table false true g f = refl
facch-table false false g true = refl
facch-table false false g false = refl
facch-table true true true f = refl
facch-table true true false f = refl
facch-table true false true f = refl
facch-table true false false true = refl
facch-table true false false false = refl

class_kind : (c : Channel) (e : Record) → class_of (number_of c) e ≡ class_number (kind_on c e)
unfolding class_of kind_on
class_kind c e = rw (asks-same c) (by_segments (has_segments c))
  where
    by_segments : (b : Bool)
        → tests (is_ciphered e) e.call.hasDescription e.hasRandom (pick b (both e.hasSegment (not e.segment)) true) (pick b (both e.hasSegment e.segment) true) e.full
        ≡ class_number
        (pick b (with_segments (is_ciphered e) e.call.hasDescription (there e.hasSegment e.segment) e.hasRandom e.full) (without_segments (is_ciphered e) e.call.hasDescription e.hasRandom e.full))
    by_segments true = nch-table (is_ciphered e) e.call.hasDescription e.hasSegment e.segment e.hasRandom e.full
    by_segments false = facch-table (is_ciphered e) e.call.hasDescription e.hasRandom e.full

-- ## What an entry meets

abbrev pub heard_of : ℕ → Met → Heard
heard_of now m = record { number = m.number; told = m.told; held = held_of now m.held }

-- what is met by its class
abbrev meet_class : ℕ → ℕ → ℕ → Slot → Record → Met
meet_class n ch now s e =
    pick (eqb n 1) (complete 1 e s)
    (pick (eqb n 2) (complete 2 e s)
    (pick (eqb n 3) (meet_half 1 s e (joined_of e s.«record») (only 4 (storing 1 now e)))
    (pick (eqb n 4) (meet_half 2 s e (joined_of s.«record» e) (pick (leads ch) (only 4 (storing 2 now e)) (only 8 s))) (only n s))))

-- the opposite half is held: do they agree?
opposite : (now : ℕ) (w : Bool) (j : Record) (n since : ℕ) (x : Record) (h : Half)
    → half_of n (wrap_sub now since) x ≡ some h
    → heard_of now (pick w (complete 3 j empty_slot) (only 7 (storing n since x))) ≡ met w j h
opposite now true j n since x h e = refl
opposite now false j n since x h e = ap (says 7) e

-- of a first half, and of a second half
met-first : (c : Channel) (now n since : ℕ) (x e : Record) → n ≤ 2
    → heard_of now (meet_class 3 (number_of c) now (storing n since x) e) ≡ meet_kind c first (half_of n (wrap_sub now since) x) e
met-first c now zero since x e l = ap (λ (a : ℕ). says 4 (some (record { which = theFirst; age = a; entry = e }))) (ageless now)
met-first c now (suc zero) since x e l = refl
met-first c now (suc (suc zero)) since x e l = opposite now (agree x e) (joined_of e x) 2 since x _ refl
met-first c now (suc (suc (suc n))) since x e l = absurd (omega arith)

met-second : (c : Channel) (now n since : ℕ) (x e : Record) → n ≤ 2
    → heard_of now (meet_class 4 (number_of c) now (storing n since x) e) ≡ meet_kind c second (half_of n (wrap_sub now since) x) e
met-second c now zero since x e l = rw (leads-same c) (early (may_lead c))
  where
    early : (b : Bool) → heard_of now (pick b (only 4 (storing 2 now e)) (only 8 (storing 0 since x))) ≡ pick b (says 4 (new_half theSecond e)) (says 8 none)
    early true = ap (λ (a : ℕ). says 4 (some (record { which = theSecond; age = a; entry = e }))) (ageless now)
    early false = refl
met-second c now (suc zero) since x e l = opposite now (agree x e) (joined_of x e) 1 since x _ refl
met-second c now (suc (suc zero)) since x e l = refl
met-second c now (suc (suc (suc n))) since x e l = absurd (omega arith)

met-kind : (c : Channel) (k : Kind) (now : ℕ) (s : Slot) (e : Record) → s.half ≤ 2
    → heard_of now (meet_class (class_number k) (number_of c) now s e) ≡ meet_kind c k (held_of now s) e
met-kind c clear now s e l = refl
met-kind c piece now s e l = refl
met-kind c first now s e l = met-first c now s.half s.since s.«record» e l
met-kind c second now s e l = met-second c now s.half s.since s.«record» e l
met-kind c bare now s e l = refl
met-kind c unusable now s e l = refl

pub meet_same : (c : Channel) (now : ℕ) (s : Slot) (e : Record) → s.half ≤ 2 → heard_of now (meet_of (number_of c) now s e) ≡ meet_one c (held_of now s) e
unfolding meet_of meet_one
meet_same c now s e l = rw (class_kind c e) (met-kind c (kind_on c e) now s e l)

-- ## What a place may hold

-- a half that is there is younger than its timer
pub record Sound (now timer : ℕ) (s : Slot) : Type 0 where
  pub half : s.half ≤ 2
  pub since : s.since < 2 ^ 32
  pub young : (s.half ≡ 0 → ⊥) → wrap_sub now s.since < timer

pub empty-sound : (now timer : ℕ) → Sound now timer empty_slot
empty-sound now timer = record { half = omega arith; since = omega arith; young = λ n. absurd (n refl) }

storing-sound : (now timer half : ℕ) (e : Record) → half ≤ 2 → now < 2 ^ 32 → 1 ≤ timer → Sound now timer (storing half now e)
storing-sound now timer half e h t l = record { half = h; since = t; young = λ n. omega (arith, ageless now) }

module _ (now timer : ℕ) (t : now < 2 ^ 32) (l : 1 ≤ timer) where
  opposite-sound : (w : Bool) (j : Record) (s : Slot) → Sound now timer s → Sound now timer (pick w (complete 3 j empty_slot) (only 7 s)).held
  opposite-sound true j s p = empty-sound now timer
  opposite-sound false j s p = p

  first-sound : (c : Channel) (n since : ℕ) (x e : Record) → Sound now timer (storing n since x)
      → Sound now timer (meet_class 3 (number_of c) now (storing n since x) e).held
  first-sound c zero since x e p = storing-sound now timer 1 e (omega arith) t l
  first-sound c (suc zero) since x e p = p
  first-sound c (suc (suc zero)) since x e p = opposite-sound (agree x e) (joined_of e x) (storing 2 since x) p
  first-sound c (suc (suc (suc n))) since x e p = absurd (omega (arith, p.half))

  second-sound : (c : Channel) (n since : ℕ) (x e : Record) → Sound now timer (storing n since x)
      → Sound now timer (meet_class 4 (number_of c) now (storing n since x) e).held
  second-sound c zero since x e p = early (leads (number_of c))
    where
      early : (b : Bool) → Sound now timer (pick b (only 4 (storing 2 now e)) (only 8 (storing zero since x))).held
      early true = storing-sound now timer 2 e (omega arith) t l
      early false = p
  second-sound c (suc zero) since x e p = opposite-sound (agree x e) (joined_of x e) (storing 1 since x) p
  second-sound c (suc (suc zero)) since x e p = p
  second-sound c (suc (suc (suc n))) since x e p = absurd (omega (arith, p.half))

  kind-sound : (c : Channel) (k : Kind) (s : Slot) (e : Record) → Sound now timer s → Sound now timer (meet_class (class_number k) (number_of c) now s e).held
  kind-sound c clear s e p = p
  kind-sound c piece s e p = p
  kind-sound c first s e p = first-sound c s.half s.since s.«record» e p
  kind-sound c second s e p = second-sound c s.half s.since s.«record» e p
  kind-sound c bare s e p = p
  kind-sound c unusable s e p = p

  pub meet_sound : (c : Channel) (s : Slot) (e : Record) → Sound now timer s → Sound now timer (meet_of (number_of c) now s e).held
  unfolding meet_of
  meet_sound c s e p = rw (class_kind c e) (kind-sound c (kind_on c e) s e p)
