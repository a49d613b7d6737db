-- The receiver that a setup makes: good for each of its keys, and to each call as its own receiver at the start. Assumes nothing.
use mathlib.Core.Path.{◌≡◌, refl, ap}
use mathlib.Core.Bool.{Bool, true, false}
use mathlib.Core.List.{List, [], ◌∷◌}
use mathlib.Core.Option.{none}
use Prim.Native.Nat.{ℕ, zero, suc, ◌≤◌, ◌<◌}
use native.Mathlib.Omega.{arith}
use lib.Dec.{leb}
use lib.ListN.{length, get_or, replicate, length-replicate, get_or-replicate}
use borrow.Author.Tests.{leb-true, eqb-true}
use Rattle.bits.specs.Field.{pick}
use Rattle.csn1.specs.Format.{ground}
use Rattle.bits.proofs.Answers.{both_true}
use Rattle.receiver.specs.declared.Receiver.{Receiver}
use Rattle.receiver.specs.declared.Setup.{Setup}
use Rattle.receiver.specs.Channels.{key_count, places, Channel}
use Rattle.receiver.specs.Count.{sets_right}
use Rattle.receiver.specs.Step.{set_at}
use Rattle.receiver.specs.Halving.{first_of, rises}
use Rattle.receiver.specs.Model.{empty_slot, no_cell, keys_of, index_of, new_receiver, key_places, set_places, longest_timer, is_timer, all_low, keys_right, setup_right, started_of}
use Rattle.isolation.specs.One.{shows_nln, Known, unknown, fresh}
use Rattle.isolation.specs.Calls.{timer_of, set_under}
use Rattle.isolation.proofs.Meets.{empty-sound}
use Rattle.receiver.proofs.Cases.{by-test}
use Rattle.isolation.proofs.Standing.{place_at}
use Rattle.isolation.proofs.Places.{for_each, place_lt}
use Rattle.receiver.proofs.Keys.{lent-index}
use Rattle.receiver.proofs.KeyPlaces.{keys_there}
use Rattle.isolation.proofs.Cells.{known}
use Rattle.isolation.proofs.Isolation.{view, Good}

-- ## What is asked of a setup

pub record Right (s : Setup) (keys sets : List ℕ) : Type 0 where
  pub few : length keys ≤ key_count
  first : (1 ≤ s.t3206) × (s.t3206 ≤ longest_timer)
  second : (1 ≤ s.t3208) × (s.t3208 ≤ longest_timer)
  third : (1 ≤ s.t3210) × (s.t3210 ≤ longest_timer)
  pub sized : length sets ≡ length keys
  pub rising : rises keys ≡ true

timer-right : (t : ℕ) → is_timer t ≡ true → (1 ≤ t) × (t ≤ longest_timer)
timer-right t e = let b = both_true (leb 1 t) (leb t longest_timer) e in (leb-true 1 t b.0, leb-true t longest_timer b.1)

right : (s : Setup) (keys sets : List ℕ) → setup_right s keys sets ≡ true → Right s keys sets
unfolding setup_right
right s keys sets e =
    let a = both_true (leb (length keys) key_count) _ e in
    let b = both_true (is_timer s.t3206) _ a.1 in
    let c = both_true (is_timer s.t3208) _ b.1 in
    let d = both_true (is_timer s.t3210) _ c.1 in
    let f = both_true (sets_right keys sets) (keys_right keys) d.1 in
    record {
      few = leb-true (length keys) key_count a.0;
      first = timer-right s.t3206 b.0;
      second = timer-right s.t3208 c.0;
      third = timer-right s.t3210 d.0;
      sized = eqb-true (length sets) (length keys) (both_true _ _ f.0).0;
      rising = (both_true (all_low keys) (rises keys) f.1).1;
    }

-- one that is not refused passes
passes : (s : Setup) (keys sets : List ℕ) → (started_of s keys sets).refusal.number ≡ 0 → setup_right s keys sets ≡ true
unfolding started_of ground
passes s keys sets z = by-test (setup_right s keys sets) (λ p. p) (λ p. absurd (omega (arith, rw p at z)))

-- ## What it makes

-- nothing is known of the cell
pub started-cell : (c : Channel) → known c no_cell ≡ unknown
started-cell c = go (shows_nln c)
  where
    go : (b : Bool) → ◌≡◌ {A = Known} (record { nln = pick b none none; count = none; bit = none }) unknown
    go true = refl
    go false = refl

-- a set stands at its own place, and none where there is no key
set_back : (n : ℕ) (sets : List ℕ) (i : ℕ) → length sets ≤ n → set_at (set_places n sets) i ≡ set_at sets i
set_back zero [] i h = refl
set_back zero (m ∷ ms) i h = absurd (omega arith)
set_back (suc n) [] zero h = refl
set_back (suc n) [] (suc i) h = set_back n [] i (omega arith)
set_back (suc n) (m ∷ ms) zero h = refl
set_back (suc n) (m ∷ ms) (suc i) h = set_back n ms i (omega arith)

abbrev pub started : Setup → List ℕ → List ℕ → Receiver
started s keys sets = new_receiver s (key_places key_count keys) (set_places key_count sets) (length keys)

pub starts : (s : Setup) (keys sets : List ℕ) → (started_of s keys sets).refusal.number ≡ 0 → (started_of s keys sets).receiver ≡ started s keys sets
unfolding started_of
starts s keys sets z = rw (passes s keys sets z)

pub made : (s : Setup) (keys sets : List ℕ) → (started_of s keys sets).refusal.number ≡ 0 → Right s keys sets
made s keys sets z = right s keys sets (passes s keys sets z)

-- its keys are those that were lent
pub started_keys : (s : Setup) (keys sets : List ℕ) → length keys ≤ key_count → keys_of (started s keys sets) ≡ keys
started_keys s keys sets h = keys_there key_count keys h

module _ (s : Setup) (keys sets : List ℕ) (t : s.tick < 4294967296) (z : (started_of s keys sets).refusal.number ≡ 0) (key : ℕ) (h : first_of keys key < length keys) (c : Channel) where
  -- its index among them
  own : index_of (keys_of (started s keys sets)) key ≡ first_of keys key
  own = rw (started_keys s keys sets (made s keys sets z).few) (lent-index keys (made s keys sets z).rising key h)

  subscribed : index_of (keys_of (started s keys sets)) key < key_count
  subscribed = rw own (omega (arith, (made s keys sets z).few))

  slot-empty : get_or (replicate places empty_slot) (place_at (keys_of (started s keys sets)) key c) empty_slot ≡ empty_slot
  slot-empty =
      get_or-replicate places (place_at (keys_of (started s keys sets)) key c) empty_slot empty_slot (place_lt (index_of (keys_of (started s keys sets)) key) c subscribed)

  timers : (1 ≤ timer_of c s) × (timer_of c s ≤ longest_timer)
  timers = for_each (λ (t : ℕ). (1 ≤ t) × (t ≤ longest_timer)) c _ _ _ (made s keys sets z).first (made s keys sets z).second (made s keys sets z).third

  pub started-good : Good key c (started s keys sets)
  started-good =
      record {
        places = length-replicate places empty_slot;
        subscribed = subscribed;
        ticking = t;
        long = timers.0;
        short = timers.1;
        sound = rw slot-empty (empty-sound s.tick (timer_of c s));
      }

  -- its set of group keys
  pub started-set : set_at (set_places key_count sets) (index_of (keys_of (started s keys sets)) key) ≡ set_under keys sets key
  started-set = let m = made s keys sets z in rw own (set_back key_count sets (first_of keys key) (omega (arith, m.few, m.sized)))

  pub started-view : view key c (started s keys sets) ≡ fresh
  started-view = rw slot-empty (ap (λ (l : Known). record { held = none; cell = l }) (started-cell c))
