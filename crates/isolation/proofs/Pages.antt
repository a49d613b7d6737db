-- At most one half is held on the PCH: an entry of the PCH leaves none under any other key, and no other event brings one there. Assumes nothing.
use mathlib.Core.Path.{◌≡◌, refl, sym, ap, ◌∙◌}
use mathlib.Core.Bool.{Bool, true, false}
use mathlib.Core.List.{List, [], ◌∷◌}
use mathlib.Core.Logic.{◌⊎◌, inl, inr, ⊎_elim}
use mathlib.Core.Option.{Option, none}
use Prim.Native.Nat.{ℕ, zero, suc}
use native.Mathlib.Omega.{arith}
use lib.Dec.{eqb}
use borrow.Author.Tests.{eqb-true, eqb-false, ne_eqb}
use Rattle.bits.specs.Field.{pick}
use Rattle.pch.specs.Entry.{read_of as readPch}
use Rattle.receiver.specs.declared.Record.{Record}
use Rattle.receiver.specs.declared.Slot.{Slot}
use Rattle.receiver.specs.Channels.{Channel, onPch}
use Rattle.receiver.specs.Model.{key_of, is_held}
use Rattle.receiver.specs.Entries.{pch_entry, pch_entries}
use Rattle.receiver.specs.Step.{Event, Happening, heardNch, heardFacch, heard_pch, joins, moves, bit_is, passes, Cause, nothing, joining, paged, moving, numbered}
use Rattle.isolation.specs.One.{gone_by, Half, Known, One, Seen, mine, sight_of, step_between, accepts, sees, seen, changed, held_after_of, spared_by, step_one, one_after, fresh}
use Rattle.isolation.specs.Calls.{timer_of}
use Rattle.isolation.specs.Promises.{half_of, held_of, slot_in, AtMostOnePCHHalfIsHeld}
use Rattle.isolation.proofs.Dropping.{is-held}
use Rattle.receiver.proofs.Cases.{by-test}
use Rattle.isolation.proofs.Calls.{state, call-is}
use Rattle.isolation.proofs.Beginning.{starts}

-- ## One event

no_half : (b : Bool) → ◌≡◌ {A = Option Half} (pick b none none) none
no_half true = refl
no_half false = refl

-- what is not there is not spared
none-spared : (key : ℕ) (c : Channel) (l : Known) (x : Cause) → spared_by key c l x none ≡ none
none-spared key c l nothing = refl
none-spared key c l (joining k) = no_half (eqb k key)
none-spared key c l (paged k) = no_half (eqb k key)
none-spared key c l (moving m) = no_half (gone_by c m)
none-spared key c l (numbered n) = no_half (changed l.nln n)

module _ (timer : ℕ) where
  -- without an entry of its own none stays none
  stays-none : (key : ℕ) (o : One) (v : Seen) → v.sight.entries ≡ [] → o.held ≡ none → (step_one key onPch timer o v).held ≡ none
  unfolding step_one held_after_of
  stays-none key o v e q = rw (e, q) (none-spared key onPch o.cell v.sight.cause)

  -- an entry of the PCH under another key
  page_leaves-none : (key : ℕ) (o : One) (d : ℕ) (ns : List ℕ) → eqb (key_of (readPch ns).«record».call) key ≡ false
      → (step_one key onPch timer o (record { step = d; sight = sight_of key onPch (heard_pch ns) })).held ≡ none
  unfolding step_one held_after_of sight_of mine pch_entries pch_entry
  page_leaves-none key o d ns n = rw n

  -- of two calls one at least holds nothing
  abbrev Apart : One → One → Type 0
  Apart o p = (o.held ≡ none) ⊎ (p.held ≡ none)

  module _ (a b : ℕ) (unlike : a ≡ b → ⊥) where
    one-event : (o p : One) (d : ℕ) (h : Happening) → Apart o p
        → Apart (step_one a onPch timer o (record { step = d; sight = sight_of a onPch h })) (step_one b onPch timer p (record { step = d; sight = sight_of b onPch h }))
    unfolding sight_of
    one-event o p d (heard_pch ns) q =
        let k : ℕ = key_of (readPch ns).«record».call in
        by-test (eqb k a)
        (λ e. inr (page_leaves-none b p d ns (ne_eqb k b (λ w. unlike (sym (eqb-true k a e) ∙ w)))))
        (λ e. inl (page_leaves-none a o d ns e))
    one-event o p d (heardNch s) q = ⊎_elim (λ w. inl (stays-none a o _ refl w)) (λ w. inr (stays-none b p _ refl w)) q
    one-event o p d (heardFacch s) q = ⊎_elim (λ w. inl (stays-none a o _ refl w)) (λ w. inr (stays-none b p _ refl w)) q
    one-event o p d (joins k) q = ⊎_elim (λ w. inl (stays-none a o _ refl w)) (λ w. inr (stays-none b p _ refl w)) q
    one-event o p d (moves m) q = ⊎_elim (λ w. inl (stays-none a o _ refl w)) (λ w. inr (stays-none b p _ refl w)) q
    one-event o p d (bit_is v) q = ⊎_elim (λ w. inl (stays-none a o _ refl w)) (λ w. inr (stays-none b p _ refl w)) q
    one-event o p d passes q = ⊎_elim (λ w. inl (stays-none a o _ refl w)) (λ w. inr (stays-none b p _ refl w)) q

    -- ## Any events

    all_events : (o p : One) (last : ℕ) (es : List Event) → Apart o p
        → Apart (one_after a onPch timer o (seen a onPch last es)) (one_after b onPch timer p (seen b onPch last es))
    unfolding one_after seen
    all_events o p last [] q = q
    all_events o p last (e ∷ es) q =
        by-test (accepts last e)
        (λ w.
        rw w
        (all_events (step_one a onPch timer o (sees a onPch last e)) (step_one b onPch timer p (sees b onPch last e)) e.tick es
        (one-event o p (step_between last e.tick) e.happening q)))
        (λ w. rw w (all_events o p last es q))

-- a place that holds nothing is not held
not_held : (n a : ℕ) (x : Record) → half_of n a x ≡ none → n ≡ 0
not_held zero a x q = refl
not_held (suc zero) a x q = absurd (let z : ◌≡◌ {A = ℕ} 0 1 = cc in omega arith)
not_held (suc (suc n)) a x q = absurd (let z : ◌≡◌ {A = ℕ} 0 1 = cc in omega arith)

held-there : (now : ℕ) (s : Slot) (h : Option Half) → held_of now s ≡ h → is_held s ≡ true → h ≡ none → ⊥
held-there now s h e p q = is-held s p (not_held s.half _ s.«record» (e ∙ q))

pub at_most_one_pch_half_is_held : AtMostOnePCHHalfIsHeld
at_most_one_pch_half_is_held s keys sets t z es ts a b ha hb p q =
    by-test (eqb a b) (eqb-true a b)
    (λ n.
    let r = state s keys sets t z es ts in
    let x = held-there r.tick (slot_in a onPch r) _ (ap (λ (o : One). o.held) (call-is s keys sets t z es ts a ha onPch)) (rw (starts s keys sets z) at p) in
    let y = held-there r.tick (slot_in b onPch r) _ (ap (λ (o : One). o.held) (call-is s keys sets t z es ts b hb onPch)) (rw (starts s keys sets z) at q) in
    absurd (⊎_elim x y (all_events (timer_of onPch s) a b (eqb-false a b n) fresh fresh s.tick es (inl refl))))
