-- What time and an event's rule leave of a half, on the wrapped clock and by the sum of steps. Assumes nothing.
use mathlib.Core.Path.{◌≡◌, refl, sym, ap, ap₂, ◌∙◌}
use mathlib.Core.Bool.{Bool, true, false, not}
use mathlib.Core.List.{List, [], ◌∷◌}
use mathlib.Core.Option.{Option, none}
use Prim.Native.Nat.{ℕ, zero, suc, ◌+◌, ◌^◌, ◌≤◌, ◌<◌}
use native.Mathlib.Omega.{arith}
use lib.Dec.{leb, ltb, eqb}
use borrow.Author.Tests.{leb-true, leb-false, lt-ltb, le-ltb, eqb-true, eqb-false, ne_eqb, not-true, not-false}
use Rattle.bits.specs.Field.{both, pick}
use Rattle.csn1.specs.Told.{as_bit}
use Rattle.receiver.specs.declared.Record.{Record}
use Rattle.receiver.specs.declared.Slot.{Slot}
use Rattle.receiver.specs.declared.Rule.{Rule}
use Rattle.receiver.specs.Model.{empty_slot, longest_timer, wrap_sub, late_step, keep, spares, is_held, ran_out_of, taken_of, kept_of, map_at, count_at}
use Rattle.isolation.specs.One.{Half, aged}
use Rattle.isolation.specs.Calls.{lost}
use Rattle.isolation.specs.Promises.{half_of, held_of, lost_between}
use Rattle.isolation.proofs.Places.{spares-keep}
use Rattle.isolation.proofs.Clock.{elapsed}
use Rattle.isolation.proofs.Meets.{Sound, empty-sound}
use Rattle.receiver.proofs.Cases.{by-test}

-- ## A half by the sum of steps

-- nothing is left of nothing
spared-none : (b : Bool) → ◌≡◌ {A = Option Half} (pick b none none) none
spared-none true = refl
spared-none false = refl

aged-half : (timer d n a : ℕ) (x : Record) → aged timer d (half_of n a x) ≡ pick (ltb (a + d) timer) (half_of n (a + d) x) none
aged-half timer d zero a x = sym (spared-none (ltb (a + d) timer))
aged-half timer d (suc zero) a x = refl
aged-half timer d (suc (suc n)) a x = refl

-- ## A place on the wrapped clock

-- a place that holds nothing is left as it is; h: it holds a half, o: which has run out, p: and is spared
kept_cases : (h o p : Bool) (z s : Slot) → pick (both h o) z (pick (both h (both (not (both h o)) (not p))) z s) ≡ pick h (pick o z (pick p s z)) s
kept_cases false o p z s = refl
kept_cases true true p z s = refl
kept_cases true false true z s = refl
kept_cases true false false z s = refl

pub kept_what : (now timer : ℕ) (rule : Rule) (i : ℕ) (s : Slot)
    → kept_of now timer rule i s ≡ pick (is_held s) (pick (leb timer (wrap_sub now s.since)) empty_slot (pick (spares rule i) s empty_slot)) s
unfolding kept_of taken_of ran_out_of
kept_what now timer rule i s = kept_cases (is_held s) (leb timer (wrap_sub now s.since)) (spares rule i) empty_slot s

pub is-held : (s : Slot) → is_held s ≡ true → s.half ≡ 0 → ⊥
is-held s h = eqb-false s.half 0 (not-true (eqb s.half 0) h)

is_free : (s : Slot) → is_held s ≡ false → s.half ≡ 0
is_free s h = eqb-true s.half 0 (not-false (eqb s.half 0) h)

module _ (last now timer : ℕ) (s : Slot) (sound : Sound last timer s) (a : last < 2 ^ 32) (b : now < 2 ^ 32) (short : timer ≤ longest_timer) (step : wrap_sub now last < late_step) where
  age : is_held s ≡ true → wrap_sub now s.since ≡ wrap_sub last s.since + wrap_sub now last
  age h = elapsed s.since last now sound.since a b (omega (arith, sound.young (is-held s h))) step

  -- o: it has run out, p: it is spared
  left : (o p : Bool) → is_held s ≡ true → leb timer (wrap_sub now s.since) ≡ o
      → held_of now (pick o empty_slot (pick p s empty_slot)) ≡ pick p (aged timer (wrap_sub now last) (held_of last s)) none
  left o p h e = rw (aged-half timer (wrap_sub now last) s.half (wrap_sub last s.since) s.«record», ← age h) (go o p e)
    where
      go : (o p : Bool) → leb timer (wrap_sub now s.since) ≡ o
          → held_of now (pick o empty_slot (pick p s empty_slot)) ≡ pick p (pick (ltb (wrap_sub now s.since) timer) (held_of now s) none) none
      go true p e = rw (le-ltb (wrap_sub now s.since) timer (leb-true timer (wrap_sub now s.since) e)) (sym (spared-none p))
      go false true e = rw (lt-ltb (wrap_sub now s.since) timer (leb-false timer (wrap_sub now s.since) e))
      go false false e = refl

  -- what is left of the half that the place holds is what is left of the one-call receiver's
  pub kept-held : (rule : Rule) (i : ℕ) → held_of now (kept_of now timer rule i s) ≡ pick (spares rule i) (aged timer (wrap_sub now last) (held_of last s)) none
  kept-held rule i =
      by-test (is_held s)
      (λ h. rw (kept_what now timer rule i s, h) (left (leb timer (wrap_sub now s.since)) (spares rule i) h refl))
      (λ h. rw (kept_what now timer rule i s, h, is_free s h) (sym (spared-none (spares rule i))))

  pub kept-sound : (rule : Rule) (i : ℕ) → Sound now timer (kept_of now timer rule i s)
  kept-sound rule i =
      by-test (is_held s)
      (λ h. rw (kept_what now timer rule i s, h) (go (leb timer (wrap_sub now s.since)) (spares rule i) refl))
      (λ h. rw (kept_what now timer rule i s, h) (record { half = sound.half; since = sound.since; young = λ n. absurd (n (is_free s h)) }))
    where
      go : (o p : Bool) → leb timer (wrap_sub now s.since) ≡ o → Sound now timer (pick o empty_slot (pick p s empty_slot))
      go true p e = empty-sound now timer
      go false true e = record { half = sound.half; since = sound.since; young = λ n. leb-false timer (wrap_sub now s.since) e }
      go false false e = empty-sound now timer

-- ## What was lost

-- an expiry is what was held and is not when the clock has moved
expired-one : (now timer i : ℕ) (s : Slot) → as_bit (ran_out_of now timer s) ≡ as_bit (both (is_held s) (not (is_held (kept_of now timer keep i s))))
unfolding ran_out_of
expired-one now timer i s =
    by-test (is_held s) (λ h. rw (kept_what now timer keep i s, spares-keep i, h) (go (leb timer (wrap_sub now s.since)) h)) (λ h. rw h)
  where
    go : (o : Bool) → is_held s ≡ true → as_bit o ≡ as_bit (not (is_held (pick o empty_slot s)))
    go true h = refl
    go false h = rw h

-- a drop is what is held then and is not when the rule has been followed
dropped-one : (now timer : ℕ) (rule : Rule) (i : ℕ) (s : Slot)
    → as_bit (taken_of now timer rule i s) ≡ as_bit (both (is_held (kept_of now timer keep i s)) (not (is_held (kept_of now timer rule i s))))
unfolding ran_out_of taken_of
dropped-one now timer rule i s =
    by-test (is_held s)
    (λ h. rw (kept_what now timer keep i s, spares-keep i, kept_what now timer rule i s, h) (go (leb timer (wrap_sub now s.since)) (spares rule i) h))
    (λ h. rw (kept_what now timer keep i s, h, h))
  where
    go : (o p : Bool) → is_held s ≡ true
        → as_bit (both (not o) (not p)) ≡ as_bit (both (is_held (pick o empty_slot s)) (not (is_held (pick o empty_slot (pick p s empty_slot)))))
    go true p h = refl
    go false true h = rw h
    go false false h = rw h

-- both together are what was held and is not when the rule has been followed
lost-one : (now timer : ℕ) (rule : Rule) (i : ℕ) (s : Slot)
    → as_bit (ran_out_of now timer s) + as_bit (taken_of now timer rule i s) ≡ as_bit (both (is_held s) (not (is_held (kept_of now timer rule i s))))
unfolding ran_out_of taken_of
lost-one now timer rule i s =
    by-test (is_held s)
    (λ h. rw (kept_what now timer rule i s, h) (go (leb timer (wrap_sub now s.since)) (spares rule i) h))
    (λ h. rw h)
  where
    go : (o p : Bool) → is_held s ≡ true → as_bit o + as_bit (both (not o) (not p)) ≡ as_bit (not (is_held (pick o empty_slot (pick p s empty_slot))))
    go true p h = refl
    go false true h = rw h
    go false false h = refl

-- the same of the half that a place holds
lost-half : (m n a b : ℕ) (x y : Record) → as_bit (both (not (eqb m 0)) (not (not (eqb n 0)))) ≡ lost (half_of m a x) (half_of n b y)
lost-half zero n a b x y = refl
lost-half (suc zero) zero a b x y = refl
lost-half (suc zero) (suc zero) a b x y = refl
lost-half (suc zero) (suc (suc n)) a b x y = rw (ne_eqb (suc (suc n)) 0 (λ q. omega arith))
lost-half (suc (suc m)) zero a b x y = rw (ne_eqb (suc (suc m)) 0 (λ q. omega arith))
lost-half (suc (suc m)) (suc zero) a b x y = rw (ne_eqb (suc (suc m)) 0 (λ q. omega arith))
lost-half (suc (suc m)) (suc (suc n)) a b x y = rw (ne_eqb (suc (suc m)) 0 (λ q. omega arith), ne_eqb (suc (suc n)) 0 (λ q. omega arith))

lost-slot : (a b : ℕ) (s u : Slot) → as_bit (both (is_held s) (not (is_held u))) ≡ lost (held_of a s) (held_of b u)
lost-slot a b s u = lost-half s.half u.half (wrap_sub a s.since) (wrap_sub b u.since) s.«record» u.«record»

module _ (last now timer : ℕ) (s : Slot) (sound : Sound last timer s) (a : last < 2 ^ 32) (b : now < 2 ^ 32) (short : timer ≤ longest_timer) (step : wrap_sub now last < late_step) where
  -- the clock alone
  kept-aged : (i : ℕ) → held_of now (kept_of now timer keep i s) ≡ aged timer (wrap_sub now last) (held_of last s)
  kept-aged i = kept-held last now timer s sound a b short step keep i ∙ rw (spares-keep i)

  pub expired-half : as_bit (ran_out_of now timer s) ≡ lost (held_of last s) (aged timer (wrap_sub now last) (held_of last s))
  expired-half = expired-one now timer 0 s ∙ lost-slot last now s (kept_of now timer keep 0 s) ∙ ap (lost (held_of last s)) (kept-aged 0)

  pub dropped-half : (rule : Rule) (i : ℕ) → as_bit (taken_of now timer rule i s) ≡ lost (aged timer (wrap_sub now last) (held_of last s)) (held_of now (kept_of now timer rule i s))
  dropped-half rule i =
      dropped-one now timer rule i s ∙ lost-slot now now (kept_of now timer keep i s) (kept_of now timer rule i s)
      ∙ ap (λ (h : Option Half). lost h (held_of now (kept_of now timer rule i s))) (kept-aged i)

module _ (now : ℕ) (timer : ℕ → ℕ) (rule : Rule) where
  pub expired-all : (i : ℕ) (l : List Slot)
      → count_at (λ k s. ran_out_of now (timer k) s) i l ≡ lost_between l (map_at (λ k s. kept_of now (timer k) keep k s) i l)
  unfolding lost_between
  expired-all i [] = refl
  expired-all i (s ∷ l) = ap₂ ◌+◌ (expired-one now (timer i) i s) (expired-all (suc i) l)

  pub dropped-all : (i : ℕ) (l : List Slot)
      → count_at (λ k s. taken_of now (timer k) rule k s) i l ≡ lost_between (map_at (λ k s. kept_of now (timer k) keep k s) i l) (map_at (λ k s. kept_of now (timer k) rule k s) i l)
  unfolding lost_between
  dropped-all i [] = refl
  dropped-all i (s ∷ l) = ap₂ ◌+◌ (dropped-one now (timer i) rule i s) (dropped-all (suc i) l)

  pub lost-all : (i : ℕ) (l : List Slot)
      → count_at (λ k s. ran_out_of now (timer k) s) i l + count_at (λ k s. taken_of now (timer k) rule k s) i l ≡ lost_between l (map_at (λ k s. kept_of now (timer k) rule k s) i l)
  unfolding lost_between
  lost-all i [] = refl
  lost-all i (s ∷ l) = omega (arith, lost-one now (timer i) rule i s, lost-all (suc i) l)
