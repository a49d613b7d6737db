-- One turn of the sweep over the places: what becomes of a place, and of the two counts. Assumes nothing.
use mathlib.Core.Path.{◌≡◌, refl, ap, sym, ◌∙◌}
use mathlib.Core.Bool.{Bool, true, false, not}
use Prim.Native.Nat.{ℕ, ◌+◌, ◌≤◌, ◌<◌}
use native.Mathlib.Nat.{zero-add, add-zero}
use native.Mathlib.Numerals.{add-one}
use lib.ListN.{length, get_or, set}
use Rattle.bits.specs.Field.{both, pick}
use Rattle.csn1.specs.Told.{as_bit}
use Rattle.receiver.specs.declared.Slot.{Slot}
use Rattle.receiver.specs.declared.Receiver.{Receiver}
use Rattle.receiver.specs.declared.Rule.{Rule}
use Rattle.steps.specs.declared.sweep.Fate.{Fate}
use Rattle.steps.specs.declared.sweep.Fate.TheVariants.{Stays, RanOut, Taken}
use Rattle.receiver.specs.Model.{empty_slot, is_held, spares, timer_at, ran_out_of, taken_of, kept_of, swept_slots, expired_of, dropped_of, with_slots}
use Rattle.steps.specs.Inner.{fate_of}
use Rattle.receiver.proofs.Loops.{part_at, part_count, part_get, part-set, part-keep, part-all, count_le, count-step, count-all}

-- what a place's fate says of the two tests
stays : (b c : Bool) → pick b RanOut (pick c Taken Stays) ≡ Stays → (b ≡ false) × (c ≡ false)
stays true c e = (cc, cc)
stays false true e = (cc, cc)
stays false false e = (refl, refl)

runs_out : (b c : Bool) → pick b RanOut (pick c Taken Stays) ≡ RanOut → b ≡ true
runs_out true c e = refl
runs_out false true e = cc
runs_out false false e = cc

is-taken : (b c : Bool) → pick b RanOut (pick c Taken Stays) ≡ Taken → (b ≡ false) × (c ≡ true)
is-taken true c e = (cc, cc)
is-taken false true e = (refl, refl)
is-taken false false e = (cc, cc)

not_both : (a b : Bool) → both a (both false b) ≡ false
not_both true b = refl
not_both false b = refl

-- what ran out is not taken as well
out_not_taken : (now timer : ℕ) (rule : Rule) (i : ℕ) (s : Slot) → ran_out_of now timer s ≡ true → taken_of now timer rule i s ≡ false
unfolding taken_of
out_not_taken now timer rule i s e = rw e (not_both (is_held s) (not (spares rule i)))

-- the sweep of a receiver at a tick by a rule
module _ (r₀ : Receiver) (now : ℕ) (rule : Rule) where
  abbrev timer : ℕ → ℕ
  timer i = timer_at r₀ i

  abbrev keeps : ℕ → Slot → Slot
  keeps i s = kept_of now (timer i) rule i s

  abbrev expires : ℕ → Slot → Bool
  expires i s = ran_out_of now (timer i) s

  abbrev takes : ℕ → Slot → Bool
  takes i s = taken_of now (timer i) rule i s

  -- the first n places are done
  pub record Done (n : ℕ) (r : Receiver) (expired dropped : ℕ) : Type 0 where
    pub places : r ≡ with_slots r₀ (part_at keeps 0 n r₀.slots)
    pub expiries : expired ≡ part_count expires 0 n r₀.slots
    pub drops : dropped ≡ part_count takes 0 n r₀.slots

  pub none_done : Done 0 r₀ 0 0
  none_done = record { places = refl; expiries = refl; drops = refl }

  pub all_done : (n : ℕ) (r : Receiver) (expired dropped : ℕ) → Done n r expired dropped → length r₀.slots ≤ n
      → (r ≡ with_slots r₀ (swept_slots r₀ now rule)) × ((expired ≡ expired_of r₀ now r₀.slots) × (dropped ≡ dropped_of r₀ now rule))
  unfolding swept_slots expired_of dropped_of
  all_done n r x d w h = (
    w.places ∙ ap (with_slots r₀) (part-all keeps 0 n r₀.slots h),
    (w.expiries ∙ count-all expires 0 n r₀.slots h, w.drops ∙ count-all takes 0 n r₀.slots h),
  )

  -- one more place
  module _ (n : ℕ) (r : Receiver) (x d : ℕ) (w : Done n r x d) (z : Slot) where
    abbrev old : Slot
    old = get_or r₀.slots n z

    pub counts-low : (x ≤ n) × (d ≤ n)
    counts-low = (rw w.expiries (count_le expires 0 n r₀.slots), rw w.drops (count_le takes 0 n r₀.slots))

    -- the timer t and the fate f that the code works out, at a place that there is
    module _ (t : ℕ) (k : t ≡ timer_at r n) (f : Fate) (g : f ≡ fate_of now t rule n (get_or r.slots n z)) (h : n < length r₀.slots) where
      -- it is the fate of the place as it was before the sweep
      fate-before : f ≡ pick (expires n old) RanOut (pick (takes n old) Taken Stays)
      unfolding fate_of
      fate-before = rw (k, w.places, part_get keeps 0 n r₀.slots z) at g

      expiries-next : (b : Bool) → expires n old ≡ b → x + as_bit b ≡ part_count expires 0 (n + 1) r₀.slots
      expiries-next b e = simp (add-one n, count-step expires 0 n r₀.slots z h, zero-add, e, w.expiries)

      drops-next : (b : Bool) → takes n old ≡ b → d + as_bit b ≡ part_count takes 0 (n + 1) r₀.slots
      drops-next b e = simp (add-one n, count-step takes 0 n r₀.slots z h, zero-add, e, w.drops)

      pub one-stays : f ≡ Stays → Done (n + 1) r x d
      unfolding kept_of
      one-stays s =
          let b = stays (expires n old) (takes n old) (sym fate-before ∙ s) in
          record {
            places = rw (add-one, ← part-keep keeps 0 n r₀.slots z (simp (zero-add, b.0, b.1))) w.places;
            expiries = sym (add-zero x) ∙ expiries-next false b.0;
            drops = sym (add-zero d) ∙ drops-next false b.1;
          }

      -- the place is emptied
      module _ (e : Slot) (q : e ≡ empty_slot) where
        emptied : keeps n old ≡ empty_slot → with_slots r (set r.slots n e) ≡ with_slots r₀ (part_at keeps 0 (n + 1) r₀.slots)
        emptied v =
            rw (add-one, ← part-set keeps 0 n r₀.slots e z (rw (zero-add, v) q)) (ap (λ (y : Receiver). with_slots y (set y.slots n e)) w.places)

        pub one-runs-out : f ≡ RanOut → Done (n + 1) (with_slots r (set r.slots n e)) (x + 1) d
        unfolding kept_of
        one-runs-out s =
            let b = runs_out (expires n old) (takes n old) (sym fate-before ∙ s) in
            record {
              places = emptied (rw b);
              expiries = expiries-next true b;
              drops = sym (add-zero d) ∙ drops-next false (out_not_taken now (timer n) rule n old b);
            }

        pub one-taken : f ≡ Taken → Done (n + 1) (with_slots r (set r.slots n e)) x (d + 1)
        unfolding kept_of
        one-taken s =
            let b = is-taken (expires n old) (takes n old) (sym fate-before ∙ s) in
            record {
              places = emptied (simp (b.0, b.1));
              expiries = sym (add-zero x) ∙ expiries-next false b.0;
              drops = drops-next true b.1;
            }
