-- Release 6 read into an array of zeros: what its reader passes on, and what then stands in the array. Assumes nothing.
use mathlib.Core.Path.{◌≡◌, refl, ap, ap₂, ◌∙◌}
use mathlib.Core.List.{List, [], ◌∷◌, map}
use mathlib.Core.Option.{Option, none, some}
use Prim.Native.Nat.{ℕ, ◌+◌, ◌*◌, ◌≤◌}
use native.Mathlib.Omega.{arith}
use lib.ListN.{length, set, replicate, length-set}
use mir.Val.{bool_byte}
use Rattle.csn1.specs.declared.Refusal.{Refusal}
use Rattle.csn1.specs.declared.Flagged.{Flagged}
use Rattle.csn1.specs.Format.{Res, ok, bad, ◌then◌, no_refusal, renumbered, numbered_as, Format, num, opt, list, ◌⨟◌}
use Rattle.csn1.specs.Grammar.{format}
use Rattle.csn1.specs.Told.{as_bit, is_there, or_zero, flagged_at, flagged_of}
use Rattle.csn1.proofs.Lists.{length-padded}
use Rattle.csn1.proofs.Writing.{flag_byte}
use Rattle.csn1.proofs.Callees.{Flag, flagged-read, flagged-refused}
use Rattle.csn1.proofs.Answers.{Answer, answered, unanswered, first-bad, then-bad, then_ok}
use Rattle.arrays.specs.Runs.{stored, each}
use Rattle.arrays.specs.Inner.{Zeros, Left}
use Rattle.arrays.proofs.Running.{length_run}
use Rattle.arrays.proofs.Zeroed.{zeros-later, zeros-set, zeros-behind, left-bad, left-ok, left-stored}
use Rattle.nch.specs.declared.lists.ListPassed.{ListPassed}
use Rattle.nch.specs.declared.additions.Release6Passed.{Release6Passed}
use Rattle.nch.specs.Octets.{reduced, random, Release6Value}
use Rattle.nch.specs.Told.{reduced_of, no_reduced, release6_of}
use Rattle.nch.specs.Places.{release6_at, counted_at, cellcount_at, reduceds_at, reduced_length, most_reduceds, randoms_at}
use Rattle.nch.specs.Inner.{list_passed, release6_passed, reduceds_run, randoms_run, release6_run}
use Rattle.nch.proofs.Ends.{release6_length}
use Rattle.nch.specs.NotificationNumbers.{reduced_numbers, random_numbers, release6_numbers}
use Rattle.nch.proofs.Passed.{lists}
use Rattle.nch.proofs.Reading6.{reduceds_ground, randoms-ground}
use Rattle.nch.proofs.Lengths.{length-reduced}
use Rattle.nch.proofs.NotificationRuns.{release6_runs}

-- an absent Release 6 is as many zeros
pub no_numbers6 : release6_run none ≡ replicate release6_length 0
unfolding release6_numbers each reduced_numbers random_numbers
no_numbers6 = refl

-- ## The parts behind the H

-- the two lists behind the count
abbrev both-lists : Format (List (List ℕ) × List (ℕ × Option ℕ))
both-lists = list (format reduced) ⨟ list (format random)

abbrev all6 : Format Release6Value
all6 = opt (num 2) ⨟ both-lists

abbrev parts6 : Res Release6Value → Res (Option Release6Value)
parts6 x = numbered_as 14 x then λ v q. ok (some v) q

abbrev Left6 : List ℕ → ℕ → Release6Passed → List ℕ → List ℕ → Type 0
Left6 s at r before after = Left release6_passed release6_run release6_at (parts6 (all6.read s at)) r before after

-- the first three numbers
abbrev led6 : List ℕ → Flagged → List ℕ
led6 l c = set (set (set l release6_at 1) counted_at (bool_byte c.hasValue)) cellcount_at c.value

pub length-led6 : (l : List ℕ) (c : Flagged) → length (led6 l c) ≡ length l
length-led6 l c = simp length-set

stored-led6 : (l : List ℕ) (a b v : ℕ) → set (set (set l release6_at a) counted_at b) cellcount_at v ≡ stored l release6_at (a ∷ b ∷ v ∷ [])
unfolding stored
stored-led6 l a b v = refl

-- l, from zeros on: the count c was read
module _ (s : List ℕ) (at : ℕ) (h : length s ≤ 4096) (l : List ℕ) (y : Zeros l release6_at) (c : Flagged) (e : c ≡ flagged_of (flagged_at s at 2)) where
  -- a refusal, w, of a part
  refused6 : (w : Refusal) → all6.read s at ≡ bad w → (r : Release6Passed) → r ≡ release6_passed (bad (renumbered 14 w)) → (after : List ℕ) → Left6 s at r l after
  refused6 w x r f after = left-bad release6_passed release6_run release6_at (parts6 (all6.read s at)) l after (renumbered 14 w) (renumbered 14 w) r f refl (ap parts6 x)

  pub count-refused : (c.refusal.number ≡ 0 → ⊥) → (r : Release6Passed) → r ≡ release6_passed (bad (renumbered 14 c.refusal)) → (after : List ℕ) → Left6 s at r l after
  count-refused n = refused6 c.refusal (first-bad (opt (num 2)) both-lists s at _ (flagged-refused s at 2 (omega arith) h c e n))

  pub zeros-led6 : Zeros (led6 l c) reduceds_at
  zeros-led6 =
      zeros-set (set (set l release6_at 1) counted_at (bool_byte c.hasValue)) reduceds_at cellcount_at c.value (omega arith)
      (zeros-set (set l release6_at 1) reduceds_at counted_at (bool_byte c.hasValue) (omega arith)
      (zeros-set l reduceds_at release6_at 1 (omega arith) (zeros-later l release6_at reduceds_at (omega arith) y)))

  -- then the reduced references, d
  module _ (z : c.refusal.number ≡ 0) (d : ListPassed) (l1 : List ℕ) (f : Left list_passed reduceds_run reduceds_at ((list (format reduced)).read s c.at) d (led6 l c) l1) where
    counted : Flag c ((opt (num 2)).read s at)
    counted = flagged-read s at 2 (omega arith) h c e z

    pub reduceds_refused : (d.refusal.number ≡ 0 → ⊥) → (r : Release6Passed) → r ≡ release6_passed (bad (renumbered 14 d.refusal)) → (after : List ℕ) → Left6 s at r l after
    reduceds_refused n =
        refused6 d.refusal
        (then-bad (opt (num 2)) both-lists s at _ _ _ counted.is (first-bad (list (format reduced)) (list (format random)) s c.at _ (unanswered lists d _ f.0 n)))

    module _ (x : d.refusal.number ≡ 0) where
      referred : Answer lists d ((list (format reduced)).read s c.at)
      referred = answered lists d _ f.0 (reduceds_ground s c.at) x

      reduceds-stored : l1 ≡ stored (led6 l c) reduceds_at (reduceds_run referred.value)
      reduceds-stored = left-stored list_passed reduceds_run reduceds_at ((list (format reduced)).read s c.at) (led6 l c) l1 referred.value d.at referred.is f.1

      pub zeros_reduceds : Zeros l1 randoms_at
      zeros_reduceds =
          zeros-behind (led6 l c) l1 reduceds_at (1 + reduced_length * most_reduceds) (reduceds_run referred.value) zeros-led6 reduceds-stored
          (length_run reduced_numbers reduced_length length-reduced reduced_of no_reduced most_reduceds referred.value)

      -- then the random entries, g
      module _ (g : ListPassed) (l2 : List ℕ) (k : Left list_passed randoms_run randoms_at ((list (format random)).read s d.at) g l1 l2) where
        pub randoms-refused : (g.refusal.number ≡ 0 → ⊥) → (r : Release6Passed) → r ≡ release6_passed (bad (renumbered 14 g.refusal)) → (after : List ℕ) → Left6 s at r l after
        randoms-refused n =
            refused6 g.refusal
            (then-bad (opt (num 2)) both-lists s at _ _ _ counted.is (then-bad (list (format reduced)) (list (format random)) s c.at _ _ _ referred.is (unanswered lists g _ k.0 n)))

        -- all were there
        pub parts-filled : g.refusal.number ≡ 0 → (r : Refusal) → r ≡ no_refusal → Left6 s at (record { refusal = r; reduced = d.count; randoms = g.count; at = g.at }) l l2
        parts-filled o r w =
            let b : Answer lists g ((list (format random)).read s d.at) = answered lists g _ k.0 (randoms-ground s d.at) o in
            let v : Release6Value = (counted.number, (referred.value, b.value)) in
            left-ok release6_passed release6_run release6_at (parts6 (all6.read s at)) l l2 (some v) g.at (record { refusal = r; reduced = d.count; randoms = g.count; at = g.at })
            (λ i. record { refusal = w i; reduced = (referred.told i).count; randoms = (b.told i).count; at = g.at })
            (ap parts6 (then_ok (opt (num 2)) both-lists s at _ _ _ _ counted.is (then_ok (list (format reduced)) (list (format random)) s c.at _ _ _ _ referred.is b.is)))
            (release6_runs (release6_of (some v)) (length-padded no_reduced most_reduceds (map reduced_of referred.value)) l (led6 l c) l1 l2
            (ap₂ (λ (m n : ℕ). set (set (set l release6_at 1) counted_at m) cellcount_at n) (flag_byte c.hasValue ∙ ap as_bit counted.there) counted.value
            ∙ stored-led6 l 1 (as_bit (is_there counted.number)) (or_zero counted.number))
            reduceds-stored
            (left-stored list_passed randoms_run randoms_at ((list (format random)).read s d.at) l1 l2 b.value g.at b.is k.1))
