-- The numbers of NT/N Rest Octets, run behind run. Assumes nothing.
use mathlib.Core.Path.{◌≡◌, refl, ap, sym, ◌∙◌}
use mathlib.Core.List.{List, [], ◌∷◌, ◌++◌, map, append_assoc}
use mathlib.Core.Bool.{false}
use mathlib.Core.Option.{Option, none, some}
use Prim.Native.Nat.{ℕ, suc, ◌-◌, ◌*◌}
use native.Mathlib.Omega.{arith}
use lib.ListN.{length, length-append}
use Rattle.csn1.specs.Format.{Res, ok, bad}
use Rattle.csn1.specs.Told.{as_bit, is_one}
use Rattle.csn1.proofs.Lists.{length-padded}
use Rattle.arrays.specs.Runs.{stored, each}
use Rattle.arrays.proofs.Running.{more, length-each}
use Rattle.call.specs.Call.{call_of, no_call}
use Rattle.nch.specs.declared.Release6.{Release6}
use Rattle.nch.specs.declared.Release7.{Release7}
use Rattle.nch.specs.declared.Notification.{Notification}
use Rattle.nch.specs.Octets.{Release6Value, Release7Value, Value, read_octets}
use Rattle.nch.specs.Told.{read_of, reading_of, release6_of, release7_of, reduced_of, random_of, no_reduced, no_random, record_of, Shaped}
use Rattle.nch.specs.Places.{numbered_at, calls_at, call_length, most_calls, release6_at, reduceds_at, reduced_length, most_reduceds, randoms_at}
use Rattle.nch.specs.Places.{random_length, most_randoms, release7_at, marks_at, most_marks, uplinked_at, amr_at, sms_at, all_length}
use Rattle.nch.proofs.Ends.{record_length, release6_length, release7_length}
use Rattle.nch.specs.CallNumbers.{call_numbers}
use Rattle.nch.specs.NotificationNumbers.{reduced_numbers, random_numbers, mark_numbers, release6_numbers, parts_numbers, release7_numbers, numbers_of, read_numbers}
use Rattle.nch.proofs.Lengths.{length-call, length-reduced, length-random, length_mark, length-parts}

-- ## Release 6

module _ (r : Release6) (n : length r.reduced ≡ most_reduceds) where
  length_reduceds : length (each reduced_numbers r.reduced) ≡ reduced_length * most_reduceds
  length_reduceds = length-each reduced_numbers reduced_length length-reduced r.reduced ∙ rw n

  -- three numbers, how many reduced references, these, how many random entries, these
  pub release6_runs : (l l1 l2 l3 : List ℕ)
      → l1 ≡ stored l release6_at (as_bit r.hasRelease ∷ as_bit r.hasCount ∷ r.cellcount ∷ [])
      → l2 ≡ stored l1 reduceds_at (r.reducedcount ∷ each reduced_numbers r.reduced)
      → l3 ≡ stored l2 randoms_at (r.randomcount ∷ each random_numbers r.randoms)
      → l3 ≡ stored l release6_at (release6_numbers r)
  unfolding release6_numbers
  release6_runs l l1 l2 l3 e f g =
      let head : List ℕ = as_bit r.hasRelease ∷ as_bit r.hasCount ∷ r.cellcount ∷ [] in
      let reduceds : List ℕ = r.reducedcount ∷ each reduced_numbers r.reduced in
      let a = more 3 l l1 l2 release6_at head reduceds e refl f in
      more (randoms_at - release6_at) l l2 l3 release6_at (head ++ reduceds) (r.randomcount ∷ each random_numbers r.randoms) a
      (length-append head reduceds ∙ omega (arith, length_reduceds)) g
      ∙ ap (stored l release6_at) (sym (append_assoc (head ++ reduceds) (r.randomcount ∷ []) (each random_numbers r.randoms)))

  length-release6 : length r.randoms ≡ most_randoms → length (release6_numbers r) ≡ release6_length
  unfolding release6_numbers
  length-release6 m =
      let y = length_reduceds in
      let z : length (each random_numbers r.randoms) ≡ random_length * most_randoms = length-each random_numbers random_length length-random r.randoms ∙ rw m in
      simp length-append (omega arith)

-- ## Release 7

module _ (r : Release7) (n : length r.marks ≡ most_marks) where
  length-marks : length (each mark_numbers r.marks) ≡ most_marks
  length-marks = length-each mark_numbers 1 length_mark r.marks ∙ rw n

  -- whether it is there, how many marks, these, and the three parts that flags lead
  pub release7_runs : (l l1 l2 l3 l4 l5 : List ℕ)
      → l1 ≡ stored l release7_at (as_bit r.hasRelease ∷ [])
      → l2 ≡ stored l1 marks_at (r.markcount ∷ each mark_numbers r.marks)
      → l3 ≡ stored l2 uplinked_at (as_bit r.hasUplink ∷ as_bit r.uplink ∷ [])
      → l4 ≡ stored l3 amr_at (as_bit r.hasAmr ∷ as_bit r.hasFullrate ∷ r.fullrate ∷ as_bit r.hasHalfrate ∷ r.halfrate ∷ [])
      → l5 ≡ stored l4 sms_at (as_bit r.hasSms ∷ as_bit r.confidential ∷ as_bit r.private ∷ [])
      → l5 ≡ stored l release7_at (release7_numbers r)
  unfolding release7_numbers parts_numbers
  release7_runs l l1 l2 l3 l4 l5 e f g h j =
      let marks : List ℕ = as_bit r.hasRelease ∷ r.markcount ∷ each mark_numbers r.marks in
      let uplink : List ℕ = as_bit r.hasUplink ∷ as_bit r.uplink ∷ [] in
      let rates : List ℕ = as_bit r.hasAmr ∷ as_bit r.hasFullrate ∷ r.fullrate ∷ as_bit r.hasHalfrate ∷ r.halfrate ∷ [] in
      let sms : List ℕ = as_bit r.hasSms ∷ as_bit r.confidential ∷ as_bit r.private ∷ [] in
      let x : length marks ≡ uplinked_at - release7_at = omega (arith, length-marks) in
      let y : length (marks ++ uplink) ≡ amr_at - release7_at = length-append marks uplink ∙ omega arith in
      let z : length (marks ++ uplink ++ rates) ≡ sms_at - release7_at = length-append (marks ++ uplink) rates ∙ omega arith in
      let a = more 1 l l1 l2 release7_at (as_bit r.hasRelease ∷ []) (r.markcount ∷ each mark_numbers r.marks) e refl f in
      let b = more (uplinked_at - release7_at) l l2 l3 release7_at marks uplink a x g in
      let d = more (amr_at - release7_at) l l3 l4 release7_at (marks ++ uplink) rates b y h in
      more (sms_at - release7_at) l l4 l5 release7_at (marks ++ uplink ++ rates) sms d z j ∙ ap (stored l release7_at) (simp append_assoc)

  length-release7 : length (release7_numbers r) ≡ release7_length
  unfolding release7_numbers
  length-release7 =
      let y = length-marks in
      let z = length-parts r in
      simp length-append (omega arith)

-- ## The whole

module _ (m : Notification) (s : Shaped m) where
  length-calls : length (each call_numbers m.calls) ≡ call_length * most_calls
  length-calls = length-each call_numbers call_length length-call m.calls ∙ rw s.calls

  pub length-all : length (numbers_of m) ≡ record_length
  unfolding numbers_of
  length-all =
      let a = length-calls in
      let b = length-release6 m.release6 s.reduced s.randoms in
      let d = length-release7 m.release7 s.marks in
      simp length-append (omega arith)

  -- two numbers, how many calls, these, and the releases
  pub all_runs : (l l1 l2 l3 l4 : List ℕ)
      → l1 ≡ stored l numbered_at (as_bit m.hasNln ∷ m.nln ∷ [])
      → l2 ≡ stored l1 calls_at (m.callcount ∷ each call_numbers m.calls)
      → l3 ≡ stored l2 release6_at (release6_numbers m.release6)
      → l4 ≡ stored l3 release7_at (release7_numbers m.release7)
      → l4 ≡ stored l numbered_at (numbers_of m)
  unfolding numbers_of
  all_runs l l1 l2 l3 l4 e f g h =
      let head : List ℕ = as_bit m.hasNln ∷ m.nln ∷ [] in
      let c : List ℕ = m.callcount ∷ each call_numbers m.calls in
      let six = release6_numbers m.release6 in
      let seven = release7_numbers m.release7 in
      let y : length (head ++ c) ≡ release6_at - numbered_at = length-append head c ∙ omega (arith, length-calls) in
      let z : length (head ++ c ++ six) ≡ release7_at - numbered_at =
      length-append (head ++ c) six ∙ omega (arith, length-release6 m.release6 s.reduced s.randoms) in
      let a = more 2 l l1 l2 numbered_at head c e refl f in
      let b = more (release6_at - numbered_at) l l2 l3 numbered_at (head ++ c) six a y g in
      more (release7_at - numbered_at) l l3 l4 numbered_at (head ++ c ++ six) seven b z h

-- ## What `read` leaves

shaped6 : (v : Option Release6Value) → (length (release6_of v).reduced ≡ most_reduceds) × (length (release6_of v).randoms ≡ most_randoms)
shaped6 none = (refl, refl)
shaped6 (some v) = (length-padded no_reduced most_reduceds (map reduced_of v.1.0), length-padded no_random most_randoms (map random_of v.1.1))

shaped7 : (v : Option Release7Value) → length (release7_of v).marks ≡ most_marks
shaped7 none = refl
shaped7 (some v) = length-padded false most_marks (map is_one v.0)

pub length-six : (v : Option Release6Value) → length (release6_numbers (release6_of v)) ≡ release6_length
length-six v = length-release6 (release6_of v) (shaped6 v).0 (shaped6 v).1

-- every record that is read has its places
pub value-shaped : (v : Value) → Shaped (record_of v)
value-shaped v =
    record {
      calls = length-padded no_call most_calls (map call_of v.1.0);
      reduced = (shaped6 v.1.1.0).0;
      randoms = (shaped6 v.1.1.0).1;
      marks = shaped7 v.1.1.1;
    }

pub shaped : (r : Res Value) → Shaped (reading_of r).«record»
shaped (bad r) = record { calls = refl; reduced = refl; randoms = refl; marks = refl }
shaped (ok v q) = value-shaped v

pub length-read : (s : List ℕ) → length (read_numbers s) ≡ all_length
unfolding read_numbers
length-read s = ap suc (length-all (read_of s).«record» (shaped (read_octets s)))
