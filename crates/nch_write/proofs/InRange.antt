-- What a record that is in range has few of, so that no sum of counts wraps. Assumes nothing.
use native.Mathlib.Omega.{arith}
use mathlib.Core.Path.{◌≡◌}
use mathlib.Core.List.{List, [], ◌∷◌}
use mathlib.Core.Bool.{Bool, true, false}
use Prim.Native.Nat.{ℕ, zero, suc, ◌+◌, ◌≤◌}
use lib.ListN.{take}
use lib.Dec.{leb}
use borrow.Author.Tests.{leb-true}
use Rattle.bits.specs.Field.{pick}
use Rattle.csn1.specs.Write.{flagged_right}
use Rattle.call.specs.Write.{call_in_range, call_is_zero}
use Rattle.nch.specs.declared.Notification.{Notification}
use Rattle.nch.specs.Octets.{count}
use Rattle.nch.specs.Write.{in_range, release6_in_range, places_right}
use Rattle.bits.proofs.Answers.{both_true}

-- no more pass a test than were tested
pub count-few : {A : Type 0} (t : A → Bool) (n : ℕ) (l : List A) → count t (take n l) ≤ n
count-few t zero l = omega arith
count-few t (suc n) [] = omega arith
count-few t (suc n) (a ∷ l) = one (t a) (count-few t n l)
  where
    one : (b : Bool) {k : ℕ} → k ≤ n → pick b (1 + k) k ≤ suc n
    one true h = omega arith
    one false h = omega arith

-- a record within its ranges has few calls and few reduced references
pub in_range-few : (m : Notification) → in_range m ≡ true → (m.callcount ≤ 4) × (m.release6.reducedcount ≤ 5)
unfolding in_range release6_in_range
in_range-few m e =
    let n = both_true (leb m.callcount 4) _ e in
    let f = both_true (flagged_right m.hasNln m.nln 4) _ n.1 in
    let p = both_true (places_right call_in_range call_is_zero m.callcount m.calls) _ f.1 in
    let s = both_true (release6_in_range m.release6) _ p.1 in
    (leb-true m.callcount 4 n.0, leb-true m.release6.reducedcount 5 (both_true (leb m.release6.reducedcount 5) _ s.0).0)
