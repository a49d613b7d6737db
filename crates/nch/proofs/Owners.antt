-- Every random entry and every emergency mark has its owner. Assumes nothing.
use mathlib.Core.Path.{◌≡◌, refl, ap}
use mathlib.Core.List.{List, [], ◌∷◌}
use mathlib.Core.Bool.{Bool, true, false}
use mathlib.Core.Option.{some}
use mathlib.Core.Logic.{◌⊎◌, inl, inr}
use Prim.Native.Nat.{ℕ, zero, suc, ◌+◌, ◌-◌, ◌<◌}
use native.Mathlib.Omega.{arith}
use native.Mathlib.Decide.{dec_lt}
use lib.ListN.{length, take, get_or}
use lib.Seq.{take-length}
use borrow.Author.Tests.{leb-true}
use Rattle.bits.specs.Field.{pick}
use Rattle.call.specs.declared.Call.{Call}
use Rattle.call.specs.Call.{ciphered, no_call}
use Rattle.nch.specs.declared.Notification.{Notification}
use Rattle.nch.specs.Octets.{count}
use Rattle.nch.specs.Write.{calls_of, is_described, randoms_owned, marks_owned}
use Rattle.nch.specs.Owners.{nth, random_of_call, random_of_reduced, emergency_of_call}
use Rattle.nch.specs.Promises.{Owner, CallOwns, ReducedOwns, EveryRandomEntryHasAnOwner, EveryMarkHasAnOwner, NoTwoOwnTheSame}

-- ## In any list

-- what is there among the first n stands below n
nth_lt : {A : Type 0} (k n : ℕ) (l : List A) (a : A) → nth k (take n l) ≡ some a → k < n
nth_lt k zero l a e = absurd (let z : ◌≡◌ {A = ℕ} 0 1 = cc in omega arith)
nth_lt k (suc n) [] a e = absurd (let z : ◌≡◌ {A = ℕ} 0 1 = cc in omega arith)
nth_lt zero (suc n) (b ∷ l) a e = omega arith
nth_lt (suc k) (suc n) (b ∷ l) a e = omega (arith, nth_lt k n l a e)

-- the one that passes a test and has k before it that do
record Passing {A : Type 0} (t : A → Bool) (z : A) (l : List A) (k : ℕ) : Type 0 where
  at : ℕ
  there : at < length l
  passes : t (get_or l at z) ≡ true
  position : count t (take at l) ≡ k

passing : {A : Type 0} (t : A → Bool) (z : A) (l : List A) (k : ℕ) → k < count t l → Passing t z l k
passing t z [] k h = absurd (omega arith)
passing {A} t z (a ∷ l) k h = go (t a) refl k h (λ j i. passing t z l j i)
  where
    go : (b : Bool) → t a ≡ b → (k : ℕ) → k < pick b (1 + count t l) (count t l) → ((j : ℕ) → j < count t l → Passing t z l j) → Passing t z (a ∷ l) k
    go true e zero h f = record { at = 0; there = omega arith; passes = e; position = refl }
    go true e (suc k) h f =
        let p = f k (omega arith) in
        record { at = suc p.at; there = omega (arith, p.there); passes = p.passes; position = rw e (omega (arith, p.position)) }
    go false e k h f =
        let p = f k h in
        record { at = suc p.at; there = omega (arith, p.there); passes = p.passes; position = rw e p.position }

pick_lt : (b : Bool) (x y : ℕ) → x < y → pick b (1 + x) x < pick b (1 + y) y
pick_lt true x y h = omega arith
pick_lt false x y h = h

-- fewer pass before one that does than before any place behind it
count-below : {A : Type 0} (t : A → Bool) (z : A) (l : List A) (i j : ℕ) → i < j → i < length l → t (get_or l i z) ≡ true → count t (take i l) < count t (take j l)
count-below t z [] i j h k e = absurd (omega arith)
count-below t z (a ∷ l) i zero h k e = absurd (omega arith)
count-below t z (a ∷ l) zero (suc j) h k e = rw e (omega arith)
count-below t z (a ∷ l) (suc i) (suc j) h k e = pick_lt (t a) (count t (take i l)) (count t (take j l)) (count-below t z l i j (omega arith) (omega arith) e)

-- ## In a notification

owner : (t : Call → Bool) (m : Notification) (k : ℕ) → k < count t (calls_of m) → Owner t m k
owner t m k h =
    let p = passing t no_call (calls_of m) k h in
    record { call = p.at; there = p.there; passes = p.passes; position = p.position }

pub every_random_entry_has_an_owner : EveryRandomEntryHasAnOwner
unfolding randoms_owned random_of_call random_of_reduced
every_random_entry_has_an_owner m e k r n = go (dec_lt k c)
  where
    c : ℕ
    c = count ciphered (calls_of m)

    go : Dec (k < c) → CallOwns m k r ⊎ ReducedOwns m k r
    go (yes h) =
        let o = owner ciphered m k h in
        inl (record { owner = o; owns = rw (o.passes, o.position) n })
    go (no h) =
        let j : c + (k - c) ≡ k = omega arith in
        let l = leb-true m.release6.randomcount (c + m.release6.reducedcount) e in
        inr (
        record {
          reduced = k - c;
          there = omega (arith, nth_lt k m.release6.randomcount m.release6.randoms r n);
          position = j;
          owns = rw j n;
        }
        )

pub every_mark_has_an_owner : EveryMarkHasAnOwner
unfolding marks_owned emergency_of_call
every_mark_has_an_owner m e k b n =
    let l = leb-true m.release7.markcount (count is_described (calls_of m)) e in
    let o = owner is_described m k (omega (arith, nth_lt k m.release7.markcount m.release7.marks b n)) in
    record { owner = o; owns = rw (o.passes, o.position, n) }

pub no_two_own_the_same : NoTwoOwnTheSame
no_two_own_the_same t m k a b = (go (dec_lt a.call b.call) (dec_lt b.call a.call), whole)
  where
    l : List Call
    l = calls_of m

    less : (x y : Owner t m k) → x.call < y.call → ⊥
    less x y h = omega (arith, x.position, y.position, count-below t no_call l x.call y.call h x.there x.passes)

    go : Dec (a.call < b.call) → Dec (b.call < a.call) → a.call ≡ b.call
    go (yes h) d = absurd (less a b h)
    go (no h) (yes i) = absurd (less b a i)
    go (no h) (no i) = omega arith

    whole : k < count t l
    whole = omega (arith, a.position, count-below t no_call l a.call (length l) a.there a.there a.passes, ap (count t) (take-length l))
