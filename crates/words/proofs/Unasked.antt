-- What is taken and ends inside the octets is what is read: for each way to make a format, then for every grammar. Assumes nothing.
use mathlib.Core.Path.{◌≡◌, refl, ap, ◌∙◌, subst}
use mathlib.Core.List.{List, [], ◌∷◌}
use mathlib.Core.Bool.{Bool, true, false}
use mathlib.Core.Option.{Option, none, some}
use mathlib.Core.Logic.{◌⊎◌, inl, inr}
use Prim.Native.Nat.{ℕ, zero, suc, ◌+◌, ◌*◌, ◌≤◌}
use native.Mathlib.Omega.{arith}
use lib.ListN.{length}
use lib.Dec.{eqb}
use borrow.Author.Tests.{le-leb}
use Rattle.bits.specs.Field.{field, pick}
use Rattle.csn1.specs.Format.{Res, ok, bad, ◌then◌, ground, Format, num, total, row, ◌▹◌, opt, read_items, list, pad_bit, coded, release, checked, numbered_as, in_release, either, when}
use Rattle.csn1.specs.Grammar.{Grammar, number, numbers, low-high, ◌and◌, ◌then_by◌, flagged, listed, later, one_of, only_if, refuse, inside, format}
use Rattle.words.specs.Unasked.{Took, took, unmet, ◌on◌, take_items, taken}

-- ## What holds of all takings

-- the place that was reached is not before p
abbrev From : {A : Type 0} → ℕ → Took A → Type 0
From p (took a q) = p ≤ q
From p unmet = Unit {0}

-- what was taken and ends inside n bits is what was read
abbrev Agrees : {A : Type 0} → ℕ → Took A → Res A → Type 0
Agrees n (took a q) r = q ≤ n → r ≡ ok a q
Agrees n unmet r = Unit {0}

from-later : {A : Type 0} (p q : ℕ) (x : Took A) → p ≤ q → From q x → From p x
from-later p q (took a r) l f = omega arith
from-later p q unmet l f = tt

-- one after the other: the second starts where the first ended, so the first ends inside too
on-from : {A B : Type 0} (p : ℕ) (x : Took A) (f : A → ℕ → Took B) → From p x → ((a : A) (q : ℕ) → From q (f a q)) → From p (x on f)
on-from p (took a q) f h g = from-later p q (f a q) h (g a q)
on-from p unmet f h g = tt

module _ {A B : Type 0} (n : ℕ) (f : A → ℕ → Took B) (g : A → ℕ → Res B)
    (from : (a : A) (q : ℕ) → From q (f a q)) (agrees : (a : A) (q : ℕ) → Agrees n (f a q) (g a q)) where
  on_agrees : (x : Took A) (r : Res A) → Agrees n x r → Agrees n (x on f) (r then g)
  on_agrees unmet r h = tt
  on_agrees (took a q) r h = go (f a q) (from a q) (agrees a q)
    where
      go : (y : Took B) → From q y → Agrees n y (g a q) → Agrees n y (r then g)
      go unmet l w = tt
      go (took b t) l w = λ k. ap (λ z. z then g) (h (omega arith)) ∙ w k

pick-from : {A : Type 0} (p : ℕ) (t : Bool) (x y : Took A) → From p x → From p y → From p (pick t x y)
pick-from p true x y f g = f
pick-from p false x y f g = g

pick-agrees : {A : Type 0} (n : ℕ) (t : Bool) (x y : Took A) (v w : Res A) → Agrees n x v → Agrees n y w → Agrees n (pick t x y) (pick t v w)
pick-agrees n true x y v w f g = f
pick-agrees n false x y v w f g = g

-- ## The laws of a taking beside a format

record Unasked {A : Type 0} (F : Format A) (T : List ℕ → ℕ → Took A) : Type 0 where
  from : (s : List ℕ) (p : ℕ) → From p (T s p)
  agrees : (s : List ℕ) (p : ℕ) → Agrees (length s * 8) (T s p) (F.read s p)

num-agrees : (w : ℕ) (s : List ℕ) (p : ℕ) → Agrees (length s * 8) (took (field s p w) (p + w)) ((num w).read s p)
num-agrees w s p = λ k. rw (le-leb (p + w) (length s * 8) k) refl

-- a flag, and what follows by it
module _ {B : Type 0} (s : List ℕ) (p : ℕ) (f : ℕ → ℕ → Took B) (g : ℕ → ℕ → Res B)
    (from : (b q : ℕ) → From q (f b q)) (agrees : (b q : ℕ) → Agrees (length s * 8) (f b q) (g b q)) where
  flag-from : From p (f (field s p 1) (p + 1))
  flag-from = from-later p (p + 1) (f (field s p 1) (p + 1)) (omega arith) (from (field s p 1) (p + 1))

  flag-agrees : Agrees (length s * 8) (f (field s p 1) (p + 1)) ((num 1).read s p then g)
  flag-agrees = on_agrees (length s * 8) f g from agrees (took (field s p 1) (p + 1)) ((num 1).read s p) (num-agrees 1 s p)

-- a part under another name
module _ {A B : Type 0} (F : Format A) (T : List ℕ → ℕ → Took A) (u : Unasked F T) (h : A → B) (s : List ℕ) (q : ℕ) where
  named-from : From q (T s q on λ a r. took (h a) r)
  named-from = on-from q (T s q) (λ a r. took (h a) r) (u.from s q) (λ a r. omega arith)

  named-agrees : Agrees (length s * 8) (T s q on λ a r. took (h a) r) (F.read s q then λ a r. ok (h a) r)
  named-agrees =
      on_agrees (length s * 8) (λ a r. took (h a) r) (λ a r. ok (h a) r) (λ a r. omega arith) (λ a r _. refl) (T s q) (F.read s q) (u.agrees s q)

-- ## Each way to make a format

num-unasked : (w : ℕ) → Unasked (num w) (taken (number w))
num-unasked w = record { from = λ s p. omega arith; agrees = λ s p. num-agrees w s p }

row-unasked : (ws : List ℕ) → Unasked (row ws) (taken (numbers ws))
row-unasked ws = record { from = λ s p. omega arith; agrees = λ s p k. rw (le-leb (p + total ws) (length s * 8) k) refl }

coded-unasked : Unasked coded (taken low-high)
coded-unasked =
    record {
      from = λ s p. omega arith;
      agrees =
          λ s p.
          flag-agrees s p (λ b q. took (pick (eqb b (pad_bit p)) 0 1) q) (λ b q. ok (pick (eqb b (pad_bit p)) 0 1) q) (λ b q. omega arith) (λ b q _. refl);
    }

module _ {A B : Type 0} (F : Format A) (G : A → Format B) (T : List ℕ → ℕ → Took A) (U : A → List ℕ → ℕ → Took B)
    (t : Unasked F T) (u : (a : A) → Unasked (G a) (U a)) where
  after-unasked : Unasked (F ▹ G) (λ s p. T s p on λ a q. U a s q on λ b r. took (a, b) r)
  after-unasked =
      record {
        from = λ s p. on-from p (T s p) (λ a q. U a s q on λ b r. took (a, b) r) (t.from s p) (λ a q. named-from (G a) (U a) (u a) (λ b. (a, b)) s q);
        agrees =
            λ s p.
            on_agrees (length s * 8) (λ a q. U a s q on λ b r. took (a, b) r) (λ a q. (G a).read s q then λ b r. ok (a, b) r)
            (λ a q. named-from (G a) (U a) (u a) (λ b. (a, b)) s q) (λ a q. named-agrees (G a) (U a) (u a) (λ b. (a, b)) s q)
            (T s p) (F.read s p) (t.agrees s p);
      }

module _ {A : Type 0} (F : Format A) (T : List ℕ → ℕ → Took A) (u : Unasked F T) where
  -- what a flag leads: nothing or the part
  abbrev led : Bool → List ℕ → ℕ → Took (Option A)
  led t s q = pick t (took none q) (T s q on λ a r. took (some a) r)

  led-from : (t : Bool) (s : List ℕ) (q : ℕ) → From q (led t s q)
  led-from t s q = pick-from q t (took none q) (T s q on λ a r. took (some a) r) (omega arith) (named-from F T u some s q)

  led-agrees : (t : Bool) (s : List ℕ) (q : ℕ) → Agrees (length s * 8) (led t s q) (pick t (ok none q) (F.read s q then λ a r. ok (some a) r))
  led-agrees t s q =
      pick-agrees (length s * 8) t (took none q) (T s q on λ a r. took (some a) r) (ok none q) (F.read s q then λ a r. ok (some a) r)
      (λ _. refl) (named-agrees F T u some s q)

  opt-unasked : Unasked (opt F) (λ s p. led (eqb (field s p 1) 0) s (p + 1))
  opt-unasked =
      record {
        from = λ s p. from-later p (p + 1) (led (eqb (field s p 1) 0) s (p + 1)) (omega arith) (led-from (eqb (field s p 1) 0) s (p + 1));
        agrees =
            λ s p.
            flag-agrees s p (λ b q. led (eqb b 0) s q) (λ b q. pick (eqb b 0) (ok none q) (F.read s q then λ a r. ok (some a) r))
            (λ b q. led-from (eqb b 0) s q) (λ b q. led-agrees (eqb b 0) s q);
      }

  release-unasked : Unasked (release F) (λ s p. pick (eqb p (length s * 8)) (took none p) (led (eqb (field s p 1) (pad_bit p)) s (p + 1)))
  release-unasked =
      record {
        from =
            λ s p.
            pick-from p (eqb p (length s * 8)) (took none p) (led (eqb (field s p 1) (pad_bit p)) s (p + 1)) (omega arith)
            (from-later p (p + 1) (led (eqb (field s p 1) (pad_bit p)) s (p + 1)) (omega arith) (led-from (eqb (field s p 1) (pad_bit p)) s (p + 1)));
        agrees =
            λ s p.
            pick-agrees (length s * 8) (eqb p (length s * 8)) (took none p) (led (eqb (field s p 1) (pad_bit p)) s (p + 1))
            (ok none p) ((num 1).read s p then λ b q. pick (eqb b (pad_bit p)) (ok none q) (F.read s q then λ a r. ok (some a) r))
            (λ _. refl)
            (flag-agrees s p (λ b q. led (eqb b (pad_bit p)) s q) (λ b q. pick (eqb b (pad_bit p)) (ok none q) (F.read s q then λ a r. ok (some a) r))
            (λ b q. led-from (eqb b (pad_bit p)) s q) (λ b q. led-agrees (eqb b (pad_bit p)) s q));
      }

  -- behind a test
  abbrev tested : (A → Bool) → A → ℕ → Took A
  tested t a q = pick (t a) (took a q) unmet

  tested-from : (t : A → Bool) (a : A) (q : ℕ) → From q (tested t a q)
  tested-from t a q = pick-from q (t a) (took a q) unmet (omega arith) tt

  checked-unasked : (t : A → Bool) (m : ℕ) → Unasked (checked t m F) (λ s p. T s p on λ a q. tested t a q)
  checked-unasked t m =
      record {
        from = λ s p. on-from p (T s p) (λ a q. tested t a q) (u.from s p) (λ a q. tested-from t a q);
        agrees =
            λ s p.
            on_agrees (length s * 8) (λ a q. tested t a q) (λ a q. pick (t a) (ok a q) (bad (ground m))) (λ a q. tested-from t a q)
            (λ a q. pick-agrees (length s * 8) (t a) (took a q) unmet (ok a q) (bad (ground m)) (λ _. refl) tt)
            (T s p) (F.read s p) (u.agrees s p);
      }

  when-unasked : (t : Bool) → Unasked (when t F) (λ s p. pick t (T s p on λ a q. took (some a) q) (took none p))
  when-unasked t =
      record {
        from = λ s p. pick-from p t (T s p on λ a q. took (some a) q) (took none p) (named-from F T u some s p) (omega arith);
        agrees =
            λ s p.
            pick-agrees (length s * 8) t (T s p on λ a q. took (some a) q) (took none p) (F.read s p then λ a q. ok (some a) q) (ok none p)
            (named-agrees F T u some s p) (λ _. refl);
      }

  -- only refusals have another number inside a release
  renumbered-agrees : (m n : ℕ) (x : Took A) (r : Res A) → Agrees n x r → Agrees n x (numbered_as m r)
  renumbered-agrees m n unmet r h = tt
  renumbered-agrees m n (took a q) r h = λ k. ap (λ z. numbered_as m z) (h k)

  inside-unasked : (m : ℕ) → Unasked (in_release m F) T
  inside-unasked m = record { from = u.from; agrees = λ s p. renumbered-agrees m (length s * 8) (T s p) (F.read s p) (u.agrees s p) }

  -- as many parts as the bound allows
  items-from : (k : ℕ) (s : List ℕ) (p : ℕ) → From p (take_items T k s p)
  unfolding take_items
  items-from zero s p = tt
  items-from (suc k) s p =
      pick-from p (eqb (field s p 1) 0) (took [] (p + 1)) (T s (p + 1) on λ a r. take_items T k s r on λ l t. took (a ∷ l) t) (omega arith)
      (on-from p (T s (p + 1)) (λ a r. take_items T k s r on λ l t. took (a ∷ l) t) (from-later p (p + 1) (T s (p + 1)) (omega arith) (u.from s (p + 1)))
      (λ a r. on-from r (take_items T k s r) (λ l t. took (a ∷ l) t) (items-from k s r) (λ l t. omega arith)))

  rest_from : (k : ℕ) (s : List ℕ) (a : A) (r : ℕ) → From r (take_items T k s r on λ l t. took (a ∷ l) t)
  rest_from k s a r = on-from r (take_items T k s r) (λ l t. took (a ∷ l) t) (items-from k s r) (λ l t. omega arith)

  items-agrees : (k : ℕ) (s : List ℕ) (p : ℕ) → Agrees (length s * 8) (take_items T k s p) (read_items F k s p)
  unfolding take_items read_items
  items-agrees zero s p = tt
  items-agrees (suc k) s p =
      let n : ℕ = length s * 8 in
      flag-agrees s p
      (λ b q. pick (eqb b 0) (took [] q) (T s q on λ a r. take_items T k s r on λ l t. took (a ∷ l) t))
      (λ b q. pick (eqb b 0) (ok [] q) (F.read s q then λ a r. read_items F k s r then λ l t. ok (a ∷ l) t))
      (λ b q. pick-from q (eqb b 0) (took [] q) (T s q on λ a r. take_items T k s r on λ l t. took (a ∷ l) t) (omega arith)
      (on-from q (T s q) (λ a r. take_items T k s r on λ l t. took (a ∷ l) t) (u.from s q) (λ a r. rest_from k s a r)))
      (λ b q. pick-agrees n (eqb b 0) (took [] q) (T s q on λ a r. take_items T k s r on λ l t. took (a ∷ l) t)
      (ok [] q) (F.read s q then λ a r. read_items F k s r then λ l t. ok (a ∷ l) t) (λ _. refl)
      (on_agrees n (λ a r. take_items T k s r on λ l t. took (a ∷ l) t) (λ a r. read_items F k s r then λ l t. ok (a ∷ l) t) (λ a r. rest_from k s a r)
      (λ a r. on_agrees n (λ l t. took (a ∷ l) t) (λ l t. ok (a ∷ l) t) (λ l t. omega arith) (λ l t _. refl)
      (take_items T k s r) (read_items F k s r) (items-agrees k s r))
      (T s q) (F.read s q) (u.agrees s q)))

  list-unasked : Unasked (list F) (λ s p. take_items T (length s * 8 + 1) s p)
  list-unasked = record { from = λ s p. items-from (length s * 8 + 1) s p; agrees = λ s p. items-agrees (length s * 8 + 1) s p }

module _ {A B : Type 0} (F : Format A) (G : Format B) (T : List ℕ → ℕ → Took A) (U : List ℕ → ℕ → Took B) (t : Unasked F T) (u : Unasked G U) where
  -- one of two, by a flag
  abbrev chosen : List ℕ → ℕ → ℕ → Took (A ⊎ B)
  chosen s b q = pick (eqb b 0) (T s q on λ a r. took (inl a) r) (U s q on λ b r. took (inr b) r)

  chosen-from : (s : List ℕ) (b q : ℕ) → From q (chosen s b q)
  chosen-from s b q =
      pick-from q (eqb b 0) (T s q on λ a r. took (inl a) r) (U s q on λ b r. took (inr b) r)
      (named-from {B = A ⊎ B} F T t inl s q) (named-from {B = A ⊎ B} G U u inr s q)

  either-unasked : Unasked (either F G) (λ s p. chosen s (field s p 1) (p + 1))
  either-unasked =
      record {
        from = λ s p. from-later p (p + 1) (chosen s (field s p 1) (p + 1)) (omega arith) (chosen-from s (field s p 1) (p + 1));
        agrees =
            λ s p.
            flag-agrees s p (λ b q. chosen s b q) (λ b q. pick (eqb b 0) (F.read s q then λ a r. ok (inl a) r) (G.read s q then λ b r. ok (inr b) r))
            (λ b q. chosen-from s b q)
            (λ b q. pick-agrees (length s * 8) (eqb b 0) (T s q on λ a r. took (inl a) r) (U s q on λ b r. took (inr b) r)
            (F.read s q then λ a r. ok (inl a) r) (G.read s q then λ b r. ok (inr b) r)
            (named-agrees {B = A ⊎ B} F T t inl s q) (named-agrees {B = A ⊎ B} G U u inr s q));
      }

-- ## Every grammar

unasked : {A : Type 0} (g : Grammar A) → Unasked (format g) (taken g)
unasked (number w) = num-unasked w
unasked (numbers ws) = row-unasked ws
unasked low-high = coded-unasked
unasked (◌and◌ f g) = after-unasked (format f) (λ a. format g) (taken f) (λ a. taken g) (unasked f) (λ a. unasked g)
unasked (◌then_by◌ f g) = after-unasked (format f) (λ a. format (g a)) (taken f) (λ a. taken (g a)) (unasked f) (λ a. unasked (g a))
unasked (flagged f) = opt-unasked (format f) (taken f) (unasked f)
unasked (listed f) = list-unasked (format f) (λ t q. taken f t q) (unasked f)
unasked (later f) = release-unasked (format f) (taken f) (unasked f)
unasked (one_of f g) = either-unasked (format f) (format g) (taken f) (taken g) (unasked f) (unasked g)
unasked (only_if t f) = when-unasked (format f) (taken f) (unasked f) t
unasked (refuse m t f) = checked-unasked (format f) (taken f) (unasked f) t m
unasked (inside m f) = inside-unasked (format f) (taken f) (unasked f) m

pub ends-inside : {A : Type 0} (g : Grammar A) (s : List ℕ) (p : ℕ) (a : A) (q : ℕ) → taken g s p ≡ took a q → q ≤ length s * 8 → (format g).read s p ≡ ok a q
ends-inside g s p a q e l = subst (λ (x : Took _). Agrees (length s * 8) x ((format g).read s p)) e ((unasked g).agrees s p) l
