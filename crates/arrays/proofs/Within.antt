-- Numbers within their limits: one by one, those behind a place, and runs one behind the other. Assumes nothing.
use mathlib.Core.Path.{◌≡◌, refl, sym, ap, ◌∙◌}
use mathlib.Core.List.{List, [], ◌∷◌, ◌++◌, map}
use mathlib.Core.Bool.{Bool, true, false, ◌&&◌}
use Prim.Native.Nat.{ℕ, zero, suc, ◌+◌, ◌-◌, ◌≤◌, ◌<◌, min}
use native.Mathlib.Numerals.{add-one}
use native.Mathlib.Decide.{dec_le}
use native.Mathlib.Omega.{arith}
use Rattle.std.specs.List.{list_all, zip}
use lib.Dec.{leb}
use lib.ListN.{length, get_or, take, drop, length-append, length-drop, drop_of_length-le}
use lib.Seq.{take_all, drop-cons}
use borrow.Author.Tests.{le-leb, lt-leb, leb-true}
use Rattle.bits.specs.Field.{both}
use Rattle.bits.proofs.Answers.{both_true}
use Rattle.csn1.specs.Format.{Format, ItemsFit}
use Rattle.csn1.specs.Told.{padded}
use Rattle.csn1.proofs.Telling.{true-both}
use Rattle.arrays.specs.Limits.{within, times}
use Rattle.arrays.specs.Runs.{each}

-- ## Each number beside its limit

pub within-zip : (ns most : List ℕ) → list_all (λ (p : ℕ × ℕ). leb p.0 p.1) (zip ns most) ≡ within ns most
unfolding within
within-zip [] most = refl
within-zip (n ∷ ns) [] = refl
within-zip (n ∷ ns) (m ∷ most) = rw (within-zip ns most) (one (leb n m) (within ns most))
  where
    one : (a b : Bool) → a && b ≡ both a b
    one true b = refl
    one false b = refl

-- ## A loop over them: the first i are within

pub within-next : (ns most : List ℕ) (i : ℕ) → i < length ns → i < length most → get_or ns i 0 ≤ get_or most i 0
    → within ns most ≡ within (drop i ns) (drop i most) → within ns most ≡ within (drop (i + 1) ns) (drop (i + 1) most)
unfolding within
within-next ns most i h k t e = e ∙ rw (drop-cons ns i 0 h, drop-cons most i 0 k, le-leb (get_or ns i 0) (get_or most i 0) t, add-one i)

pub within_not : (ns most : List ℕ) (i : ℕ) → i < length ns → i < length most → get_or most i 0 < get_or ns i 0
    → within ns most ≡ within (drop i ns) (drop i most) → false ≡ within ns most
unfolding within
within_not ns most i h k t e = sym (e ∙ rw (drop-cons ns i 0 h, drop-cons most i 0 k, lt-leb (get_or ns i 0) (get_or most i 0) t))

within_none : (l : List ℕ) → within l [] ≡ true
unfolding within
within_none [] = refl
within_none (a ∷ l) = refl

pub within_end : (ns most : List ℕ) (i : ℕ) → min (length ns) (length most) ≤ i → within ns most ≡ within (drop i ns) (drop i most) → true ≡ within ns most
unfolding within
within_end ns most i h e = sym (e ∙ go (dec_le (length ns) i))
  where
    go : Dec (length ns ≤ i) → within (drop i ns) (drop i most) ≡ true
    go (yes k) = rw (drop_of_length-le ns {i = i} k)
    go (no k) = rw (drop_of_length-le most {i = i} (omega arith)) (within_none (drop i ns))

-- ## Each of them is

pub within-at : (ns most : List ℕ) (k : ℕ) → within ns most ≡ true → k < length most → get_or ns k 0 ≤ get_or most k 0
unfolding within
within-at [] most zero e h = omega arith
within-at [] most (suc k) e h = omega arith
within-at (n ∷ ns) [] k e h = absurd (omega arith)
within-at (n ∷ ns) (m ∷ most) zero e h = leb-true n m (both_true (leb n m) (within ns most) e).0
within-at (n ∷ ns) (m ∷ most) (suc k) e h = within-at ns most k (both_true (leb n m) (within ns most) e).1 (omega arith)

-- ## Those from a place on, which are a part of the array

pub rest-whole : (a : ℕ) (l : List ℕ) → take (length l - a) (drop a l) ≡ drop a l
rest-whole a l = take_all (length l - a) (drop a l) (omega (arith, length-drop a l))

-- what `limits::holds` says of them
pub within-rest : (a : ℕ) (l most : List ℕ) (b : Bool) → b ≡ within (take (length l - a) (drop a l)) most → within (drop a l) most ≡ b
within-rest a l most b e = sym (e ∙ ap (λ (x : List ℕ). within x most) (rest-whole a l))

-- ## Runs one behind the other

-- as many numbers as limits, and none above its own
abbrev pub Held : List ℕ → List ℕ → Type 0
Held a m = (length a ≡ length m) × (within a m ≡ true)

pub within-append : (a m b n : List ℕ) → length a ≡ length m → within a m ≡ true → within b n ≡ true → within (a ++ b) (m ++ n) ≡ true
unfolding within
within-append [] [] b n l p q = q
within-append (x ∷ a) (y ∷ m) b n l p q =
    let t = both_true (leb x y) (within a m) p in
    true-both t.0 (within-append a m b n (omega arith) t.1 q)
within-append [] (y ∷ m) b n l p q = absurd (omega arith)
within-append (x ∷ a) [] b n l p q = absurd (omega arith)

pub held-append : (a m b n : List ℕ) → Held a m → Held b n → Held (a ++ b) (m ++ n)
held-append a m b n p q = (length-append a b ∙ rw (p.0, q.0) (sym (length-append m n)), within-append a m b n p.0 p.1 q.1)

-- a list's entries in their n places, each within m
module _ {A B : Type 0} (F : Format B) (told : B → A) (z : A) (f : A → List ℕ) (m : List ℕ) (fixed : (a : A) → length (f a) ≡ length m)
    (unused : within (f z) m ≡ true) (used : (v : B) → F.fits v → within (f (told v)) m ≡ true) where
  pub run-held : (n : ℕ) (l : List B) → ItemsFit F l → Held (each f (padded z n (map told l))) (times n m)
  unfolding each within
  run-held zero l g = (refl, refl)
  run-held (suc n) [] g = held-append (f z) m (each f (padded z n [])) (times n m) (fixed z, unused) (run-held n [] g)
  run-held (suc n) (v ∷ l) g = held-append (f (told v)) m (each f (padded z n (map told l))) (times n m) (fixed (told v), used v g.0) (run-held n l g.1)
