-- Laws of lists that the loops over octets step by. Assumes nothing.
use mathlib.Core.Path.{◌≡◌, refl, ap, ◌∙◌}
use mathlib.Core.Bool.{true, false}
use mathlib.Core.List.{List, [], ◌∷◌, ◌++◌, append-nil}
use native.Mathlib.Omega.{arith}
use native.Mathlib.Numerals.{add-one}
use borrow.Author.Tests.{le-leb, lt-leb, leb-true}
use Prim.Native.Nat.{ℕ, zero, suc, ◌+◌, ◌-◌, ◌≤◌, ◌<◌}
use lib.ListN.{length, get_or, set, take, drop, length-drop, length-append}
use lib.Seq.{drop-cons, drop-length, take_all, take-length, take_at, paste, paste-suc}
use lib.Dec.{leb}
use Rattle.bits.specs.Field.{both}
use Rattle.gcc.specs.Octet.{all_between}
use Rattle.gcc.specs.Inner.{copied}
use Rattle.bits.proofs.Answers.{both_true}

-- an octet in the range leaves the question to the octets behind it
pub within-next : (lo hi i : ℕ) (s : List ℕ) → i < length s → lo ≤ get_or s i 0 → get_or s i 0 ≤ hi → all_between lo hi (drop i s) ≡ all_between lo hi (drop (i + 1) s)
unfolding all_between
within-next lo hi i s h l u = rw (add-one, drop-cons s i 0, le-leb lo (get_or s i 0) l, le-leb (get_or s i 0) hi u)

-- an octet outside the range answers it
pub within_low : (lo hi i : ℕ) (s : List ℕ) → i < length s → get_or s i 0 < lo → all_between lo hi (drop i s) ≡ false
unfolding all_between
within_low lo hi i s h l = rw (drop-cons s i 0, lt-leb lo (get_or s i 0) l)

pub within-high : (lo hi i : ℕ) (s : List ℕ) → i < length s → lo ≤ get_or s i 0 → hi < get_or s i 0 → all_between lo hi (drop i s) ≡ false
unfolding all_between
within-high lo hi i s h l u = rw (drop-cons s i 0, le-leb lo (get_or s i 0) l, lt-leb (get_or s i 0) hi u)

-- each of those that are all in the range is
pub within-each : (lo hi : ℕ) (s : List ℕ) → all_between lo hi s ≡ true → (i : ℕ) → i < length s → (lo ≤ get_or s i 0) × (get_or s i 0 ≤ hi)
unfolding all_between
within-each lo hi [] e i h = absurd (omega arith)
within-each lo hi (x ∷ s) e zero h =
    let b = both_true (both (leb lo x) (leb x hi)) (all_between lo hi s) e in
    let d = both_true (leb lo x) (leb x hi) b.0 in
    (leb-true lo x d.0, leb-true x hi d.1)
within-each lo hi (x ∷ s) e (suc i) h =
    within-each lo hi s (both_true (both (leb lo x) (leb x hi)) (all_between lo hi s) e).1 i (omega arith)

-- nothing is left
pub drop_all : (i : ℕ) (s : List ℕ) → i ≤ length s → length s ≤ i → drop i s ≡ []
drop_all i s h l =
    let e : i ≡ length s = omega arith in
    ap (λ k. drop k s) e ∙ drop-length s

-- what was stored stands first where the list is cut before it
pub drop-set-here : (l : List ℕ) (i v : ℕ) → i < length l → drop i (set l i v) ≡ v ∷ drop (suc i) l
drop-set-here [] i v h = absurd (omega arith)
drop-set-here (x ∷ l) zero v h = refl
drop-set-here (x ∷ l) (suc i) v h = drop-set-here l i v (omega arith)

-- one octet more is copied
pub copy-next : (d : List ℕ) (at : ℕ) (s : List ℕ) (i : ℕ) → at + i < length d → i < length s
    → set (paste d at s i) (at + i) (get_or s i 0) ≡ paste d at s (i + 1)
copy-next d at s i h k = rw (add-one i) (paste-suc d at s i 0 h k)

-- all are copied
pub copy-end : (d : List ℕ) (at : ℕ) (s : List ℕ) → paste d at s (length s) ≡ copied d at s
unfolding copied
copy-end d at s = rw take-length

-- two lists copied one behind the other, where there is just room for them
pub copied-both : (d l m : List ℕ) → length d ≡ length l + length m → copied (copied d 0 l) (length l) m ≡ l ++ m
unfolding copied
copied-both d l m e =
    let p : List ℕ = l ++ drop (0 + length l) d in
    let n : drop (length l + length m) p ≡ [] = drop_all (length l + length m) p (simp (length-append, length-drop) (omega arith)) (simp (length-append, length-drop) (omega arith)) in
    rw (take_at l (drop (0 + length l) d) (length l) refl, n) (append-nil (l ++ m))

-- all that lies behind the first n of k
pub rest_all : (n k : ℕ) (l : List ℕ) → length l ≡ k → take (k - n) (drop n l) ≡ drop n l
rest_all n k l e = take_all (k - n) (drop n l) (rw length-drop (omega arith))
