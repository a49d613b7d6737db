-- Laws of causes: where one closes, what it says up to there, and its octets. Assumes nothing.
use mathlib.Core.Path.{◌≡◌, refl, sym, ap, ◌∙◌}
use mathlib.Core.Bool.{Bool, true, false}
use mathlib.Core.List.{List, [], ◌∷◌, ◌++◌}
use mathlib.Core.Option.{none, some}
use mathlib.Core.Logic.{◌⊎◌, inl, inr, ⊎_elim}
use native.Mathlib.Nat.{zero-add}
use native.Mathlib.Omega.{arith}
use native.Mathlib.Numerals.{add-one}
use borrow.Author.Tests.{le-leb, lt-leb, leb-true, leb-false, ne_eqb}
use Prim.Native.Nat.{ℕ, zero, suc, ◌+◌, ◌-◌, ◌≤◌, ◌<◌}
use lib.Dec.{leb}
use lib.ListN.{length, get_or, set, take, drop, replicate, length-set, length-drop}
use lib.Seq.{drop-cons, length-take-le, take-set-lt, get_or-take, set-append_left, take-append_seam}
use Rattle.gcc.specs.Inner.{copied, closing}
use Rattle.gcc.specs.Cause.{parse, led, single, meaning_of, in_places, said, cause_octets}
use Rattle.gcc.specs.declared.cause.Meaning.{Meaning}
use Rattle.gcc.specs.declared.cause.Meaning.TheVariants.{Unspecific}
use Rattle.gcc.specs.declared.cause.Reading.{Reading}
use Rattle.gcc.proofs.Lists.{copied-both, rest_all}

-- ## The steps of the search

-- the next of the octets that are left
left-cons : (s : List ℕ) (at left : ℕ) → at < length s → 0 < left → take left (drop at s) ≡ get_or s at 0 ∷ take (left - 1) (drop (at + 1) s)
left-cons s at zero h l = absurd (omega arith)
left-cons s at (suc n) h l =
    let one : suc n - 1 ≡ n = omega arith in
    rw (drop-cons s at 0 h, one, add-one)

pub closing-here : (s : List ℕ) (at left : ℕ) → at < length s → 0 < left → 127 < get_or s at 0 → closing (take left (drop at s)) ≡ 0
unfolding closing
closing-here s at left h l k = rw (left-cons s at left h l, le-leb 128 (get_or s at 0) k)

pub closing-next : (s : List ℕ) (at left : ℕ) → at < length s → 0 < left → get_or s at 0 ≤ 127
    → closing (take left (drop at s)) ≡ suc (closing (take (left - 1) (drop (at + 1) s)))
unfolding closing
closing-next s at left h l k = rw (left-cons s at left h l, lt-leb 128 (get_or s at 0) (omega arith))

-- where the octets close, found in the array that keeps them
pub closing-kept : (s a : List ℕ) (r : ℕ) → a ≡ in_places s → r ≡ 0 + closing (take (length s) (drop 0 a)) → closing s ≡ r
closing-kept s a r e q =
    let t : take (length s) a ≡ s = ap (take (length s)) e ∙ take-append_seam s (replicate (255 - length s) 0) in
    omega (arith, ap closing t)

-- ## What the octets say

-- an octet either closes the cause, or stands before the rest
pub record Marked (o : ℕ) (s : List ℕ) : Type 0 where
  pub high : 128 ≤ o
  pub here : closing (o ∷ s) ≡ 0
  pub last : parse (o ∷ s) ≡ some ((o - 128) ∷ [], s)

pub record Plain (o : ℕ) (s : List ℕ) : Type 0 where
  pub low : o < 128
  pub later : closing (o ∷ s) ≡ suc (closing s)
  pub more : parse (o ∷ s) ≡ led o (parse s)

pub marked_or_plain : (o : ℕ) (s : List ℕ) → Marked o s ⊎ Plain o s
unfolding closing parse
marked_or_plain o s = go (leb 128 o) refl
  where
    go : (b : Bool) → leb 128 o ≡ b → Marked o s ⊎ Plain o s
    go true e = inl (record { high = leb-true 128 o e; here = rw e; last = rw e })
    go false e = inr (record { low = leb-false 128 o e; later = rw e; more = rw e })

pub closing_le : (s : List ℕ) → closing s ≤ length s
unfolding closing
closing_le [] = omega arith
closing_le (o ∷ s) = ⊎_elim (λ m. omega (arith, m.here)) (λ p. omega (arith, p.later, closing_le s)) (marked_or_plain o s)

-- a cause that closes is its octets up to there, the mark taken off the last, and what follows
pub parse-at : (k : ℕ) (s : List ℕ) → closing s ≡ k → k < length s
    → (127 < get_or s k 0) × (parse s ≡ some (set (take (suc k) s) k (get_or s k 0 - 128), drop (suc k) s))
parse-at k [] e h = absurd (omega arith)
parse-at zero (o ∷ s) e h = ⊎_elim (λ m. (m.high, m.last)) (λ p. absurd (omega (arith, p.later))) (marked_or_plain o s)
parse-at (suc k) (o ∷ s) e h =
    ⊎_elim (λ m. absurd (omega (arith, m.here)))
    (λ p. let r = parse-at k s (omega (arith, p.later)) (omega arith) in (r.0, p.more ∙ ap (led o) r.1))
    (marked_or_plain o s)

-- one that does not says nothing
pub parse-never : (s : List ℕ) → length s ≤ closing s → parse s ≡ none
unfolding parse
parse-never [] h = refl
parse-never (o ∷ s) h =
    ⊎_elim (λ m. absurd (omega (arith, m.here))) (λ p. p.more ∙ ap (led o) (parse-never s (omega (arith, p.later)))) (marked_or_plain o s)

-- ## The arrays

drop-zeros : (n m : ℕ) → drop n (replicate {A = ℕ} m 0) ≡ replicate (m - n) 0
drop-zeros zero m = ap (λ k. replicate {A = ℕ} k 0) (minus m)
  where
    minus : (m : ℕ) → m ≡ m - 0
    minus m = omega arith
drop-zeros (suc n) zero = ap (λ k. replicate {A = ℕ} k 0) (minus n)
  where
    minus : (n : ℕ) → 0 ≡ 0 - suc n
    minus n = omega arith
drop-zeros (suc n) (suc m) = drop-zeros n m ∙ ap (λ k. replicate {A = ℕ} k 0) (minus m n)
  where
    minus : (m n : ℕ) → m - n ≡ suc m - suc n
    minus m n = omega arith

-- what is copied into an array of zeros fills its first places
pub copied-places : (s : List ℕ) → copied (replicate 255 0) 0 s ≡ in_places s
unfolding copied
copied-places s = ap (λ t. s ++ t) (drop-zeros (0 + length s) 255 ∙ rw zero-add)

set-places : (l : List ℕ) (i v : ℕ) → i < length l → set (in_places l) i v ≡ in_places (set l i v)
set-places l i v h = rw (set-append_left l (replicate (255 - length l) 0) i v h, length-set l i v)

-- ## The meaning

-- more than one cause part is unspecific
several : (count n : ℕ) → 1 < count → single count n ≡ Unspecific
several count n h = rw (ne_eqb count 1 (λ e. omega arith))

meaning_last : (s : List ℕ) (e v : ℕ) → e < length s → single (e + 1) v ≡ meaning_of (set (take (e + 1) s) e v)
unfolding meaning_of
meaning_last [] e v h = absurd (omega arith)
meaning_last (o ∷ s) zero v h = refl
meaning_last (o ∷ s) (suc e) v h =
    let l : List ℕ = set (take (suc e + 1) (o ∷ s)) (suc e) v in
    let n : length l ≡ suc e + 1 = length-set (take (suc e + 1) (o ∷ s)) (suc e) v ∙ length-take-le (suc e + 1) (o ∷ s) (omega arith) in
    several (suc e + 1) v (omega arith) ∙ sym (several (length l) (get_or l 0 0) (omega arith))

-- ## Reading and writing

-- a cause that closes at e, as the reader keeps it
pub tells : (s : List ℕ) (e v : ℕ) (a b : List ℕ) (m : Meaning) → e < length s
    → a ≡ in_places (take (e + 1) s) → b ≡ in_places (take (length s - (e + 1)) (drop (e + 1) s)) → m ≡ single (e + 1) v
    → ◌≡◌ {A = Reading} (record { refusal = 0; meaning = m; cause = record { count = e + 1; septets = set a e v; size = length s - (e + 1); diagnostics = b } })
    (said (set (take (e + 1) s) e v) (drop (e + 1) s))
tells s e v a b m h p q r =
    let t : length (take (e + 1) s) ≡ e + 1 = length-take-le (e + 1) s (omega arith) in
    let w : set a e v ≡ in_places (set (take (e + 1) s) e v) = ap (λ x. set x e v) p ∙ set-places (take (e + 1) s) e v (omega arith) in
    let d : b ≡ in_places (drop (e + 1) s) = q ∙ ap in_places (rest_all (e + 1) (length s) s refl) in
    rw (w, d, r, meaning_last s e v h, length-set, t, length-drop)

-- the octets of a cause are its parts, the last marked, and the diagnostics
form-set : (k : ℕ) (l d : List ℕ) → length l ≡ suc k → cause_octets l d ≡ set l k (get_or l k 0 + 128) ++ d
unfolding cause_octets
form-set k [] d e = absurd (omega arith)
form-set zero (n ∷ []) d e = refl
form-set zero (n ∷ m ∷ l) d e = absurd (omega arith)
form-set (suc k) (n ∷ []) d e = absurd (omega arith)
form-set (suc k) (n ∷ m ∷ l) d e = ap (λ t. n ∷ t) (form-set k (m ∷ l) d (omega arith))

-- as the writer puts them
pub fills : (n : ℕ) (l d b p q : List ℕ) → 0 < n → n ≤ length l → length b ≡ n + length d
    → p ≡ copied b 0 (take n (set l (n - 1) (get_or l (n - 1) 0 + 128))) → q ≡ copied p n d → q ≡ cause_octets (take n l) d
fills zero l d b p q z h e x y = absurd (omega arith)
fills (suc k) l d b p q z h e x y =
    let one : suc k - 1 ≡ k = omega arith in
    let t : length (take (suc k) l) ≡ suc k = length-take-le (suc k) l h in
    let v : ℕ = get_or (take (suc k) l) k 0 + 128 in
    let m : List ℕ = set (take (suc k) l) k v in
    let n : length m ≡ suc k = length-set (take (suc k) l) k v ∙ t in
    let g : take (suc k) (set l k (get_or l k 0 + 128)) ≡ m =
    take-set-lt (suc k) l k (get_or l k 0 + 128) (omega arith) ∙ ap (λ i. set (take (suc k) l) k (i + 128)) (sym (get_or-take (suc k) l k 0 (omega arith))) in
    let w : p ≡ copied b 0 (take (suc k) (set l k (get_or l k 0 + 128))) = rw one at x in
    y
    ∙ ap (λ i. copied i (suc k) d) (w ∙ ap (copied b 0) g)
    ∙ ap (λ i. copied (copied b 0 m) i d) (sym n)
    ∙ copied-both b m d (omega arith)
    ∙ sym (form-set k (take (suc k) l) d t)
