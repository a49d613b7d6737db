-- Laws of the halving: its bound, its looks, what it finds among any keys, and among rising ones. Only here is it unfolded. Assumes nothing.
use mathlib.Core.Path.{◌≡◌, refl, sym, ap, ◌∙◌}
use mathlib.Core.Bool.{Bool, true, false}
use mathlib.Core.List.{List, [], ◌∷◌}
use Prim.Native.Nat.{ℕ, zero, suc, ◌+◌, ◌-◌, ◌*◌, ◌^◌, ◌≤◌, ◌<◌, min}
use native.Mathlib.Nat.{pow-suc, sub-zero, zero-add, add-zero, min-eq_left, min-eq_right}
use native.Mathlib.Omega.{arith}
use lib.ListN.{length, get_or, take}
use lib.Seq.{take_all}
use lib.Dec.{ltb, eqb}
use borrow.Author.Tests.{eqb-true, eqb-false, eq-eqb, ne_eqb, lt-ltb, le-ltb, ltb-true, ltb-false}
use Rattle.bits.specs.Field.{pick}
use Rattle.bits.proofs.Answers.{both_true}
use Rattle.receiver.specs.declared.finding.Found.{Found}
use Rattle.receiver.specs.Channels.{key_count}
use Rattle.receiver.specs.Halving.{found_at, not_found, looked, middle_of, sought_in, halving, first_of, below_next, rises}
use Rattle.receiver.specs.Model.{index_of}
use Rattle.receiver.specs.Promises.{Rising}
use Rattle.receiver.proofs.Cases.{by-test}

-- two numbers are the same, or one is less
pub by_order : {P : Type 0} (a b : ℕ) → (a ≡ b → P) → (a < b → P) → (b < a → P) → P
by_order a b f g h =
    by-test (eqb a b) (λ e. f (eqb-true a b e)) (λ e. by-test (ltb a b) (λ l. g (ltb-true a b l)) (λ l. h (omega (arith, ltb-false a b l, eqb-false a b e))))

-- ## One look

no_look : (ks : List ℕ) (key start end : ℕ) → sought_in 0 ks key start end ≡ not_found
unfolding sought_in
no_look ks key start end = refl

pub none_left : (n : ℕ) (ks : List ℕ) (key start end : ℕ) → end ≤ start → sought_in n ks key start end ≡ not_found
unfolding sought_in
none_left zero ks key start end h = refl
none_left (suc n) ks key start end h = rw (le-ltb start end h)

module _ (n : ℕ) (ks : List ℕ) (key start end : ℕ) (h : start < end) where
  abbrev middle : ℕ
  middle = middle_of start end

  look_same : get_or ks middle 0 ≡ key → sought_in (suc n) ks key start end ≡ looked (found_at middle)
  unfolding sought_in
  look_same e = rw (lt-ltb start end h, eq-eqb key (get_or ks middle 0) (sym e))

  look_below : key < get_or ks middle 0 → sought_in (suc n) ks key start end ≡ looked (sought_in n ks key start middle)
  unfolding sought_in
  look_below e = rw (lt-ltb start end h, ne_eqb key (get_or ks middle 0) (λ q. omega arith), lt-ltb key (get_or ks middle 0) e)

  look_above : get_or ks middle 0 < key → sought_in (suc n) ks key start end ≡ looked (sought_in n ks key (middle + 1) end)
  unfolding sought_in
  look_above e = rw (lt-ltb start end h, ne_eqb key (get_or ks middle 0) (λ q. omega arith), le-ltb key (get_or ks middle 0) (omega arith))

-- ## The bound is none where it is no less than what is left

enough : (n m : ℕ) (ks : List ℕ) (key start end : ℕ) → end - start ≤ n → end - start ≤ m → sought_in n ks key start end ≡ sought_in m ks key start end
enough zero m ks key start end a b = none_left zero ks key start end (omega arith) ∙ sym (none_left m ks key start end (omega arith))
enough (suc n) zero ks key start end a b = none_left (suc n) ks key start end (omega arith) ∙ sym (none_left zero ks key start end (omega arith))
enough (suc n) (suc m) ks key start end a b =
    by-test (ltb start end)
    (λ t.
    let h : start < end = ltb-true start end t in
    by_order key (get_or ks (middle_of start end) 0)
    (λ e. look_same n ks key start end h (sym e) ∙ sym (look_same m ks key start end h (sym e)))
    (λ e. look_below n ks key start end h e ∙ ap looked (enough n m ks key start (middle_of start end) (omega arith) (omega arith)) ∙ sym (look_below m ks key start end h e))
    (λ e. look_above n ks key start end h e ∙ ap looked (enough n m ks key (middle_of start end + 1) end (omega arith) (omega arith)) ∙ sym (look_above m ks key start end h e)))
    (λ t. none_left (suc n) ks key start end (ltb-false start end t) ∙ sym (none_left (suc m) ks key start end (ltb-false start end t)))

-- ## How many looks

looks_of : {f g : Found} {k : ℕ} → f ≡ g → g.looks ≤ k → f.looks ≤ k
looks_of e h = rw e h

pub few_looks : (n k : ℕ) (ks : List ℕ) (key start end : ℕ) → end - start < 2 ^ k → (sought_in n ks key start end).looks ≤ k
few_looks zero k ks key start end h = looks_of (no_look ks key start end) (omega arith)
few_looks (suc n) zero ks key start end h = looks_of (none_left (suc n) ks key start end (omega arith)) (omega arith)
few_looks (suc n) (suc k) ks key start end h =
    let w : end - start < 2 * 2 ^ k = omega (arith, pow-suc 2 k) in
    by-test (ltb start end)
    (λ t.
    let l : start < end = ltb-true start end t in
    by_order key (get_or ks (middle_of start end) 0)
    (λ e. looks_of (look_same n ks key start end l (sym e)) (omega arith))
    (λ e. looks_of (look_below n ks key start end l e) (omega (arith, few_looks n k ks key start (middle_of start end) (omega arith))))
    (λ e. looks_of (look_above n ks key start end l e) (omega (arith, few_looks n k ks key (middle_of start end + 1) end (omega arith)))))
    (λ t. looks_of (none_left (suc n) ks key start end (ltb-false start end t)) (omega arith))

-- ## What is found, among any keys

-- at is no place, or one from start to end that has the key
pub data Finds (ks : List ℕ) (key start end at : ℕ) : Type 0 where
  nothing : at ≡ key_count → Finds ks key start end at
  place : start ≤ at → at < end → get_or ks at 0 ≡ key → Finds ks key start end at

finds-of : {ks : List ℕ} {key start end : ℕ} {f g : Found} → f ≡ g → Finds ks key start end g.at → Finds ks key start end f.at
finds-of e h = rw e h

wider : {ks : List ℕ} {key start end from to at : ℕ} → start ≤ from → to ≤ end → Finds ks key from to at → Finds ks key start end at
wider a b (nothing e) = nothing e
wider a b (place c d e) = place (omega arith) (omega arith) e

finds : (n : ℕ) (ks : List ℕ) (key start end : ℕ) → Finds ks key start end (sought_in n ks key start end).at
finds zero ks key start end = finds-of (no_look ks key start end) (nothing refl)
finds (suc n) ks key start end =
    by-test (ltb start end)
    (λ t.
    let h : start < end = ltb-true start end t in
    by_order key (get_or ks (middle_of start end) 0)
    (λ e. finds-of (look_same n ks key start end h (sym e)) (place (omega arith) (omega arith) (sym e)))
    (λ e. finds-of (look_below n ks key start end h e) (wider (omega arith) (omega arith) (finds n ks key start (middle_of start end))))
    (λ e. finds-of (look_above n ks key start end h e) (wider (omega arith) (omega arith) (finds n ks key (middle_of start end + 1) end))))
    (λ t. finds-of (none_left (suc n) ks key start end (ltb-false start end t)) (nothing refl))

pub all-finds : (ks : List ℕ) (key : ℕ) → Finds ks key 0 (length ks) (index_of ks key)
unfolding halving
all-finds ks key = finds (length ks) ks key 0 (length ks)

-- ## What is found, among rising keys

below_all : (k : ℕ) (ks : List ℕ) → below_next k ks ≡ true → rises ks ≡ true → (j : ℕ) → j < length ks → k < get_or ks j 0
unfolding rises
below_all k [] b r j h = absurd (omega arith)
below_all k (l ∷ ks) b r zero h = ltb-true k l b
below_all k (l ∷ ks) b r (suc j) h =
    let a = both_true (below_next l ks) (rises ks) r in
    omega (arith, ltb-true k l b, below_all l ks a.0 a.1 j (omega arith))

pub rising : (ks : List ℕ) → rises ks ≡ true → Rising ks
unfolding rises
rising [] r i j l h = absurd (omega arith)
rising (k ∷ ks) r zero zero l h = absurd (omega arith)
rising (k ∷ ks) r zero (suc j) l h = let a = both_true (below_next k ks) (rises ks) r in below_all k ks a.0 a.1 j (omega arith)
rising (k ∷ ks) r (suc i) zero l h = absurd (omega arith)
rising (k ∷ ks) r (suc i) (suc j) l h = rising ks (both_true (below_next k ks) (rises ks) r).1 i j (omega arith) (omega arith)

-- a key that stands among them is found where it stands
own-place : (n : ℕ) (ks : List ℕ) → Rising ks → (p start end : ℕ) → start ≤ p → p < end → end ≤ length ks → end - start ≤ n
    → (sought_in n ks (get_or ks p 0) start end).at ≡ p
own-place zero ks r p start end a b c d = absurd (omega arith)
own-place (suc n) ks r p start end a b c d =
    let h : start < end = omega arith in
    let k : ℕ = get_or ks p 0 in
    by_order p (middle_of start end)
    (λ e. ap (λ (f : Found). f.at) (look_same n ks k start end h (ap (λ (i : ℕ). get_or ks i 0) (sym e))) ∙ sym e)
    (λ e.
    ap (λ (f : Found). f.at) (look_below n ks k start end h (r p (middle_of start end) e (omega arith)))
    ∙ own-place n ks r p start (middle_of start end) a e (omega arith) (omega arith))
    (λ e.
    ap (λ (f : Found). f.at) (look_above n ks k start end h (r (middle_of start end) p e (omega arith)))
    ∙ own-place n ks r p (middle_of start end + 1) end (omega arith) b c (omega arith))

pub all_own : (ks : List ℕ) → Rising ks → (p : ℕ) → p < length ks → index_of ks (get_or ks p 0) ≡ p
unfolding halving
all_own ks r p h = own-place (length ks) ks r p 0 (length ks) (omega arith) h (omega arith) (omega arith)

-- ## From the front

fewer : {a b : ℕ} → suc a < suc b → a < b
fewer h = omega arith

pub first_found : (ks : List ℕ) (key : ℕ) → first_of ks key < length ks → get_or ks (first_of ks key) 0 ≡ key
unfolding first_of
first_found [] key h = absurd (omega arith)
first_found (k ∷ ks) key h = by-test (eqb k key) (λ p. simp p (eqb-true k key p)) (λ p. simp p (first_found ks key (fewer (rw p at h))))

-- a key is found no later than where it stands
pub no_later : (ks : List ℕ) (i d : ℕ) → i < length ks → first_of ks (get_or ks i d) ≤ i
unfolding first_of
no_later [] i d h = absurd (omega arith)
no_later (k ∷ ks) zero d h = rw (eq-eqb k k refl) (omega arith)
no_later (k ∷ ks) (suc i) d h = go (eqb k (get_or ks i d)) (no_later ks i d (omega arith))
  where
    go : (b : Bool) {m : ℕ} → m ≤ i → pick b 0 (suc m) ≤ suc i
    go true h = omega arith
    go false h = omega arith

-- among rising keys the halving finds what a search from the front finds
pub as_from-front : (ks : List ℕ) → Rising ks → (key : ℕ) → index_of ks key ≡ pick (ltb (first_of ks key) (length ks)) (first_of ks key) key_count
as_from-front ks r key =
    by-test (ltb (first_of ks key) (length ks))
    (λ p. let h : first_of ks key < length ks = ltb-true _ _ p in rw p (rw (first_found ks key h) at (all_own ks r (first_of ks key) h)))
    (λ p. rw p (go (ltb-false _ _ p) (all-finds ks key)))
  where
    go : {at : ℕ} → length ks ≤ first_of ks key → Finds ks key 0 (length ks) at → at ≡ key_count
    go l (nothing e) = e
    go {at} l (place a b e) = absurd (omega (arith, rw e at (no_later ks at 0 b)))

-- ## Going on, with no bound in sight

abbrev pub sought : List ℕ → ℕ → ℕ → ℕ → Found
sought ks key start end = sought_in (end - start) ks key start end

pub sought-all : (ks : List ℕ) (key : ℕ) → halving ks key ≡ sought ks key 0 (length ks)
unfolding halving
sought-all ks key = rw sub-zero

pub sought-none : (ks : List ℕ) (key start end : ℕ) → end ≤ start → sought ks key start end ≡ not_found
sought-none ks key start end h = none_left (end - start) ks key start end h

module _ (ks : List ℕ) (key start end : ℕ) (h : start < end) where
  more : sought ks key start end ≡ sought_in (suc (end - start)) ks key start end
  more = enough (end - start) (suc (end - start)) ks key start end (omega arith) (omega arith)

  pub sought-same : get_or ks (middle_of start end) 0 ≡ key → sought ks key start end ≡ looked (found_at (middle_of start end))
  sought-same e = more ∙ look_same (end - start) ks key start end h e

  pub sought-below : key < get_or ks (middle_of start end) 0 → sought ks key start end ≡ looked (sought ks key start (middle_of start end))
  sought-below e = more ∙ look_below (end - start) ks key start end h e ∙ ap looked (enough _ _ ks key start (middle_of start end) (omega arith) (omega arith))

  pub sought-above : get_or ks (middle_of start end) 0 < key → sought ks key start end ≡ looked (sought ks key (middle_of start end + 1) end)
  sought-above e = more ∙ look_above (end - start) ks key start end h e ∙ ap looked (enough _ _ ks key (middle_of start end + 1) end (omega arith) (omega arith))

-- ## After so many looks

abbrev counted : ℕ → Found → Found
counted n f = record { at = f.at; looks = n + f.looks }

pub record Going (ks : List ℕ) (key start end looks : ℕ) : Type 0 where
  pub inside : end ≤ length ks
  pub few : looks + (end - start) ≤ length ks
  finds : halving ks key ≡ counted looks (sought ks key start end)

pub going_begin : (ks : List ℕ) (key : ℕ) → Going ks key 0 (length ks) 0
going_begin ks key = record { inside = omega arith; few = omega arith; finds = sought-all ks key ∙ ap (λ (n : ℕ). record { at = (sought ks key 0 (length ks)).at; looks = n }) (sym (zero-add _)) }

module _ (ks : List ℕ) (key start end looks : ℕ) (g : Going ks key start end looks) where
  again : {f : Found} → sought ks key start end ≡ looked f → halving ks key ≡ counted (looks + 1) f
  again {f} e = g.finds ∙ ap (counted looks) e ∙ ap (λ (n : ℕ). record { at = f.at; looks = n }) (omega arith)

  pub going-none : end ≤ start → record { at = key_count; looks = looks } ≡ halving ks key
  going-none h = sym (g.finds ∙ ap (counted looks) (sought-none ks key start end h) ∙ ap (λ (n : ℕ). record { at = key_count; looks = n }) (add-zero looks))

  module _ (h : start < end) where
    pub going-same : get_or ks (middle_of start end) 0 ≡ key → record { at = middle_of start end; looks = looks + 1 } ≡ halving ks key
    going-same e = sym (again (sought-same ks key start end h e) ∙ ap (λ (n : ℕ). record { at = middle_of start end; looks = n }) (add-zero (looks + 1)))

    pub going-below : key < get_or ks (middle_of start end) 0 → Going ks key start (middle_of start end) (looks + 1)
    going-below e = record { inside = omega (arith, g.inside); few = omega (arith, g.few); finds = again (sought-below ks key start end h e) }

    pub going-above : get_or ks (middle_of start end) 0 < key → Going ks key (middle_of start end + 1) end (looks + 1)
    going-above e = record { inside = g.inside; few = omega (arith, g.few); finds = again (sought-above ks key start end h e) }

-- ## The keys that are there

-- as many as there are at most
pub at_most : (n m : ℕ) (l : List ℕ) → length l ≡ m → take (min n m) l ≡ take n l
at_most n m l e =
    by-test (ltb m n)
    (λ t. let h : m ≤ n = omega (arith, ltb-true m n t) in rw (min-eq_right h) (take_all m l (omega arith) ∙ sym (take_all n l (omega arith))))
    (λ t. rw (min-eq_left (ltb-false m n t)))
