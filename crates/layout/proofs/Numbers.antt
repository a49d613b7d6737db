-- Numbers in octets, tables: laws for every width. Assumes nothing.
use mathlib.Core.Path.{◌≡◌, refl, ap, ap₂, sym, ◌∙◌}
use mathlib.Core.List.{List, [], ◌∷◌, ◌++◌, append_assoc, append-nil}
use Prim.Native.Nat.{ℕ, zero, suc, ◌+◌, ◌*◌, ◌/◌, ◌%◌, ◌^◌, ◌≤◌, ◌<◌}
use native.Mathlib.Nat.{add-zero, zero-add, zero-mul, add_assoc, add-suc, suc-add, pow-suc, div-lt_iff_lt-mul, div-div-eq-div-mul}
use native.Mathlib.Omega.{arith}
use lib.Dec.{lit<}
use lib.ListN.{length, get_or, set, replicate, length-append}
use lib.Seq.{get_or-append-add, get_or-set_other}
use Rattle.arrays.specs.Runs.{stored}
use Rattle.arrays.proofs.Running.{stored-before, stored_in, more}
use Rattle.layout.specs.Octets.{le_at, low_octets, tabulate}

-- ## A number, octet by octet

pub le4 : (l : List ℕ) (at : ℕ)
    → le_at 4 l at ≡ get_or l at 0 + (get_or l (at + 1) 0 + (get_or l (at + 2) 0 + get_or l (at + 3) 0 * 256) * 256) * 256
unfolding le_at
le4 l at = simp (add_assoc, add-zero, zero-mul)

pub le8 : (l : List ℕ) (at : ℕ) → le_at 8 l at ≡ le_at 4 l at + le_at 4 l (at + 4) * 4294967296
unfolding le_at
le8 l at = simp (add_assoc, add-zero, zero-mul) (omega arith)

pub le_bytes : (l : List ℕ) (at : ℕ)
    → le_at 8 l at ≡ get_or l at 0 + get_or l (at + 1) 0 * 256 + get_or l (at + 2) 0 * 65536 + get_or l (at + 3) 0 * 16777216 + get_or l (at + 4) 0 * 4294967296
    + get_or l (at + 5) 0 * 1099511627776 + get_or l (at + 6) 0 * 281474976710656 + get_or l (at + 7) 0 * 72057594037927936
unfolding le_at
le_bytes l at = simp (add_assoc, add-zero, zero-mul) (omega arith)

list8 : {a b c d e f g h a' b' c' d' e' f' g' h' : ℕ}
    → a ≡ a' → b ≡ b' → c ≡ c' → d ≡ d' → e ≡ e' → f ≡ f' → g ≡ g' → h ≡ h'
    → ◌≡◌ {A = List ℕ} (a ∷ b ∷ c ∷ d ∷ e ∷ f ∷ g ∷ h ∷ []) (a' ∷ b' ∷ c' ∷ d' ∷ e' ∷ f' ∷ g' ∷ h' ∷ [])
list8 p q r s t u v w = cc

pub octets8 : (x : ℕ) → low_octets 4 (x % 4294967296) ++ low_octets 4 (x / 4294967296) ≡ low_octets 8 x
unfolding low_octets
octets8 x =
    simp div-div-eq-div-mul
    (list8 (omega arith) (omega arith) (omega arith) (omega arith) (omega arith) (omega arith) (omega arith) (omega arith))

pub length-octets : (w x : ℕ) → length (low_octets w x) ≡ w
unfolding low_octets
length-octets zero x = refl
length-octets (suc w) x = ap suc (length-octets w (x / 256))

-- ## Runs that stand one behind the other

module _ (l l₁ l₂ l₃ : List ℕ) (at j k : ℕ) (a b c : List ℕ) (m : length a ≡ j) (n : length b ≡ k) (p : l₁ ≡ stored l at a) (q : l₂ ≡ stored l₁ (at + j) b)
    (r : l₃ ≡ stored l₂ (at + (j + k)) c) where
  pub three_runs : l₃ ≡ stored l at (a ++ (b ++ c))
  three_runs = more (j + k) l l₂ l₃ at (a ++ b) c (more j l l₁ l₂ at a b p m q) (simp (length-append, m, n)) r ∙ ap (stored l at) (append_assoc a b c)

  pub four_runs : (l₄ : List ℕ) (i : ℕ) (d : List ℕ) → length c ≡ i → l₄ ≡ stored l₃ (at + (j + (k + i))) d → l₄ ≡ stored l at (a ++ (b ++ (c ++ d)))
  four_runs l₄ i d h s =
      more (j + (k + i)) l l₃ l₄ at (a ++ (b ++ c)) d three_runs (simp (length-append, m, n, h)) s ∙ ap (stored l at) (simp append_assoc)

-- ## Reading back

-- equal octets, equal numbers
pub le_ext : (w : ℕ) (l l' : List ℕ) (at at' : ℕ) → ((n : ℕ) → n < w → get_or l (at + n) 0 ≡ get_or l' (at' + n) 0)
    → le_at w l at ≡ le_at w l' at'
unfolding le_at
le_ext zero l l' at at' e = refl
le_ext (suc w) l l' at at' e =
    ap₂ (λ (m n : ℕ). m + n * 256) (simp add-zero at (e 0 (omega arith)))
    (le_ext w l l' (at + 1) (at' + 1) (λ n h. rw (add_assoc at 1 n, add_assoc at' 1 n) (e (1 + n) (omega arith))))

pub le_below : (w : ℕ) (l : List ℕ) (at : ℕ) → ((j : ℕ) → get_or l j 0 < 256) → le_at w l at < 256 ^ w
unfolding le_at
le_below zero l at o = lit< tt
le_below (suc w) l at o = rw pow-suc (omega (arith, le_below w l (at + 1) o, o at))

-- octets that are all 0 are the number 0, and the other way round
pub le_zero : (w : ℕ) (l : List ℕ) (at : ℕ) → ((n : ℕ) → n < w → get_or l (at + n) 0 ≡ 0) → le_at w l at ≡ 0
unfolding le_at
le_zero zero l at e = refl
le_zero (suc w) l at e =
    let a : get_or l at 0 ≡ 0 = simp add-zero at (e 0 (omega arith)) in
    let b : le_at w l (at + 1) ≡ 0 = le_zero w l (at + 1) (λ n h. rw (add_assoc at 1 n) (e (1 + n) (omega arith))) in
    omega arith

pub zero_le : (w : ℕ) (l : List ℕ) (at : ℕ) → le_at w l at ≡ 0 → (n : ℕ) → n < w → get_or l (at + n) 0 ≡ 0
unfolding le_at
zero_le zero l at e n h = absurd (omega arith)
zero_le (suc w) l at e zero h = rw add-zero (omega arith)
zero_le (suc w) l at e (suc n) h =
    let q : at + suc n ≡ at + 1 + n = omega arith in
    let z : le_at w l (at + 1) ≡ 0 = omega arith in
    rw q (zero_le w l (at + 1) z n (omega arith))

-- what is written reads back
back : (w x : ℕ) (b : List ℕ) → x < 256 ^ w → le_at w (low_octets w x ++ b) 0 ≡ x
unfolding le_at low_octets
back zero x b h = omega arith
back (suc w) x b h =
    let lt : x / 256 < 256 ^ w = (div-lt_iff_lt-mul (lit< tt)).1 (rw pow-suc at h) in
    let e : le_at w (x % 256 ∷ (low_octets w (x / 256) ++ b)) (0 + 1) ≡ le_at w (low_octets w (x / 256) ++ b) 0 =
    le_ext w (x % 256 ∷ (low_octets w (x / 256) ++ b)) (low_octets w (x / 256) ++ b) (0 + 1) 0
    (λ n h. let q : 0 + 1 + n ≡ suc n = omega arith in rw (q, zero-add n))
    in
    ap (λ (n : ℕ). x % 256 + n * 256) (e ∙ back w (x / 256) b lt) ∙ omega arith

-- the number whose octets stand from place k of a run that was stored at place at
pub le_stored : (w x : ℕ) (l a b : List ℕ) (at k : ℕ) → length a ≡ k → at + (k + w + length b) ≤ length l → x < 256 ^ w
    → le_at w (stored l at (a ++ low_octets w x ++ b)) (at + k) ≡ x
le_stored w x l a b at k n fits lt =
    let vs = a ++ low_octets w x ++ b in
    let m : length vs ≡ k + w + length b = simp (length-append, length-octets, n) in
    le_ext w (stored l at vs) (low_octets w x ++ b) (at + k) 0
    (λ i h.
    let p : get_or (stored l at vs) (at + k + i) 0 ≡ get_or vs (k + i) 0 = rw (add_assoc at k i) (stored_in l at vs (k + i) (omega arith) (omega arith)) in
    let q : get_or vs (k + i) 0 ≡ get_or (low_octets w x ++ b) (0 + i) 0 = rw (append_assoc, ← n, zero-add) (get_or-append-add a (low_octets w x ++ b) i 0) in
    p ∙ q)
    ∙ back w x b lt

-- a number stored alone
pub le_alone : (w x : ℕ) (l : List ℕ) (at : ℕ) → at + w ≤ length l → x < 256 ^ w → le_at w (stored l at (low_octets w x)) at ≡ x
le_alone w x l at fits lt =
    let m = length-octets w x in
    le_ext w (stored l at (low_octets w x)) (low_octets w x ++ []) at 0
    (λ i h. stored_in l at (low_octets w x) i (omega arith) (omega arith) ∙ rw (append-nil (low_octets w x), zero-add i))
    ∙ back w x [] lt

-- numbers that a run of stores lies behind
pub le_before : (w : ℕ) (l : List ℕ) (at : ℕ) (vs : List ℕ) (j : ℕ) → j + w ≤ at → le_at w (stored l at vs) j ≡ le_at w l j
le_before w l at vs j h = le_ext w (stored l at vs) l j j (λ n k. stored-before l at vs (j + n) (omega arith))

pub le_set : (w : ℕ) (l : List ℕ) (at v j : ℕ) → (j ≤ at → j + w ≤ at) → le_at w (set l at v) j ≡ le_at w l j
le_set w l at v j h = le_ext w (set l at v) l j j (λ n k. get_or-set_other l at (j + n) v 0 (λ e. omega (arith, h (omega arith))))

-- ## Tables

module _ {A : Type 0} where
  pub length-table : (f : ℕ → A) (k n : ℕ) → length (tabulate f k n) ≡ n
  unfolding tabulate
  length-table f k zero = refl
  length-table f k (suc n) = ap suc (length-table f (suc k) n)

  pub get_d_table : (f : ℕ → A) (k n i : ℕ) (d : A) → i < n → get_or (tabulate f k n) i d ≡ f (k + i)
  unfolding tabulate
  get_d_table f k zero i d h = absurd (omega arith)
  get_d_table f k (suc n) zero d h = rw add-zero
  get_d_table f k (suc n) (suc i) d h = rw (add-suc, ← suc-add) (get_d_table f (suc k) n i d (omega arith))

  pub table_ext : (f g : ℕ → A) (k n : ℕ) → ((i : ℕ) → k ≤ i → i < k + n → f i ≡ g i) → tabulate f k n ≡ tabulate g k n
  unfolding tabulate
  table_ext f g k zero e = refl
  table_ext f g k (suc n) e =
      ap₂ (λ (x : A) (r : List A). x ∷ r) (e k (omega arith) (omega arith)) (table_ext f g (suc k) n (λ i a b. e i (omega arith) (omega arith)))

  -- another function at one place
  pub table-set : (f g : ℕ → A) (k n i : ℕ) → i < n → ((j : ℕ) → k ≤ j → j < k + n → (j ≡ k + i → ⊥) → f j ≡ g j)
      → tabulate f k n ≡ set (tabulate g k n) i (f (k + i))
  unfolding tabulate
  table-set f g k zero i h e = absurd (omega arith)
  table-set f g k (suc n) zero h e =
      ap₂ (λ (x : A) (r : List A). x ∷ r) (rw add-zero) (table_ext f g (suc k) n (λ j a b. e j (omega arith) (omega arith) (λ q. omega arith)))
  table-set f g k (suc n) (suc i) h e =
      ap₂ (λ (x : A) (r : List A). x ∷ r) (e k (omega arith) (omega arith) (λ q. omega arith))
      (table-set f g (suc k) n i (omega arith) (λ j a b c. e j (omega arith) (omega arith) (λ q. c (omega arith))) ∙ rw (suc-add, ← add-suc))

  -- one value at every place
  pub table_same : (f : ℕ → A) (a : A) (k n : ℕ) → ((i : ℕ) → k ≤ i → i < k + n → f i ≡ a) → tabulate f k n ≡ replicate n a
  unfolding tabulate
  table_same f a k zero e = refl
  table_same f a k (suc n) e =
      ap₂ (λ (x : A) (r : List A). x ∷ r) (e k (omega arith) (omega arith)) (table_same f a (suc k) n (λ i x y. e i (omega arith) (omega arith)))

  -- a list is the table of its elements
  pub table-list : (f : ℕ → A) (d : A) (k n : ℕ) (l : List A) → length l ≡ n → ((i : ℕ) → i < n → f (k + i) ≡ get_or l i d) → tabulate f k n ≡ l
  unfolding tabulate
  table-list f d k zero [] h e = refl
  table-list f d k zero (x ∷ l) h e = absurd (omega arith)
  table-list f d k (suc n) [] h e = absurd (omega arith)
  table-list f d k (suc n) (x ∷ l) h e =
      ap₂ (λ (x : A) (r : List A). x ∷ r) (ap f (sym (add-zero k)) ∙ e 0 (omega arith))
      (table-list f d (suc k) n l (omega arith) (λ i y. ap f (suc-add k i ∙ sym (add-suc k i)) ∙ e (suc i) (omega arith)))
