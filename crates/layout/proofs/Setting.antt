-- The octets that a setup writes: zeros, the keys place after place, and what they are read as. Assumes nothing.
use mathlib.Core.Path.{◌≡◌, refl, sym, ap, ◌∙◌}
use mathlib.Core.Bool.{true, false}
use mathlib.Core.List.{List, [], ◌∷◌, ◌++◌, append_assoc, append-nil}
use Prim.Native.Nat.{ℕ, zero, suc, ◌+◌, ◌*◌, ◌≤◌, ◌<◌}
use native.Mathlib.Omega.{arith}
use lib.Dec.{ltb, eqb}
use lib.ListN.{length, get_or, set, take, replicate, get_or-replicate, length-replicate}
use lib.Seq.{get_or-set_same, get_or-set_other, ext_get_or, take-suc, take_all, length-take-le}
use borrow.Author.Tests.{ltb-true, ltb-false, eq-eqb, ne_eqb}
use Rattle.csn1.specs.Format.{ground}
use Rattle.arrays.specs.Runs.{stored}
use Rattle.arrays.proofs.Running.{more}
use Rattle.receiver.specs.declared.Setup.{Setup}
use Rattle.receiver.specs.Channels.{key_count}
use Rattle.csn1.specs.Told.{padded}
use Rattle.receiver.specs.Model.{no_cell, new_receiver, key_places, set_places, setup_right, started_of}
use Rattle.receiver.proofs.Cases.{by-test}
use Rattle.layout.specs.Octets.{le_at, low_octets}
use Rattle.layout.specs.Layout.{tick_from, timers_from, cell_from, count_from, mark_from, keys_from, sets_from, state_length}
use Rattle.layout.specs.Layout.{is_state, layout_number, mark_octets, is_marked, cell_octets, decode_of, keys_octets, fresh_octets}
use Rattle.layout.specs.Setup.{setup_code, setup_octets, SetUp}
use Rattle.layout.proofs.States.{at-state, no_state}
use Rattle.layout.proofs.Numbers.{length-octets, four_runs}
use Rattle.layout.proofs.Fresh.{length_keys, length-fresh, last-fresh}

-- ## Zeros

pub zero-next : (b : List ℕ) (i : ℕ) → i < length b → ((j : ℕ) → j < i → get_or b j 0 ≡ 0) → (j : ℕ) → j < i + 1 → get_or (set b i 0) j 0 ≡ 0
zero-next b i h z j k =
    by-test (ltb j i)
    (λ p. let q = ltb-true j i p in get_or-set_other b i j 0 0 (λ e. omega (arith, e, q)) ∙ z j q)
    (λ p. let e : j ≡ i = omega (arith, ltb-false j i p) in rw e (get_or-set_same b i 0 0 h))

pub zeroed : (b : List ℕ) (n : ℕ) → length b ≡ n → ((j : ℕ) → j < n → get_or b j 0 ≡ 0) → b ≡ replicate n 0
zeroed b n q z =
    ext_get_or 0 b (replicate n 0) (q ∙ sym (length-replicate n 0))
    (λ i h. let k : i < n = omega (arith, h, q) in z i k ∙ sym (get_or-replicate n i 0 0 k))

-- ## Keys

keys_one : (a : List ℕ) (k : ℕ) → keys_octets (a ++ (k ∷ [])) ≡ keys_octets a ++ low_octets 4 k
keys_one [] k = append-nil (low_octets 4 k)
keys_one (x ∷ a) k = ap (λ (r : List ℕ). low_octets 4 x ++ r) (keys_one a k) ∙ sym (append_assoc (low_octets 4 x) (keys_octets a) (low_octets 4 k))

-- u: what an unused place holds
pub place_at : (u n : ℕ) (l : List ℕ) (i : ℕ) → i < n → get_or l i u ≡ get_or (padded u n l) i 0
place_at u zero l i h = absurd (omega (arith, h))
place_at u (suc n) [] zero h = refl
place_at u (suc n) [] (suc i) h = place_at u n [] i (omega (arith, h))
place_at u (suc n) (x ∷ l) zero h = refl
place_at u (suc n) (x ∷ l) (suc i) h = place_at u n l i (omega (arith, h))

-- the next key is stored behind those before it
pub keys_next : (l b : List ℕ) (at : ℕ) (ks : List ℕ) (i k : ℕ)
    → i < length ks
    → k ≡ get_or ks i 0
    → b ≡ stored l at (keys_octets (take i ks))
    → stored b (at + 4 * i) (low_octets 4 k) ≡ stored l at (keys_octets (take (i + 1) ks))
keys_next l b at ks i k h e p =
    let n : length (keys_octets (take i ks)) ≡ 4 * i = length_keys (take i ks) ∙ ap (λ (m : ℕ). 4 * m) (length-take-le i ks (omega (arith, h))) in
    let s : i + 1 ≡ suc i = omega arith in
    let q : keys_octets (take (i + 1) ks) ≡ keys_octets (take i ks) ++ low_octets 4 k
    = ap (λ (m : ℕ). keys_octets (take m ks)) s ∙ ap keys_octets (take-suc ks i 0 h) ∙ keys_one (take i ks) (get_or ks i 0) ∙ ap (λ (m : ℕ). keys_octets (take i ks) ++ low_octets 4 m) (sym e) in
    more (4 * i) l b _ at (keys_octets (take i ks)) (low_octets 4 k) p n refl ∙ ap (stored l at) (sym q)

pub keys_all : (ks : List ℕ) (i : ℕ) → length ks ≤ i → keys_octets (take i ks) ≡ keys_octets ks
keys_all ks i h = ap keys_octets (take_all i ks h)

-- ## A setup

module _ (l : List ℕ) (s : Setup) (keys sets : List ℕ) where
  pub set_wrong : (length l ≡ state_length → ⊥) → 13 ≡ setup_code l s keys sets
  unfolding setup_code
  set_wrong z = sym (no_state l _ 13 z)

  set-state : length l ≡ state_length → (started_of s keys sets).refusal.number ≡ setup_code l s keys sets
  unfolding setup_code
  set-state w = sym (at-state l _ 13 w)

  pub set_not_right : length l ≡ state_length → setup_right s keys sets ≡ false → 10 ≡ setup_code l s keys sets
  unfolding started_of ground
  set_not_right w p = rw p at (set-state w)

  set-right : length l ≡ state_length → setup_right s keys sets ≡ true → 0 ≡ setup_code l s keys sets
  unfolding started_of
  set-right w p = rw p at (set-state w)

  pub set-refused : (n : ℕ) → n ≡ setup_code l s keys sets → (n ≡ 0 → ⊥) → SetUp l s keys sets l n
  unfolding setup_octets
  set-refused n q z =
      let b : eqb (setup_code l s keys sets) 0 ≡ false = ne_eqb (setup_code l s keys sets) 0 (λ e. z (q ∙ e)) in
      record { number = q; octets = rw b; receiver = λ e. absurd (z e); answer = λ e. absurd (z e) }

  started-right : setup_right s keys sets ≡ true → new_receiver s (key_places key_count keys) (set_places key_count sets) (length keys) ≡ (started_of s keys sets).receiver
  unfolding started_of
  started-right p = rw p

  pub set-accepted : length l ≡ state_length
      → setup_right s keys sets ≡ true
      → decode_of (fresh_octets s keys sets) ≡ new_receiver s (key_places key_count keys) (set_places key_count sets) (length keys)
      → SetUp l s keys sets (fresh_octets s keys sets) 0
  unfolding setup_octets
  set-accepted w p d =
      let q = set-right w p in
      let b : eqb (setup_code l s keys sets) 0 ≡ true = ap (λ n. eqb n 0) (sym q) in
      record { number = q; octets = rw b; receiver = λ e. d ∙ started-right p; answer = λ e. last-fresh s keys sets }

  -- what an accepted setup says of the setup by value, and of the octets that it leaves
  pub set-started : setup_code l s keys sets ≡ 0 → (started_of s keys sets).refusal.number ≡ 0
  unfolding setup_code
  set-started q = by-test (is_state l) (λ p. rw p at q) (λ p. let z : ◌≡◌ {A = ℕ} 13 0 = rw p at q in absurd (omega arith))

  pub set-left : (left : List ℕ) (code : ℕ) → SetUp l s keys sets left code → (code ≡ 0 → ⊥) → left ≡ l
  unfolding setup_octets
  set-left left code u z =
      let b : eqb (setup_code l s keys sets) 0 ≡ false = ne_eqb (setup_code l s keys sets) 0 (λ e. z (u.number ∙ e)) in
      u.octets ∙ rw b

  pub set-fresh : (left : List ℕ) (code : ℕ) → SetUp l s keys sets left code → code ≡ 0 → left ≡ fresh_octets s keys sets
  unfolding setup_octets
  set-fresh left code u z =
      let b : eqb (setup_code l s keys sets) 0 ≡ true = ap (λ n. eqb n 0) (sym u.number ∙ z) in
      u.octets ∙ rw b

  pub set-length : (left : List ℕ) → SetUp l s keys sets left 0 → length left ≡ state_length
  set-length left u = ap length (set-fresh left 0 u refl) ∙ length-fresh s keys sets

-- the mark as a number
abbrev mark_number : ℕ
mark_number = 65 + 256 * (72 + 256 * (75 + 256 * layout_number))

mark_number_lem : le_at 4 mark_octets 0 ≡ mark_number
unfolding le_at
mark_number_lem = refl

mark_written : low_octets 4 mark_number ≡ mark_octets
unfolding low_octets
mark_written = refl

pub mark_wrong : (l : List ℕ) → (length l ≡ state_length → ⊥) → false ≡ is_marked l
unfolding is_marked
mark_wrong l z = rw (ne_eqb (length l) state_length z)

pub mark_right : (l : List ℕ) → length l ≡ state_length → (x : ℕ) → x ≡ le_at 4 l mark_from → eqb x mark_number ≡ is_marked l
unfolding is_marked
mark_right l w x e =
    rw (eq-eqb (length l) state_length w, mark_number_lem, e)

-- the steps of filling, in their order
pub filled : (s : Setup) (keys sets z a b c d n m k e : List ℕ)
    → z ≡ replicate state_length 0
    → a ≡ stored z tick_from (low_octets 4 s.tick)
    → b ≡ stored a timers_from (low_octets 4 s.t3206)
    → c ≡ stored b (timers_from + 4) (low_octets 4 s.t3208)
    → d ≡ stored c (timers_from + 8) (low_octets 4 s.t3210)
    → n ≡ stored d cell_from (cell_octets no_cell)
    → m ≡ stored (set n count_from (length keys)) mark_from (low_octets 4 mark_number)
    → k ≡ stored m keys_from (keys_octets (key_places key_count keys))
    → e ≡ stored k sets_from (keys_octets (set_places key_count sets))
    → e ≡ fresh_octets s keys sets
unfolding fresh_octets
filled s keys sets z a b c d n m k e pz pa pb pc pd pn pm pk pe =
    let x = low_octets 4 s.tick in
    let y = low_octets 4 s.t3206 in
    let w = low_octets 4 s.t3208 in
    let v = low_octets 4 s.t3210 in
    let times : d ≡ stored (replicate state_length 0) tick_from (x ++ (y ++ (w ++ v))) =
    four_runs z a b c tick_from 4 4 x y w (length-octets 4 s.tick) (length-octets 4 s.t3206) pa pb pc d 4 v (length-octets 4 s.t3208) pd
    ∙ ap (λ (l : List ℕ). stored l tick_from (x ++ (y ++ (w ++ v)))) pz
    in
    rw (pe, pk, pm, mark_written, pn, times)
