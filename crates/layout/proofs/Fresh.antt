-- What a setup leaves. Assumes nothing.
use mathlib.Core.Path.{◌≡◌, refl, ap, sym, ◌∙◌}
use mathlib.Core.Bool.{true}
use mathlib.Core.List.{List, [], ◌∷◌, ◌++◌, append_assoc, append-nil}
use Prim.Native.Nat.{ℕ, zero, suc, ◌+◌, ◌*◌, ◌≤◌, ◌<◌}
use native.Mathlib.Nat.{add-zero, zero-add}
use native.Mathlib.Omega.{arith}
use lib.Dec.{ltb, lit<}
use lib.ListN.{length, get_or, set, replicate, length-append, length-set, length-replicate}
use lib.Seq.{get_or-set_same, get_or-set_other}
use borrow.Author.Tests.{le-ltb, eq-eqb}
use Rattle.bits.specs.Field.{pick}
use Rattle.arrays.specs.Runs.{stored}
use Rattle.arrays.proofs.Running.{length-stored, stored-before, stored-after, stored_in, stored-then}
use Rattle.receiver.specs.declared.Setup.{Setup}
use Rattle.receiver.specs.Channels.{key_count, places}
use Rattle.csn1.specs.Told.{padded}
use Rattle.receiver.specs.Model.{empty_slot, no_cell, no_key, new_receiver, key_places, set_places}
use Rattle.receiver.specs.Step.{most_entries, no_told}
use Rattle.layout.specs.Octets.{le_at, low_octets, tabulate}
use Rattle.layout.specs.Layout.{tick_from, cell_from, count_from, mark_from, keys_from, sets_from, kinds_from, answer_from, paged_from, state_length, mark_octets}
use Rattle.layout.specs.Layout.{is_marked, kind_place, slot_no, key_no, set_no, cell_at, cell_octets, decode_of, told_no, last_of, keys_octets, fresh_octets}
use Rattle.layout.specs.Setup.{no_answer}
use Rattle.layout.proofs.Numbers.{length-octets, le_ext, le_zero, le_alone, le_before, le_set, table_ext, table_same, table-list}
use Rattle.layout.proofs.Decoding.{field, numbers-same, cell_same, same-receiver, slot-empty, cell-fits, cell-back, paged-none}

-- ## The keys

pub length_keys : (ks : List ℕ) → length (keys_octets ks) ≡ 4 * length ks
length_keys [] = refl
length_keys (k ∷ ks) = simp (length-append, length-octets, length_keys ks) (omega arith)

keys_then : (l : List ℕ) (at k : ℕ) (ks : List ℕ)
    → stored l at (low_octets 4 k ++ keys_octets ks) ≡ stored (stored l at (low_octets 4 k)) (at + 4) (keys_octets ks)
keys_then l at k ks =
    sym (stored-then l at (low_octets 4 k) (keys_octets ks))
    ∙ ap (λ (n : ℕ). stored (stored l at (low_octets 4 k)) (at + n) (keys_octets ks)) (length-octets 4 k)

key_back : (l : List ℕ) (at : ℕ) (ks : List ℕ) (i : ℕ) → at + 4 * length ks ≤ length l → ((j : ℕ) → get_or ks j 0 < 4294967296) → i < length ks
    → le_at 4 (stored l at (keys_octets ks)) (at + 4 * i) ≡ get_or ks i 0
key_back l at [] i h b lt = absurd (omega arith)
key_back l at (k ∷ ks) zero h b lt =
    rw (keys_then l at k ks, add-zero at)
    (le_before 4 (stored l at (low_octets 4 k)) (at + 4) (keys_octets ks) at (omega arith) ∙ le_alone 4 k l at (omega arith) (b 0))
key_back l at (k ∷ ks) (suc i) h b lt =
    let q : at + 4 * suc i ≡ at + 4 + 4 * i = omega arith in
    rw (keys_then l at k ks, q)
    (key_back (stored l at (low_octets 4 k)) (at + 4) ks i (rw (length-stored l at (low_octets 4 k)) (omega arith)) (λ j. b (suc j)) (omega arith))

-- u: what an unused place holds
module _ (u : ℕ) where
  pub length-places : (n : ℕ) (ks : List ℕ) → length (padded u n ks) ≡ n
  length-places zero ks = refl
  length-places (suc n) [] = ap suc (length-places n [])
  length-places (suc n) (k ∷ ks) = ap suc (length-places n ks)

  places-below : u < 4294967296 → (n : ℕ) (ks : List ℕ) → ((j : ℕ) → get_or ks j 0 < 4294967296) → (j : ℕ) → get_or (padded u n ks) j 0 < 4294967296
  places-below h zero ks b j = lit< tt
  places-below h (suc n) [] b zero = h
  places-below h (suc n) [] b (suc j) = places-below h n [] b j
  places-below h (suc n) (k ∷ ks) b zero = b 0
  places-below h (suc n) (k ∷ ks) b (suc j) = places-below h n ks (λ i. b (suc i)) j

  -- all of them, stored from a place on, read back
  numbers_on : u < 4294967296 → (l : List ℕ) (at : ℕ) (ks : List ℕ) → at + 4 * key_count ≤ length l → ((j : ℕ) → get_or ks j 0 < 4294967296)
      → tabulate (λ i. le_at 4 (stored l at (keys_octets (padded u key_count ks))) (at + 4 * i)) 0 key_count ≡ padded u key_count ks
  numbers_on h l at ks w b =
      let vs = keys_octets (padded u key_count ks) in
      table-list (λ i. le_at 4 (stored l at vs) (at + 4 * i)) 0 0 key_count (padded u key_count ks) (length-places key_count ks)
      (λ i x.
      ap (λ (k : ℕ). le_at 4 (stored l at vs) (at + 4 * k)) (zero-add i)
      ∙ key_back l at (padded u key_count ks) i (rw (length-places key_count ks) w) (places-below h key_count ks b) (rw (length-places key_count ks) x))

-- ## All octets, over octets that are all 0

zeros : (n j : ℕ) → ◌≡◌ {A = ℕ} (get_or (replicate n 0) j 0) 0
zeros zero j = refl
zeros (suc n) zero = refl
zeros (suc n) (suc j) = zeros n j

module _ (z : List ℕ) (s : Setup) (keys sets : List ℕ) where
  abbrev times : List ℕ
  times = low_octets 4 s.tick ++ (low_octets 4 s.t3206 ++ (low_octets 4 s.t3208 ++ low_octets 4 s.t3210))

  abbrev timed : List ℕ
  timed = stored z tick_from times

  abbrev celled : List ℕ
  celled = stored timed cell_from (cell_octets no_cell)

  abbrev counted : List ℕ
  counted = set celled count_from (length keys)

  abbrev marked : List ℕ
  marked = stored counted mark_from mark_octets

  abbrev written : List ℕ
  written = keys_octets (key_places key_count keys)

  abbrev subscribed : List ℕ
  subscribed = stored marked keys_from written

  abbrev grouped : List ℕ
  grouped = keys_octets (set_places key_count sets)

  abbrev fresh : List ℕ
  fresh = stored subscribed sets_from grouped

  length-celled : length celled ≡ length z
  length-celled = length-stored timed cell_from (cell_octets no_cell) ∙ length-stored z tick_from times

  length-counted : length counted ≡ length z
  length-counted = length-set celled count_from (length keys) ∙ length-celled

  length_marked : length marked ≡ length z
  length_marked = length-stored counted mark_from mark_octets ∙ length-counted

  length-times : tick_from + length times ≡ cell_from
  length-times = simp (length-append, length-octets)

  length-written : keys_from + length written ≡ sets_from
  length-written = ap (λ (n : ℕ). keys_from + n) (length_keys (key_places key_count keys) ∙ ap (λ (n : ℕ). 4 * n) (length-places no_key key_count keys))

  length-grouped : sets_from + length grouped ≡ kinds_from
  length-grouped = ap (λ (n : ℕ). sets_from + n) (length_keys (set_places key_count sets) ∙ ap (λ (n : ℕ). 4 * n) (length-places 0 key_count sets))

  length-subscribed : length subscribed ≡ length z
  length-subscribed = length-stored marked keys_from written ∙ length_marked

  length-on : length fresh ≡ length z
  length-on = length-stored subscribed sets_from grouped ∙ length-subscribed

  mark_on : length z ≡ state_length → le_at 4 fresh mark_from ≡ le_at 4 mark_octets 0
  mark_on m =
      le_before 4 subscribed sets_from grouped mark_from (omega arith)
      ∙ le_before 4 marked keys_from written mark_from (omega arith)
      ∙ le_ext 4 marked mark_octets mark_from 0
      (λ i h. stored_in counted mark_from mark_octets i (omega (arith, length-counted)) (omega arith) ∙ ap (λ (k : ℕ). get_or mark_octets k 0) (sym (zero-add i)))

  module _ (o : (j : ℕ) → get_or z j 0 ≡ 0) where
    behind : (j : ℕ) → kinds_from ≤ j → get_or fresh j 0 ≡ 0
    behind j h =
        stored-after subscribed sets_from grouped j (omega (arith, length-grouped))
        ∙ stored-after marked keys_from written j (omega (arith, length-written))
        ∙ stored-after counted mark_from mark_octets j (omega arith)
        ∙ get_or-set_other celled count_from j (length keys) 0 (λ e. omega arith)
        ∙ stored-after timed cell_from (cell_octets no_cell) j (omega (arith, cell-fits no_cell))
        ∙ stored-after z tick_from times j (omega (arith, length-times))
        ∙ o j

    last_on : last_of fresh ≡ no_answer
    unfolding last_of
    last_on =
        let n : (at : ℕ) → kinds_from ≤ at → le_at 4 fresh at ≡ 0 = λ at h. le_zero 4 fresh at (λ k x. behind (at + k) (omega arith)) in
        let e : (last_of fresh).entries ≡ no_answer.entries =
        table_ext (λ j. pick (ltb j (le_at 4 fresh (answer_from + 8))) (told_no fresh j) no_told) (λ j. no_told) 0 most_entries
        (λ j a b. ap (λ (x : ℕ). pick (ltb j x) (told_no fresh j) no_told) (n (answer_from + 8) (omega arith)) ∙ rw (le-ltb j 0 (omega arith)) refl)
        in
        let q = paged-none fresh (λ k h. behind (paged_from + k) (omega arith)) in
        λ i. record { expired = n answer_from (omega arith) i; dropped = n (answer_from + 4) (omega arith) i; count = n (answer_from + 8) (omega arith) i; entries = e i; paged = q i }

    module _ (m : length z ≡ state_length) (b : (j : ℕ) → get_or keys j 0 < 4294967296) (g : (j : ℕ) → get_or sets j 0 < 4294967296) where
      time-on : (x : ℕ) (p q : List ℕ) (k n : ℕ) → times ≡ p ++ low_octets 4 x ++ q → length p ≡ k → length q ≡ n → k + 4 + n ≡ cell_from → x < 4294967296
          → le_at 4 fresh (tick_from + k) ≡ x
      time-on x p q k n e u v w lt =
          le_before 4 subscribed sets_from grouped (tick_from + k) (omega arith)
          ∙ le_before 4 marked keys_from written (tick_from + k) (omega arith)
          ∙ le_before 4 counted mark_from mark_octets (tick_from + k) (omega arith)
          ∙ le_set 4 celled count_from (length keys) (tick_from + k) (λ e. omega arith)
          ∙ le_before 4 timed cell_from (cell_octets no_cell) (tick_from + k) (omega arith)
          ∙ field times z tick_from 4 x p q k n e u v (omega arith) lt

      keys_on : tabulate (key_no fresh) 0 key_count ≡ key_places key_count keys
      keys_on =
          numbers-same keys_from subscribed fresh (λ j x y. stored-before subscribed sets_from grouped j (omega arith))
          ∙ numbers_on no_key (lit< tt) marked keys_from keys (omega (arith, length_marked)) b

      sets-on : tabulate (set_no fresh) 0 key_count ≡ set_places key_count sets
      sets-on = numbers_on 0 (lit< tt) subscribed sets_from sets (omega (arith, length-subscribed)) g

      cell-on : cell_at fresh ≡ no_cell
      cell-on =
          cell_same celled fresh
          (λ j x y.
          stored-before subscribed sets_from grouped j (omega arith) ∙ stored-before marked keys_from written j (omega arith) ∙ stored-before counted mark_from mark_octets j (omega arith)
          ∙ get_or-set_other celled count_from j (length keys) 0 (λ e. omega arith))
          ∙ cell-back timed no_cell (rw (length-stored z tick_from times) (omega arith))

      count-on : get_or fresh count_from 0 ≡ length keys
      count-on =
          stored-before subscribed sets_from grouped count_from (omega arith)
          ∙ stored-before marked keys_from written count_from (omega arith)
          ∙ stored-before counted mark_from mark_octets count_from (omega arith)
          ∙ get_or-set_same celled count_from (length keys) 0 (omega (arith, length-celled))

      decode-on : s.tick < 4294967296 → s.t3206 < 4294967296 → s.t3208 < 4294967296 → s.t3210 < 4294967296
          → decode_of fresh ≡ new_receiver s (key_places key_count keys) (set_places key_count sets) (length keys)
      unfolding decode_of
      decode-on u v w x =
          same-receiver (decode_of fresh) (new_receiver s (key_places key_count keys) (set_places key_count sets) (length keys))
          (table_same (slot_no fresh) empty_slot 0 places (λ i a b. slot-empty fresh i (behind (kind_place i) (omega arith))))
          keys_on
          sets-on
          count-on
          (time-on s.tick [] (low_octets 4 s.t3206 ++ (low_octets 4 s.t3208 ++ low_octets 4 s.t3210)) 0 12 refl refl (simp (length-append, length-octets)) refl u)
          (time-on s.t3206 (low_octets 4 s.tick) (low_octets 4 s.t3208 ++ low_octets 4 s.t3210) 4 8 (simp append_assoc) (length-octets 4 _)
          (simp (length-append, length-octets)) refl v)
          (time-on s.t3208 (low_octets 4 s.tick ++ low_octets 4 s.t3206) (low_octets 4 s.t3210) 8 4 (simp append_assoc)
          (simp (length-append, length-octets)) (length-octets 4 _) refl w)
          (time-on s.t3210 (low_octets 4 s.tick ++ (low_octets 4 s.t3206 ++ low_octets 4 s.t3208)) [] 12 0 (simp (append_assoc, append-nil))
          (simp (length-append, length-octets)) refl refl x)
          cell-on

-- ## A setup's octets

module _ (s : Setup) (keys sets : List ℕ) where
  pub length-fresh : length (fresh_octets s keys sets) ≡ state_length
  unfolding fresh_octets
  length-fresh = length-on (replicate state_length 0) s keys sets ∙ length-replicate {A = ℕ} state_length 0

  mark_read : le_at 4 (fresh_octets s keys sets) mark_from ≡ le_at 4 mark_octets 0
  unfolding fresh_octets
  mark_read = mark_on (replicate state_length 0) s keys sets (length-replicate {A = ℕ} state_length 0)

  pub mark_fresh : is_marked (fresh_octets s keys sets) ≡ true
  unfolding is_marked
  mark_fresh =
      rw (eq-eqb (length (fresh_octets s keys sets)) state_length length-fresh) (eq-eqb (le_at 4 (fresh_octets s keys sets) mark_from) (le_at 4 mark_octets 0) mark_read)

  pub last-fresh : last_of (fresh_octets s keys sets) ≡ no_answer
  unfolding fresh_octets
  last-fresh = last_on (replicate state_length 0) s keys sets (zeros state_length)

  pub decode_fresh : s.tick < 4294967296 → s.t3206 < 4294967296 → s.t3208 < 4294967296 → s.t3210 < 4294967296 → ((j : ℕ) → get_or keys j 0 < 4294967296)
      → ((j : ℕ) → get_or sets j 0 < 4294967296)
      → decode_of (fresh_octets s keys sets) ≡ new_receiver s (key_places key_count keys) (set_places key_count sets) (length keys)
  unfolding fresh_octets
  decode_fresh u v w x b g = decode-on (replicate state_length 0) s keys sets (zeros state_length) (length-replicate {A = ℕ} state_length 0) b g u v w x
