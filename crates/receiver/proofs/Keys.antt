-- Looking up a key: what is found has the key, and a subscribed key is found; and the tests of a setup's keys. Assumes nothing.
use mathlib.Core.Path.{◌≡◌, refl, sym, ◌∙◌}
use mathlib.Core.Bool.{Bool, true, false}
use mathlib.Core.List.{List, [], ◌∷◌}
use Prim.Native.Nat.{ℕ, zero, suc, ◌+◌, ◌≤◌, ◌<◌}
use native.Mathlib.Numerals.{add-one}
use native.Mathlib.Omega.{arith}
use lib.ListN.{length, get_or}
use lib.Dec.{leb, ltb, eqb}
use borrow.Author.Tests.{lt-ltb, le-ltb, ltb-true, leb-true, eqb-true}
use Rattle.std.specs.Prelude.{nat_lt, nat_le, ◌&&◌}
use Rattle.std.specs.List.{list_all, IsAllAdjacentAnswer}
use Rattle.bits.specs.Field.{both}
use Rattle.bits.proofs.Answers.{both_true}
use Rattle.receiver.specs.declared.Setup.{Setup}
use Rattle.receiver.specs.Channels.{key_count}
use Rattle.receiver.specs.Halving.{first_of, rises}
use Rattle.receiver.specs.Count.{is_set, all_sets, sets_right}
use Rattle.receiver.specs.Model.{last_key, index_of, is_timer, all_low, setup_right}
use Rattle.receiver.proofs.Cases.{by-test}
use Rattle.receiver.proofs.Halving.{Finds, nothing, place, all-finds, rising, all_own, as_from-front}

both_false : (b : Bool) → both b false ≡ false
both_false true = refl
both_false false = refl

and_both : (b : Bool) {c d : Bool} → c ≡ d → (b && c) ≡ both b d
and_both true e = e
and_both false e = refl

-- ## The two laws

-- what is found stands among the keys, and has the key
pub found : (ks : List ℕ) (key : ℕ) → index_of ks key < key_count → (index_of ks key < length ks) × (get_or ks (index_of ks key) 0 ≡ key)
found ks key h = go h (all-finds ks key)
  where
    go : {at : ℕ} → at < key_count → Finds ks key 0 (length ks) at → (at < length ks) × (get_or ks at 0 ≡ key)
    go l (nothing e) = absurd (omega arith)
    go l (place a b e) = (b, e)

-- so what is found at one index is one key
pub same_index : (ks : List ℕ) (a b : ℕ) → index_of ks a < key_count → index_of ks a ≡ index_of ks b → a ≡ b
same_index ks a b h e = sym (found ks a h).1 ∙ rw e (found ks b (rw e at h)).1

module _ (ks : List ℕ) (r : rises ks ≡ true) where
  -- a key is found where it stands
  pub own-index : (i : ℕ) → i < length ks → index_of ks (get_or ks i 0) ≡ i
  own-index i h = all_own ks (rising ks r) i h

  -- which is where a search from the front finds it
  pub lent-index : (key : ℕ) → first_of ks key < length ks → index_of ks key ≡ first_of ks key
  lent-index key h = rw (lt-ltb (first_of ks key) (length ks) h) at (as_from-front ks (rising ks r) key)

  pub low-index : (key : ℕ) → length ks ≤ key_count → ltb (index_of ks key) key_count ≡ ltb (first_of ks key) (length ks)
  low-index key h =
      by-test (ltb (first_of ks key) (length ks))
      (λ p. let q = ltb-true (first_of ks key) (length ks) p in rw (lent-index key q, p) (lt-ltb (first_of ks key) key_count (omega arith)))
      (λ p. rw (as_from-front ks (rising ks r) key, p) (le-ltb key_count key_count (omega arith)))

-- ## What a setup asks of its keys, as the library's tests answer it

-- none is above the highest
pub low_all : (ks : List ℕ) → list_all (λ k. nat_le k last_key) ks ≡ all_low ks
unfolding all_low
low_all [] = refl
low_all (k ∷ ks) = and_both (leb k last_key) (low_all ks)

-- each set is right
pub sets_all : (ms : List ℕ) → list_all is_set ms ≡ all_sets ms
unfolding all_sets
sets_all [] = refl
sets_all (m ∷ ms) = and_both (is_set m) (sets_all ms)

-- each is above the one before it
rise_all : (ks : List ℕ) → ((k d : ℕ) → k + 1 < length ks → true ≡ ltb (get_or ks k d) (get_or ks (k + 1) d)) → rises ks ≡ true
unfolding rises
rise_all [] h = refl
rise_all (a ∷ []) h = refl
rise_all (a ∷ (b ∷ ks)) h = rw (sym (h 0 0 (omega arith)), rise_all (b ∷ ks) (λ k d l. rw (add-one k) (rw (add-one (suc k)) at (h (suc k) d (omega arith)))))

rise_not : (ks : List ℕ) (k : ℕ) → k + 1 < length ks → false ≡ ltb (get_or ks k 0) (get_or ks (k + 1) 0) → rises ks ≡ false
unfolding rises
rise_not [] k l h = absurd (omega arith)
rise_not (a ∷ []) k l h = absurd (omega arith)
rise_not (a ∷ (b ∷ ks)) zero l h = rw (sym h)
rise_not (a ∷ (b ∷ ks)) (suc k) l h = rw (rise_not (b ∷ ks) k (omega arith) (rw (add-one k) (rw (add-one (suc k)) at h))) (both_false (ltb a b))

pub rise_from : (ks : List ℕ) (r : Bool) → IsAllAdjacentAnswer (λ x y b. b ≡ nat_lt x y) ks r → r ≡ rises ks
rise_from ks true h = sym (rise_all ks h)
rise_from ks false (k, l, h) = sym (rise_not ks k l (h 0))

-- ## The keys of a setup

passed : (a b c d e : Bool) → both a (both b (both c (both d e))) ≡ true → (a ≡ true) × (e ≡ true)
passed true true true true e h = (refl, h)
passed true true true false e h = (cc, cc)
passed true true false d e h = (cc, cc)
passed true false c d e h = (cc, cc)
passed false b c d e h = (cc, cc)

-- those of an accepted one are few, and rise
pub right_keys : (s : Setup) (keys sets : List ℕ) → setup_right s keys sets ≡ true → (length keys ≤ key_count) × (rises keys ≡ true)
unfolding setup_right
right_keys s keys sets e =
    let p = passed (leb (length keys) key_count) (is_timer s.t3206) (is_timer s.t3208) (is_timer s.t3210) (both (sets_right keys sets) (both (all_low keys) (rises keys))) e in
    let q = both_true (sets_right keys sets) (both (all_low keys) (rises keys)) p.1 in
    (leb-true (length keys) key_count p.0, (both_true (all_low keys) (rises keys) q.1).1)

-- and so are its sets
pub right_sets : (s : Setup) (keys sets : List ℕ) → setup_right s keys sets ≡ true → length sets ≤ key_count
unfolding setup_right
right_sets s keys sets e =
    let p = passed (leb (length keys) key_count) (is_timer s.t3206) (is_timer s.t3208) (is_timer s.t3210) (both (sets_right keys sets) (both (all_low keys) (rises keys))) e in
    let q = both_true (eqb (length sets) (length keys)) (all_sets sets) (both_true (sets_right keys sets) (both (all_low keys) (rises keys)) p.1).0 in
    omega (arith, leb-true (length keys) key_count p.0, eqb-true (length sets) (length keys) q.0)
